-- What is right.
pub mod Number
-- What the code speaks of besides.
pub mod Scan
