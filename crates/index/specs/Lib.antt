-- What is right.
pub mod Index
pub mod Call
-- What the code speaks of besides.
pub mod Read
