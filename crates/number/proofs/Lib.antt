-- What holds of it.
pub mod Forms
-- The code's way through a number.
pub mod Scan
