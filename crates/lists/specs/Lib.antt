-- What the code speaks of.
pub mod Found
-- Theorems about it.
pub mod Entries
pub mod Search
pub mod Fit
pub mod Tables
-- What it speaks of where it tells whose an event is, and theorems about that.
pub mod Owners
