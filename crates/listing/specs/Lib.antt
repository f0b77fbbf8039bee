-- What is written: a listing's lines as bytes.
pub mod Rendered
-- What the building blocks speak of.
pub mod Put
-- Theorems about it.
pub mod Example
pub mod Laws
pub mod Listed
