pub mod Signatures
pub mod Tables
pub mod Elements
pub mod Places
pub mod Kinds
pub mod Checked
pub mod Sums
pub mod Counted
