pub mod Rows
pub mod Filled
pub mod Kinds
pub mod Unknown
