pub mod Temp
pub mod Templates
