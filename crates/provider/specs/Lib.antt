pub mod Wevt
pub mod Parts
