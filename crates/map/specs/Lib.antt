pub mod Until
pub mod Decides
pub mod Listed
pub mod Next
