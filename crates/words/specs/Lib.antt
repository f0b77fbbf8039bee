pub mod Guid
pub mod Rest
