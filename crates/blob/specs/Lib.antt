pub mod Le
pub mod Reading
pub mod Places
pub mod Laid
