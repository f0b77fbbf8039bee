pub mod Laws
pub mod Coded
pub mod Finds
pub mod Asks
pub mod Longer
