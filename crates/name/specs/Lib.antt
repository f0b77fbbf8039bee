-- The laws of a name that the proofs cite: of its text, of the tests before it, and of the word that says whether it ended.
pub mod Text
pub mod Sized
pub mod Ended
