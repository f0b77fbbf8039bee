-- Laws of the calls over the C boundary.
pub mod Laws
