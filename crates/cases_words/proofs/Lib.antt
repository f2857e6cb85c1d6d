mod Calling
pub mod Laws
pub mod Theorem
