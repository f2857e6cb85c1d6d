pub mod Writing
pub mod Refused
pub mod Laws
