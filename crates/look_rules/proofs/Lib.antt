mod Versions
pub mod Laws
