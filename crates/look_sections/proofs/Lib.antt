mod Whole
pub mod Laws
