pub mod Looks
pub mod Sections
pub mod Encodings
pub mod Laws
