pub mod LookWords
pub mod FieldWords
pub mod Laws
