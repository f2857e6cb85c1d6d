-- The laws of readers that give fields.
pub mod Slices
pub mod Letters
pub mod Shows
pub mod Gives
pub mod Failing
pub mod Exits
