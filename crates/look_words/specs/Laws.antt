-- The laws of a look as words.
pub mod Kept
pub mod Theorems
