-- The laws of states as words.
pub mod Arrays
pub mod Back
