-- The laws of the words of what was written.
pub mod Looks
pub mod Encodings
