-- The laws by which the first repeat is found.
pub mod Repeats
pub mod Places
