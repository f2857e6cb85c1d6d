-- The laws of counts.
pub mod Value
pub mod Normal
pub mod Whole
