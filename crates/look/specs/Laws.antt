-- The laws of looks.
pub mod Bounds
pub mod Lengths
pub mod Defaults
pub mod Separators
pub mod RefusedExactly
