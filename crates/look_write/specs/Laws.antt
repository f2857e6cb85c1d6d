-- The laws of writing a look.
pub mod RefusedExactly
pub mod Theorems
pub mod OldFiles
pub mod Calls
