-- The laws by which numbers that stand once each are found.
pub mod Leaves
pub mod Marks
