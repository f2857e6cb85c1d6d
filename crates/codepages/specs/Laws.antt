-- The laws by which the code is proved.
pub mod Passes
pub mod Branches
pub mod Blocks
pub mod Usual
pub mod Pairs
pub mod Back
pub mod Answers
