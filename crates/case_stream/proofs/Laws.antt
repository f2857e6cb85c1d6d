-- The laws of streams and machines.
pub mod Compose
pub mod Exact
pub mod Examples
pub mod Meaning
pub mod OneAnswer
pub mod Steps
pub mod Taken
pub mod Whole
