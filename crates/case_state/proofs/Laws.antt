-- The laws of the state and of its test.
pub mod Counting
pub mod Tests
pub mod Valid
