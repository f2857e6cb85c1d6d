-- The laws by which the contents of a Value are found.
pub mod Forms
pub mod Answers
pub mod Plain
pub mod Figure
pub mod Wider
