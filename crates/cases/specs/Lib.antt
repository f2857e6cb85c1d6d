pub mod Steps
pub mod Answers
pub mod Theorem
pub mod Laws
