pub mod Said
pub mod Contents
pub mod Number
pub mod Answers
pub mod Laws
pub mod Members
pub mod Nested
pub mod Examples
