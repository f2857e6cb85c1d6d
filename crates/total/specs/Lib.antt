pub mod Count
pub mod Total
pub mod Words
pub mod Answers
pub mod Laws
