pub mod Axes
pub mod Answers
pub mod Views
pub mod Examples
pub mod Laws
