pub mod Plain
pub mod Figure
