pub mod Layout
pub mod Member
pub mod Once
pub mod Table
