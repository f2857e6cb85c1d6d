pub mod Styles
pub mod Laws
