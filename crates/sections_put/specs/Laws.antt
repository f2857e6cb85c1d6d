-- The laws of writing sections.
pub mod Puts
pub mod NoZero
pub mod Within
pub mod Long
pub mod ReadBack
mod Examples
