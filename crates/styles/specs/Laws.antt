-- The laws of styles.
pub mod Colors
pub mod Exact
pub mod ByFields
mod Examples
