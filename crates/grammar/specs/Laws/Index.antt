-- The laws of the product and of the index.
pub mod Product
pub mod Coordinates
