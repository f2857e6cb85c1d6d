-- The laws of positions.
pub mod Among
pub mod Axis
pub mod Turned
pub mod Table
pub mod Bounds
pub mod Accepted
pub mod OneToOne
