-- The laws of a member's cells at their positions.
pub mod Cells
pub mod OwnAxes
