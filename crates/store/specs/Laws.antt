-- The laws of writing by a layout.
pub mod Refusals
pub mod Verdicts
pub mod Exactly
pub mod Stored
pub mod Lands
pub mod Trees
pub mod Bounds
pub mod Puts
pub mod Deliver
