-- The laws of shares, of the members of a list, and of the areas after a call.
pub mod Shares
pub mod Reading
pub mod Areas
pub mod Turns
