pub mod StyleRule
pub mod Checks
