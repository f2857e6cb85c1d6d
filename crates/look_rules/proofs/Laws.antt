-- The laws of the rule of styles.
pub mod Exactly
pub mod Examples
pub mod Kept
pub mod Listed
pub mod Own
pub mod Styled
pub mod Walk
