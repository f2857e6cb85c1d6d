-- The laws by which a Value is read.
pub mod Forms
