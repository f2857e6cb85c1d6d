-- Rows of records that are read and stored one after the other; and so the axis entries.
pub mod Rows
pub mod Axes
