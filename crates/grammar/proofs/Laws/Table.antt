pub mod Groups
pub mod KeptTable
pub mod Leaves
pub mod RecordsPoint
pub mod RuleBounds
