pub mod CellRead
pub mod Laws
