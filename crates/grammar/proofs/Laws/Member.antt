pub mod AcceptedExample
pub mod Demanded
pub mod NoZeroInside
pub mod NodesBelow
pub mod RecordsSpelt
pub mod RefusedBounds
pub mod RefusedExactly
