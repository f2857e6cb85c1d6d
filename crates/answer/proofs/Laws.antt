-- Demand 3 holds of what is answered by a reading, and so do the statements beside it.
pub mod Examples
pub mod Holds
pub mod Theorems
