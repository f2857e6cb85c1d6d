mod Lent
mod Nth
pub mod Isolation
