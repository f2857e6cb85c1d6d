pub mod Members
pub mod Laws
pub mod OneByOne
pub mod Isolation
pub mod Examples
