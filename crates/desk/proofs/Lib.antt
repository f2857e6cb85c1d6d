mod Tests
mod Names
pub mod Laws
