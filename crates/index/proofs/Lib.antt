pub mod Capped
mod Walk
