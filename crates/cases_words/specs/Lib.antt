pub mod StateWords
pub mod Calls
