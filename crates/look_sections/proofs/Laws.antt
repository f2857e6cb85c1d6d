pub mod InMember
pub mod Calls
