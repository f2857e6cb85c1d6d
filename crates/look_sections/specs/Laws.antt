pub mod InMember
pub mod Names
pub mod Exactly
