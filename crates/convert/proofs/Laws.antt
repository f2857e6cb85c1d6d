pub mod Places
pub mod Pages
pub mod SameText
pub mod Steps
pub mod Utf8
