-- The laws of pages, of UTF-8 and of converting.
pub mod Places
