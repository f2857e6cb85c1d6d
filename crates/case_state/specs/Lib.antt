pub mod Cursor
pub mod Tests
