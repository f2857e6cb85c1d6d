-- What the laws of streams and machines are stated with, and contracts too.
pub mod Steps
