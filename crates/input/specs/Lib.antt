pub mod Stopped
pub use Rattle.std.specs.Counts
pub use Rattle.std.specs.Io.KnownBytes
