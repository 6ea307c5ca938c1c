pub mod Readings
pub mod Rests
pub mod Counts
pub use Rattle.disk_files
pub use Rattle.disk_turns
