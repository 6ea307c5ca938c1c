pub mod Gears
pub mod Openings
pub mod Insides
pub mod Runs
pub use Rattle.recorder_rings
