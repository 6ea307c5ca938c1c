pub mod Readings
pub mod Contents
pub mod Steps
pub mod Openings
pub use Rattle.samples.specs.session_model
