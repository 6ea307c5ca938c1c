pub mod Midi
pub mod Reads
pub mod Remaining
pub use Rattle.session_model.specs.jack_types
pub use Rattle.session_model
