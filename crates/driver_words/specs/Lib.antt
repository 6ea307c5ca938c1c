pub mod Tapes
pub mod Rings
pub mod Feeding
pub mod Hearings
pub use Rattle.session_model.specs.jack_types
pub use Rattle.session_model
