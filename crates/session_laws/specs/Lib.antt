pub mod LoopFree
pub mod Solutions
pub use Rattle.session_model.specs.jack_types
pub use Rattle.session_model
