pub mod Connections
pub use Rattle.session_laws.specs.jack_types
pub use Rattle.session_laws
pub use Rattle.session_laws.specs.session_model
