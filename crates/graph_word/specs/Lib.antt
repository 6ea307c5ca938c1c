pub mod Publications
pub mod Ends
pub mod Rule
pub mod Steps
pub use Rattle.session_model.specs.jack_types
pub use Rattle.session_model
