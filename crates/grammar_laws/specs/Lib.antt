pub mod Spellings
pub use Rattle.session_laws
pub use Rattle.session_laws.specs.session_model
