pub mod Printing
pub use Rattle.grammar_laws
pub use Rattle.grammar_laws.specs.session_model
