pub mod Choosing
pub use Rattle.script_words
