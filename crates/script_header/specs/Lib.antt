pub mod Fronts
pub mod LineReads
pub mod Workers
pub use Rattle.script_commands.specs.script_words
