pub mod Blocks
pub mod Rings
pub mod Ends
pub mod Rule
pub mod Steps
pub use Rattle.driver_words
pub use Rattle.driver_words.specs.jack_types
pub use Rattle.driver_words.specs.session_model
