pub mod Sums
pub use Rattle.wave_laws.specs.jack_types
pub use Rattle.wave_laws.specs.session_model
pub use Rattle.wave_laws
