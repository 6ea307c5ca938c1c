pub mod Finishing
pub use Rattle.samples.specs.wave_laws
