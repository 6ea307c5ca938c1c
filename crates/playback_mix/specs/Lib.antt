pub mod Mixes
pub mod Insides
pub use Rattle.client_benches
pub use Rattle.client_wiring
pub use Rattle.client_wiring.specs.cycle_plan
pub use Rattle.device_periods
