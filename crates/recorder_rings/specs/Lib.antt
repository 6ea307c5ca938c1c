pub mod Sending
pub mod Openings
pub mod Insides
pub use Rattle.device_periods
pub use Rattle.driver_laws
