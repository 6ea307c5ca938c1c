pub mod Tasks
pub mod Fillings
pub mod Steps
pub use Rattle.client_wiring
pub use Rattle.device_periods
