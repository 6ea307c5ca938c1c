pub mod Ends
pub mod Hearings
pub mod Keeping
pub mod Setting
pub mod Wirings
pub use Rattle.client_wiring
pub use Rattle.client_wiring.specs.cycle_plan
