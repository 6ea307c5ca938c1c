pub mod Ends
pub mod Keeping
pub mod Tables
pub mod Wirings
pub use Rattle.cycle_plan
