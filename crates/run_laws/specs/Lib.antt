pub mod Sessions
pub mod Runs
pub mod SerialRuns
pub mod Told
pub use Rattle.serial_lanes.specs.control_desk
pub use Rattle.driver_laws
pub use Rattle.serial_lanes
