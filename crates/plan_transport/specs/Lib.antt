pub mod Insides
pub mod Rows
pub mod Slowness
pub use Rattle.task_laws.specs.client_benches
pub use Rattle.task_laws.specs.cycle_plan
pub use Rattle.task_laws.specs.driver_laws
