pub mod Owning
pub mod Seating
pub use Rattle.task_laws.specs.client_benches
pub use Rattle.task_laws.specs.driver_laws
pub use Rattle.task_laws
