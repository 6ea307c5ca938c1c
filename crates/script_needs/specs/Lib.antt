pub mod Lines
pub use Rattle.task_laws
