pub mod Recorders
pub use Rattle.disk_recorder
