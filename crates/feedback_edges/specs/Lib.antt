pub mod Marking
pub mod Search
pub use Rattle.connection_set
