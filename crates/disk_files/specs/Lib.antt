pub mod Readers
pub mod Serving
pub use Rattle.disk_player
pub use Rattle.disk_serving
