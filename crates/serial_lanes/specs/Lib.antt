pub mod Lanes
pub mod Laws
pub use Rattle.control_desk
