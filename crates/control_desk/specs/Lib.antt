pub mod Desks
pub mod Laws
pub mod Past
pub use Rattle.call_laws
