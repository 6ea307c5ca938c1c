pub mod Answers
pub mod Kept
pub mod Listings
pub mod Registered
pub use Rattle.session_laws
