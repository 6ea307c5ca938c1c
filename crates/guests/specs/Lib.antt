pub mod Any
pub mod Guests
pub mod Sounds
pub mod Turns
