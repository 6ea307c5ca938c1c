pub mod Gears
pub mod Makings
pub mod Insides
