pub mod Cycling
pub mod Openings
pub mod Steps
pub mod Insides
