pub mod Gears
pub mod Turnings
