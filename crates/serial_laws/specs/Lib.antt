pub mod Steps
pub mod Faults
pub mod Endings
pub mod Openings
