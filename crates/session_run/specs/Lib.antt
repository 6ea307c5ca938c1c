pub mod Standings
pub mod Seen
pub mod Faults
