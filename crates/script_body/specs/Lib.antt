pub mod Bodies
pub mod Standings
