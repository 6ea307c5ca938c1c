pub mod Plays
pub mod Sources
