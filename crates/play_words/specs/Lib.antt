pub mod Lawful
pub mod Pairs
pub mod Words
pub mod Rehearsals
pub mod Checks
pub mod Commands
