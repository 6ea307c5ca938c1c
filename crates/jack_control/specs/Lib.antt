pub mod Plays
pub mod Openings
pub mod Files
pub mod Performances
pub mod Rehearsals
pub mod Rehearsing
