pub mod Playing
pub mod Turning
pub mod Files
pub mod Insides
