pub mod Rests
pub mod Untold
