pub mod Blocks
pub mod Captures
