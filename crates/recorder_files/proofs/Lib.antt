mod Closings
mod Counting
pub mod Reels
