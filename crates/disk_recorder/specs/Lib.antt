pub mod Recordings
pub mod Passing
