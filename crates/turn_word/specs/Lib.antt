pub mod Turns
pub mod Rule
pub mod Steps
pub mod Handles
pub mod Tries
