mod Tallied
pub mod Changing
mod Seated
mod Offered
mod Cycled
mod Working
