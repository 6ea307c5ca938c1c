pub mod Goings
pub mod Lanes
pub mod Laws
