pub mod Calling
pub mod Running
pub mod Phases
pub mod Serving
pub mod Driving
pub mod Wheels
pub mod Laws
