pub mod Attaching
pub mod Endings
pub mod Closings
pub mod Openings
pub mod Readers
pub mod Takings
pub mod Laws
pub mod Seen
