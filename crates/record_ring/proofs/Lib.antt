pub mod Moves
pub mod Puts
pub mod Takes
pub mod Meetings
pub mod Opening
