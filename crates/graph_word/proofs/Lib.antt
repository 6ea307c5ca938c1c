pub mod Fronts
pub mod Shown
pub mod Moves
pub mod Publishes
pub mod Taking
pub mod Meetings
pub mod Opening
