pub mod Testing
mod Telling
mod Machines
mod Courses
mod Keeping
mod Lending
mod Falling
mod Homing
mod Parting
mod Stilling
mod Entering
mod Beginning
mod Picking
pub mod Looking
mod Acting
pub mod Listed
mod Played
mod Slots
mod Shares
mod Indexed
pub mod Waiting
pub mod Returned
mod Alone
mod Begun
pub mod Gathered
pub mod Places
mod Turning
mod Entered
pub mod Ended
mod Sharing
