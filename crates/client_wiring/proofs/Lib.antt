pub mod DeviceLemmas
mod EndLemmas
pub mod FollowLemmas
mod KeptLemmas
mod LinkLemmas
pub mod ListLemmas
mod NameLemmas
pub mod OverLemmas
pub mod PlaybackLemmas
pub mod TaskLemmas
