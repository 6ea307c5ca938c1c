pub mod LinkLemmas
pub mod ReadyLemmas
pub mod KeptLemmas
mod ListingLemmas
mod TurnLemmas
