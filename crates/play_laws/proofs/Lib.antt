mod BoundLemmas
mod SourceLemmas
mod ReadyLemmas
pub mod PlayLemmas
