pub mod CycleLemmas
pub mod ResultLemmas
pub mod PlaybackLemmas
pub mod FailedLemmas
mod OpeningLemmas
mod InsideLemmas
mod EndLemmas
