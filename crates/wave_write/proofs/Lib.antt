mod Between
mod FinishingLemmas
pub mod TapeLemmas
