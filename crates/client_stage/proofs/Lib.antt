mod CastLemmas
mod RestLemmas
mod PerformLemmas
mod TurnLemmas
mod PlayLemmas
mod OpeningLemmas
mod InsideLemmas
mod StageLemmas
