pub mod TurnLemmas
pub mod PhaseLemmas
pub mod RunningLemmas
