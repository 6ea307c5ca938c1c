pub mod LawfulLemmas
pub mod PairLemmas
pub mod PlayLemmas
pub mod CheckLemmas
pub mod RehearsalLemmas
