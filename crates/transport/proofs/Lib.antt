pub mod CountedLemmas
pub mod TargetLemmas
