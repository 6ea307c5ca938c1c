pub mod ModeLemmas
pub mod PassedLemmas
