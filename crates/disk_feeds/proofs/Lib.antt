pub mod OneLemmas
pub mod AllLemmas
pub mod OpeningLemmas
pub mod GivenLemmas
pub mod LawLemmas
