pub mod OpeningLemmas
pub mod BlockLemmas
pub mod PutLemmas
