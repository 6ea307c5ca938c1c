pub mod TotalLemmas
pub mod WholeLemmas
pub mod SequentialLemmas
pub mod PlayedLemmas
