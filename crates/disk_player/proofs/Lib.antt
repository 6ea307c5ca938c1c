pub mod BlockLemmas
pub mod StepLemmas
pub mod InsideLemmas
pub mod FileLemmas
