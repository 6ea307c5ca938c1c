pub mod FillLemmas
pub mod FitLemmas
pub mod GainLemmas
pub mod BufferLemmas
pub mod LineLemmas
pub mod ClickLemmas
pub mod MixLemmas
pub mod PlayLemmas
