pub mod InputLemmas
pub mod DifferenceLemmas
pub mod ScriptLemmas
pub mod CaptureLemmas
pub mod DiskLemmas
pub mod OpeningLemmas
pub mod ExactLemmas
