pub mod LawfulLemmas
pub mod CallLemmas
pub mod LaneLemmas
pub mod LegalLemmas
mod ScriptLemmas
mod AcceptedLemmas
mod PastLemmas
mod DeskLemmas
mod StepLemmas
pub mod GoingLemmas
