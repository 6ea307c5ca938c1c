pub mod WalkLemmas
pub mod ReadLemmas
pub mod RestLemmas
pub mod ReportLemmas
pub mod StepLemmas
