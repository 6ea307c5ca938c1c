pub mod DrawLemmas
pub mod EventLemmas
pub mod LineLemmas
pub mod SummaryLemmas
