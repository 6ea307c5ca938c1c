pub mod KeepLemmas
pub mod WholeLemmas
pub mod GoingLemmas
pub mod OpenLemmas
pub mod BirthLemmas
pub mod KnownLemmas
pub mod RefusedLemmas
