mod ByNameLemmas
mod EffectLemmas
mod EndLemmas
mod KindLemmas
pub mod LawfulLemmas
pub mod LayoutLemmas
mod MovedLemmas
pub mod NetworkLemmas
mod NodeLemmas
mod PlannedLemmas
mod RoomLemmas
mod TestLemmas
