mod PublishLemmas
mod RingLemmas
mod EachLemmas
mod WalkedLemmas
mod AlongLemmas
mod OpeningLemmas
mod TakerLemmas
mod StepLemmas
pub mod LengthLemmas
