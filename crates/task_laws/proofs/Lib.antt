pub mod LinkLemmas
pub mod CallLemmas
pub mod KindLemmas
pub mod PlainLemmas
pub mod PigeonLemmas
pub mod EnoughLemmas
pub mod PlayingLemmas
pub mod OpenedLemmas
