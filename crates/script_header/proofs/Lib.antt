pub mod EventLemmas
pub mod HeaderLemmas
