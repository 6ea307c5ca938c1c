mod PlayedLemmas
mod EndLemmas
pub mod RunLemmas
pub mod PassedLemmas
