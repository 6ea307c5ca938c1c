pub mod CaptureLemmas
pub mod DrawnLemmas
pub mod NameLemmas
pub mod PlayedLemmas
pub mod RecordedLemmas
pub mod ScriptLemmas
pub mod SerialLemmas
pub mod TapeLemmas
