pub mod ItemLemmas
pub mod KeptLemmas
pub mod LaneLemmas
pub mod RoomLemmas
pub mod ScriptLemmas
pub mod StateLemmas
