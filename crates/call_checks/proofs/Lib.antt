mod LaneLemmas
mod RoomLemmas
mod StateLemmas
mod NextLemmas
mod KeptLemmas
