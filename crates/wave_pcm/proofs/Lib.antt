mod InputLemmas
mod ContentLemmas
mod ChunkLemmas
mod FrameLemmas
mod PairLemmas
