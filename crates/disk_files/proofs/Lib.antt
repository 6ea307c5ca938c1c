pub mod ReaderLemmas
mod ReadLemmas
