pub mod GatherLemmas
pub mod PutLemmas
