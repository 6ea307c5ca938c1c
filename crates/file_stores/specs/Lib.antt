pub mod Standing
pub mod Gathering
pub mod Drafts
pub mod Memory
pub mod Streams
