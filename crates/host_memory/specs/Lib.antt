pub mod Memory
pub mod Listed
pub mod MemoryHost
