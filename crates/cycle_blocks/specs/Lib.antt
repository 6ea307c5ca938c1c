pub mod Blocks
pub mod Steps
pub use Rattle.bench_rack
pub use Rattle.recorder_rings
