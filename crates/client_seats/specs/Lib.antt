pub mod Owners
pub mod Seatings
pub mod Moves
pub use Rattle.bench_rack
