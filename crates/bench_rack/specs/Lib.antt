pub mod Racks
pub mod Insides
pub use Rattle.bench_crew.specs.client_benches
pub use Rattle.bench_crew.specs.client_kinds
