pub mod Ensembles
pub mod Listings
pub mod Meanings
pub mod Turns
pub use Rattle.client_benches
pub use Rattle.client_benches.specs.client_kinds
pub use Rattle.steal_workers.specs.cycle_workers
pub use Rattle.steal_workers.specs.session_laws
