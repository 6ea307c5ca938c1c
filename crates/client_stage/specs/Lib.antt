pub mod Casting
pub mod Insides
pub mod Resting
pub use Rattle.bench_rack
pub use Rattle.client_seats
pub use Rattle.device_periods
pub use Rattle.disk_feeds
