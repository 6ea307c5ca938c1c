pub mod Places
pub use Rattle.report_reader
