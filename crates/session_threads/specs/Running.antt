-- How far a run with threads came, passed on to the session over it.
pub use Rattle.thread_laws.specs.Coming.{HasCome}
