-- Where a session stands between its calls, passed on.
pub use Rattle.session_ends.specs.Seen.{HasEnded, HasRun, IsAttaching, IsBegun, IsReady, format_at, format_next}
