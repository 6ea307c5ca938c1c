-- The fault of a session, passed on.
pub use Rattle.session_ends.specs.Seen.{Read, SessionFault, Write}
