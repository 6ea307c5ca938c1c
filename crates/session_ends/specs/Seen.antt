-- What contracts see of a session and of its driver, passed on to the session over it.
pub use Rattle.task_laws.specs.Calls.{guests_needed}
pub use Rattle.session_works.specs.Drivers.{Gear, driver_of, playback_format}
pub use Rattle.session_works.specs.Insides.{Stays}
pub use Rattle.session_works.specs.Parts.{AreLater, AreReadLater, IsLater, OfCapture, OfDisk, OneRose, Parts, SourceRose, bytes_of, session_of, stores_in, told_of}
pub use Rattle.session_works.specs.RunWords.{AtPhase, Ends, IsGiven, Playing, Runs, SerialKept, StandsSoFar, text_in}
pub use Rattle.session_works.specs.SerialWords.{StandsInSerial}
pub use Rattle.session_works.specs.Standings.{HasEnded, HasRun, IsAttaching, IsBegun, IsReady, format_at, format_next}
pub use Rattle.session_ends.specs.Openings.{AreDisks, IsUnread}
pub use Rattle.session_works.specs.declared.faults.SessionFault.{SessionFault}
pub use Rattle.session_works.specs.declared.faults.SessionFault.TheVariants.{Read, Write}
