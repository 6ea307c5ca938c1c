-- The words of a session and of its run, passed on to the crates over this one.
pub use Rattle.run_laws.specs.Runs.{AtPhase, HasFiles, RanPhases}
pub use Rattle.run_laws.specs.SerialRuns.{RingSerial, SerialAt, SerialBehind, SerialKept, SerialSoFar}
pub use Rattle.run_laws.specs.Sessions.{IsGiven, IsMet, IsOne, Playing, Session}
pub use Rattle.run_laws.specs.Told.{Ends, IsNew, IsNewPlayer, Runs, StandsSoFar, cycle_in, disk_in, events_from, meters_from, no_moment, recorder_in, report_in, text_in}
