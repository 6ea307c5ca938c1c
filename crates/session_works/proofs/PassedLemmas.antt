-- Lemmas on what a driver took, on places of lists and on meetings, passed on.
pub use Rattle.cycle_driver.proofs.PassedLemmas.{AreOfCalls-last}
pub use Rattle.run_laws.proofs.CourseLemmas.{AreOfCalls-kept}
pub use Rattle.run_laws.proofs.PlaceLemmas.{mapped_there, some_at}
pub use Rattle.serial_laws.proofs.MeetLemmas.{IsSound-met}
