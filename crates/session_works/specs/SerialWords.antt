-- The words of the laws of serial mode, and of a session's end, passed on to the crates over this one.
pub use Rattle.serial_laws.specs.Endings.{Broken, EndFails, EndTried, EndsAll, EndsOne, Finished, IsBroken, IsFinished, Left, Unfinished}
pub use Rattle.serial_laws.specs.Faults.{StandsInSerial, TurnFails, told}
pub use Rattle.serial_laws.specs.Openings.{AreFresh, bare}
pub use Rattle.serial_laws.specs.Steps.{AreExact, Begun, IsReel, IsSettled, IsSound, KeepsOwn, Met, Rounded, Turned}
