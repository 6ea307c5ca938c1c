-- What contracts see of a driver's cycles, one after another, passed on to a session with threads.
pub use Rattle.cycle_driver.specs.Runs.{AreNext, BreaksAtWrite, IsGoing, RunsInto, StaysInRun, with_end}
pub use Rattle.cycle_driver.specs.declared.faults.CycleFault.{CycleFault}
pub use Rattle.cycle_driver.specs.declared.faults.CycleFault.TheVariants.{Read, Write}
