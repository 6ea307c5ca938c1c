use Rattle.std.proofs.Common.{◌≡◌, ◌+◌}
use Rattle.wave_pcm.specs.Readings.{SameReading}
use Rattle.cycle_driver.specs.Gears.{driver_of}
use Rattle.driver_laws.specs.Cycling.{CyclesMany}
use Rattle.driver_laws.specs.Drivers.{run}
use Rattle.cycle_driver.specs.Runs.{IsGoing, StaysInRun}
use Rattle.cycle_driver.proofs.running.run_cycles.Given as goal

abbrev pub invariant-loop-cycle : goal.invariant-loop-cycle
invariant-loop-cycle g l = record {
  ran : CyclesMany l.cycle (driver_of g.G.Guest.sound l.fn.driver) (driver_of g.G.Guest.sound l.driver);
  going : IsGoing (driver_of g.G.Guest.sound l.driver);
  count : run (driver_of g.G.Guest.sound l.driver) ≡ run (driver_of g.G.Guest.sound l.fn.driver) + l.cycle;
  stays : StaysInRun (driver_of g.G.Guest.sound l.fn.driver) (driver_of g.G.Guest.sound l.driver);
  capture : SameReading l.fn.driver.capture.reading l.driver.capture.reading;
}
