-- What the driver's thread of a segment did. No public clause cites this module.
--     with_ends gear      the driver whose rings have ends
--     HasDriven sounding cycles gear after ran      its cycles, however they came out
use Rattle.std.specs.Prelude.{◌≡◌, ℕ, map, IsErrOf, OnOk, Result, Some}
use Rattle.jack_host.specs.Causes.{Rose}
use Rattle.session_model.specs.Kinds.{Sound}
use Rattle.client_kinds.specs.Scores.{Score}
use Rattle.wave_pcm.specs.Readings.{SameReading}
use Rattle.driver_words.specs.Tapes.{Tape}
use Rattle.session_works.specs.Cycles.{CycleFault, Read, Write, BreaksAtWrite, IsGoing, RunsInto, StaysInRun, with_end}
use Rattle.session_works.specs.Drivers.{Gear, driver_of}
use Rattle.driver_laws.specs.Cycling.{CyclesMany, FailsAtRead}

abbrev pub with_ends : Gear → Gear
with_ends gear = record gear { rings = record gear.rings { rings = map with_end gear.rings.rings } }

pub record HasDriven (sounding : Score → Sound) (cycles : ℕ) (gear after : Gear) (ran : Result (Unit {0}) CycleFault) : Type 0 where
  pub ok : OnOk ran (CyclesMany cycles (driver_of sounding gear) (driver_of sounding after))
  pub going : OnOk ran (IsGoing (driver_of sounding after))
  pub read : IsErrOf ran Read → RunsInto FailsAtRead cycles (driver_of sounding gear) (driver_of sounding after)
  pub write : IsErrOf ran Write → RunsInto BreaksAtWrite cycles (driver_of sounding gear) (driver_of sounding after)
  pub read_cause : IsErrOf ran Read → Rose gear.capture.reading.faults after.capture.reading.faults
  pub write_cause : IsErrOf ran Write → (tape tape_after : Tape) → gear.playback ≡ Some tape → after.playback ≡ Some tape_after → Rose tape.faults tape_after.faults
  pub stays : StaysInRun (driver_of sounding gear) (driver_of sounding after)
  pub capture : SameReading gear.capture.reading after.capture.reading
