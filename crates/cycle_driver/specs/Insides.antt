-- The fields of a driver. No public clause cites this module.
--     seen_of driver      its parts
--     IsOwnFile sounding gear tape      that a file is its playback
--     IsWhole sounding driver      what stays true of its fields
use Rattle.std.specs.Prelude.{◌≡◌, ◌*◌, ◌≤◌, false, IfSome}
use Rattle.session_model.specs.Grammar.{IsScript}
use Rattle.session_model.specs.Samples.{width}
use Rattle.session_model.specs.Kinds.{Sound}
use Rattle.client_kinds.specs.Scores.{Score}
use Rattle.driver_words.specs.Tapes.{Tape}
use Rattle.driver_laws.specs.Drivers.{frames_run, greatest_period}
use Rattle.cycle_works.specs.Gears.{Gear, driver_of, with_playback}
use Rattle.cycle_driver.specs.Openings.{playback_format}
use Rattle.cycle_driver.specs.declared.driver.Driver.TheInside.{Inside}

abbrev pub seen_of : {S W G : Type 0} → Inside S W G → Gear
seen_of d = with_playback d.works d.playback

-- the playback is of the script's channels, and no longer than the cycles run
pub record IsOwnFile (sounding : Score → Sound) (gear : Gear) (tape : Tape) : Type 0 where
  pub format : tape.format ≡ playback_format gear.script
  pub written : tape.written ≤ frames_run (driver_of sounding gear) * gear.script.header.playback * width gear.script.header.bits

pub record IsWhole (sounding : Score → Sound) {S W G : Type 0} (d : Inside S W G) : Type 0 where
  pub lawful : IsScript d.works.script
  pub channels : d.mix.channels ≡ d.works.script.header.playback
  pub room : d.mix.room ≡ greatest_period d.works.script
  pub format : d.format ≡ playback_format d.works.script
  pub file : d.works.failed ≡ false → IfSome d.playback (IsOwnFile sounding (seen_of d))
