-- What a driver is made of, as the contracts of its parts see them.
--     Gear      its parts
--     driver_of sounding gear      the driver that they make, whose guests sound so by their scores
--     IsServed script      a script that a session plays yet
--     AreDisks gear      the driver's end of the disks' rings, as the script asks for it
--     IsGear sounding gear      what is true of the parts between two cycles
use Rattle.std.specs.Prelude.{◌≡◌, ℕ, ◌*◌, ◌≤◌, Bool, false, List, [], length, map, All, None, Option}
use Rattle.std.specs.List.Sorted.{IsPermutation}
use Rattle.jack_types.specs.declared.files.Format.{Format}
use Rattle.jack_types.specs.declared.moments.Moment.{Moment}
use Rattle.session_model.specs.Grammar.{IsScript}
use Rattle.session_model.specs.Samples.{below}
use Rattle.session_model.specs.Scripts.{Script, turns}
use Rattle.session_model.specs.Kinds.{Sound}
use Rattle.client_kinds.specs.Scores.{Score}
use Rattle.port_registry.specs.Registered.{open_clients}
use Rattle.graph_word.specs.Publications.{Reading}
use Rattle.transport.specs.Standings.{Standing}
use Rattle.driver_words.specs.Tapes.{Tape}
use Rattle.playback_laws.specs.device_periods.specs.Captures.{Captured}
use Rattle.plan_transport.specs.driver_laws.specs.Drivers.{Driver, Remembered, frames_run, greatest_period, turn_of}
use Rattle.plan_transport.specs.driver_laws.specs.Keeping.{AreOfCalls}
use Rattle.client_seats.specs.Moves.{kinds_of}
use Rattle.client_seats.specs.Seatings.{memories, memory_of}
use Rattle.cycle_blocks.specs.recorder_rings.specs.Sending.{Sent}
use Rattle.script_needs.specs.task_laws.specs.Calls.{guests_needed, open_kinds}
use Rattle.play_laws.specs.Plays.{bench_on, with_log}
use Rattle.driver_words.specs.Hearings.{Heard, log_at}
use Rattle.driver_words.specs.Feeding.{AreUpTo, Fed}
use Rattle.midi_wiring.specs.Hearings.{AreCarried}
pub use Rattle.play_laws.specs.Plays.{OnStage, StandsOn}

pub record Gear : Type 0 where
  pub script : Script
  pub reading : Reading
  pub stage : OnStage
  pub capture : Captured
  pub transport : Standing
  pub numbers : List ℕ
  pub moments : List Moment
  pub rings : Sent
  pub playback : Option Tape
  pub set : ℕ
  pub failed : Bool
  pub events : Heard
  pub disks : Fed

-- what the last cycle took is the content of the plan that the stage played last; what was heard of MIDI is on the benches, and in the memories the logs
abbrev pub driver_of : (sounding : Score → Sound) → Gear → Driver
driver_of sounding gear = record {
  script = gear.script;
  scores = map sounding gear.stage.staged.owned.scores;
  reading = gear.reading;
  content = gear.stage.plan.changes;
  left = gear.capture.reading.left;
  numbers = gear.numbers;
  moments = gear.moments;
  transport = gear.transport.row;
  overruns = gear.rings.overruns;
  underruns = gear.disks.underruns;
  rings = gear.rings.rings;
  sent = gear.rings.sent;
  disks = gear.disks.disks;
  played = gear.disks.played;
  playback = gear.playback;
  set = gear.set;
  failed = gear.failed;
  nodes = open_clients gear.stage.staged.nodes;
  benches = map (bench_on sounding gear.stage.plan gear.events gear.stage.staged) (below (length gear.stage.staged.racked.benches));
  memories = map (λ (kept : Remembered). record kept { memory = with_log (log_at gear.events kept.birth) kept.memory }) (memories gear.stage.staged.racked gear.stage.staged.owned);
}

-- a lawful script without disks; the parts play every lawful one
pub record IsServed (script : Script) : Type 0 where
  pub lawful : IsScript script
  pub no_disks : script.header.disks ≡ []

-- where no cycle failed, the parts stand behind the same cycles
pub record IsInStep (sounding : Score → Sound) (gear : Gear) : Type 0 where
  pub cycles : gear.transport.cycles ≡ length gear.numbers
  pub frames : gear.transport.frames ≡ frames_run (driver_of sounding gear)
  pub period : gear.stage.staged.period ≡ (turn_of gear.script (length gear.numbers)).period
  pub moments : length gear.moments ≡ length gear.numbers
  pub capture : gear.capture.reading.failed ≡ false
  pub heard : gear.events.period ≡ (turn_of gear.script (length gear.numbers)).period

-- a ring for each disk, and room for as many underruns as there may be
pub record AreDisks (gear : Gear) : Type 0 where
  pub channels : gear.disks.channels ≡ gear.script.header.disks
  pub as_many : length gear.disks.disks ≡ length gear.script.header.disks
  pub period : gear.disks.period ≡ greatest_period gear.script
  pub misses : length (turns gear.script) * length gear.disks.disks ≤ gear.disks.misses
  pub underruns : length gear.disks.underruns ≤ length gear.numbers * length gear.disks.disks
  pub up_to : AreUpTo (length gear.numbers) gear.disks

-- the parts are made for the script: its channels, its greatest period, a bench for each client that it may open, a ring for each recorder, and room for as many overruns as there may be; who has no memory has no log, where the plan is of calls
pub record IsGear (sounding : Score → Sound) (gear : Gear) : Type 0 where
  pub lawful : IsScript gear.script
  pub stands : StandsOn gear.stage.staged gear.stage.plan
  pub base : gear.stage.plan.base ≡ record { capture = gear.script.header.capture; playback = gear.script.header.playback }
  pub kinds : IsPermutation (open_kinds gear.script) (kinds_of gear.stage.staged.racked)
  pub guests : guests_needed gear.script ≤ length gear.stage.staged.owned.scores
  pub room : gear.stage.staged.room ≡ greatest_period gear.script
  pub capture_room : gear.capture.room ≡ greatest_period gear.script
  pub capture_channels : gear.capture.reading.format.channels ≡ gear.script.header.capture
  pub rate : gear.transport.rate ≡ gear.script.header.rate
  pub rings_room : gear.rings.room ≡ greatest_period gear.script
  pub rings_channels : gear.rings.channels ≡ map (λ (format : Format). format.channels) gear.script.header.recorders
  pub as_many : length gear.rings.rings ≡ length gear.script.header.recorders
  pub sent : All (λ sent. sent ≤ length gear.numbers) gear.rings.sent
  pub overruns : length gear.rings.overruns ≤ length gear.numbers * length gear.rings.rings
  pub losses : length (turns gear.script) * length gear.rings.rings ≤ gear.rings.losses
  pub few : length gear.numbers ≤ length (turns gear.script)
  pub lists : gear.events.lists ≡ gear.script.events
  pub carried : AreCarried gear.stage.plan gear.events
  pub logs : AreOfCalls gear.script gear.stage.plan.changes → (birth : ℕ) → memory_of gear.stage.staged.racked gear.stage.staged.owned birth ≡ None → log_at gear.events birth ≡ []
  pub disks : AreDisks gear
  pub in_step : gear.failed ≡ false → IsInStep sounding gear
