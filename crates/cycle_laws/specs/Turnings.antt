-- What the parts of a driver do in a cycle.
--     Turns sounding freewheel before plan moment after      what the calls left, in their order
use Rattle.std.specs.Prelude.{◌≡◌, ℕ, ◌+◌, Bool, true, false, [], ◌∷◌, ◌++◌, length, drop, replicate, All}
use Rattle.std.specs.List.Sorted.{IsPermutation}
use Rattle.jack_types.specs.declared.moments.Moment.{Moment}
use Rattle.session_model.specs.Samples.{silence}
use Rattle.session_model.specs.Transport.{active_master, next_row, shown, slow_numbers, timeout_of}
use Rattle.session_model.specs.Kinds.{Sound}
use Rattle.client_kinds.specs.Scores.{Score}
use Rattle.port_registry.specs.Registered.{open_clients}
use Rattle.plan_transport.specs.cycle_plan.specs.Plans.{IsPlanned, Planned, state_of_plan}
use Rattle.graph_word.specs.Publications.{Begins, Reading, Takes}
use Rattle.transport.specs.Standings.{HasTarget}
use Rattle.wave_pcm.specs.Readings.{SameReading}
use Rattle.playback_laws.specs.device_periods.specs.Captures.{Reads}
use Rattle.plan_transport.specs.driver_laws.specs.Keeping.{AreOfCalls}
use Rattle.plan_transport.specs.driver_laws.specs.Playing.{last_number}
use Rattle.disk_feeds.specs.Cycling.{GetsAll}
use Rattle.midi_wiring.specs.Hearings.{AreCarried, HearsPlan}
use Rattle.client_seats.specs.Moves.{kinds_of}
use Rattle.play_laws.specs.Plays.{PerformsPlan, StandsOn}
use Rattle.cycle_blocks.specs.Blocks.{Sends}
use Rattle.cycle_laws.specs.Gears.{Gear, driver_of}

-- the plan was taken and begun, the transport stepped, the capture read in a `run` cycle alone, the blocks of disks got, the plan performed and its MIDI clients heard, and the recorders' blocks put
pub record Turns (sounding : Score → Sound) (freewheel : Bool) (before : Gear) (plan : Planned) (moment : Moment) (after : Gear) : Type 0 where
  pub number : ℕ
  pub taken : Reading
  pub takes : Takes before.reading number taken
  pub begins : Begins taken (length before.numbers + 1) after.reading
  pub content : plan.changes ≡ taken.held
  pub base : plan.base ≡ taken.base
  pub planned : IsPlanned plan
  pub numbers : after.numbers ≡ before.numbers ++ number ∷ []
  pub moments : after.moments ≡ before.moments ++ moment ∷ []
  pub standing : after.transport ≡ record { rate = before.transport.rate; cycles = before.transport.cycles + 1; frames = before.transport.frames + before.set; row = after.transport.row }
  pub row : All HasTarget (drop (last_number (driver_of sounding before)) plan.changes)
      → after.transport.row ≡ next_row before.transport.row (drop (last_number (driver_of sounding before)) plan.changes) (slow_numbers (state_of_plan plan)) (timeout_of (state_of_plan plan) before.transport.rate before.set) before.set
  pub moment_is : moment ≡ shown after.transport.cycles after.transport.row before.transport.rate (active_master (state_of_plan plan))
  pub rests : freewheel ≡ true → after.capture ≡ record before.capture { channels = replicate before.capture.reading.format.channels (silence before.set) }
  pub reads : freewheel ≡ false → Reads before.capture.reading.left after.capture.reading.left after.capture.channels before.capture.reading.format.channels before.set
  pub same_reading : SameReading before.capture.reading after.capture.reading
  pub capture_room : after.capture.room ≡ before.capture.room
  pub capture_sound : after.capture.reading.failed ≡ false
  pub plan_is : after.stage.plan ≡ plan
  pub period : after.stage.staged.period ≡ before.set
  pub stands : StandsOn after.stage.staged plan
  pub performs : before.stage.staged.is_staffed ≡ true → after.stage.staged.is_staffed ≡ true
      → PerformsPlan sounding before.stage.staged before.stage.plan plan moment before.set after.capture.channels after.disks after.stage.staged
  pub hears : AreOfCalls before.script plan.changes → HearsPlan before.events plan moment before.set after.events
  pub carried : AreCarried plan after.events
  pub lists : after.events.lists ≡ before.events.lists
  pub heard_period : after.events.period ≡ before.set
  pub gets : GetsAll (open_clients plan.nodes) (length before.numbers + 1) before.disks after.disks
  pub kinds : IsPermutation (kinds_of before.stage.staged.racked) (kinds_of after.stage.staged.racked)
  pub scores : after.stage.staged.owned.scores ≡ before.stage.staged.owned.scores
  pub room : after.stage.staged.room ≡ before.stage.staged.room
  pub sends : Sends after.stage.staged.racked (open_clients plan.nodes) (length before.numbers + 1) before.set before.rings after.rings
  pub script : after.script ≡ before.script
  pub set : after.set ≡ before.set
