-- The parts of the works before the first cycle. No public clause cites this module.
--     IsOpeningPlan script plan      a plan without changes
--     IsNewStage script scores stage      the stage of the script's clients, on which nobody plays yet
--     IsNewMidi script midi      its MIDI clients, of which none played yet
--     AreNewRings script rings      the rings of its recorders, into which nothing was put
--     AreNewDisks script disks      those of its disks, of which nothing was got
--     IsNewTransport script transport      a transport before the first cycle
--     IsRoom script items room      an empty list with room for an item of each cycle
--     AreNewLists script lists      one for numbers and one for moments
--     IsNewOutfit script outfit      all that stands around the stage
--     IsMade script scores made      all memory of the works but the capture's
--     IsUnread script capture      a capture of the script's channels
use Rattle.std.specs.Prelude.{◌≡◌, ℕ, ◌*◌, ◌≤◌, List, [], length, map, replicate, false, Some, None}
use Rattle.std.specs.Vec.{vec_capacity}
use Rattle.session_model.specs.Scripts.{Script, turns}
use Rattle.session_model.specs.Transport.{first_row}
use Rattle.client_kinds.specs.Scores.{Score}
use Rattle.midi_stage.specs.cycle_plan.specs.Plans.{Planned}
use Rattle.transport.specs.Standings.{Standing}
use Rattle.midi_stage.specs.client_benches.specs.Seen.{new_bench}
use Rattle.client_stage.specs.disk_feeds.specs.Openings.{IsNew as AreNewFeeds}
use Rattle.driver_words.specs.Feeding.{Fed}
use Rattle.midi_stage.specs.Standing.{OnMidi, quiet_heard}
use Rattle.client_stage.specs.device_periods.specs.Captures.{Captured}
use Rattle.midi_stage.specs.driver_laws.specs.Drivers.{greatest_period}
use Rattle.recorder_rings.specs.Openings.{IsNew}
use Rattle.recorder_rings.specs.Sending.{Sent}
use Rattle.midi_stage.specs.task_laws.specs.Calls.{open_kinds}
use Rattle.cycle_laws.specs.Gears.{OnStage, StandsOn}
use Rattle.cycle_works.specs.declared.opening.Lists.{Lists}
use Rattle.cycle_works.specs.declared.opening.Made.{Made}
use Rattle.cycle_works.specs.declared.opening.Outfit.{Outfit}

-- of the script's channels
pub record IsOpeningPlan (script : Script) (plan : Planned) : Type 0 where
  pub base : plan.base ≡ record { capture = script.header.capture; playback = script.header.playback }
  pub changes : plan.changes ≡ []

-- a bench for each client that the script opens, owned by nobody; every guest in the pool; and an opening plan
pub record IsNewStage (script : Script) (scores : List Score) (stage : OnStage) : Type 0 where
  pub benches : stage.staged.racked.benches ≡ map (λ kind. new_bench kind (greatest_period script)) (open_kinds script)
  pub owned : stage.staged.owned ≡ record { births = replicate (length (open_kinds script)) None; scores = scores; pool = map (λ score. Some score) scores; past = [] }
  pub room : stage.staged.room ≡ greatest_period script
  pub period : stage.staged.period ≡ 0
  pub opening : IsOpeningPlan script stage.plan
  pub stands : StandsOn stage.staged stage.plan

-- nothing was heard
abbrev pub IsNewMidi : Script → OnMidi → Type 0
IsNewMidi script midi = midi ≡ record { script = script; changes = []; heard = quiet_heard script 0 }

-- with room for an overrun of each recorder in each cycle
abbrev pub AreNewRings : Script → Sent → Type 0
AreNewRings script = IsNew script.header.recorders script.header.ring (greatest_period script) (length (turns script) * length script.header.recorders)

-- with room for an underrun of each disk in each cycle
abbrev pub AreNewDisks : Script → Fed → Type 0
AreNewDisks script = AreNewFeeds script.header.disks script.header.ring (greatest_period script) (length (turns script) * length script.header.disks)

abbrev pub IsNewTransport : Script → Standing → Type 0
IsNewTransport script transport = transport ≡ record { rate = script.header.rate; cycles = 0; frames = 0; row = first_row }

pub record IsRoom {X : Type 0} (script : Script) (items : List X) (room : ℕ) : Type 0 where
  pub none : items ≡ []
  pub enough : length (turns script) ≤ room

pub record AreNewLists (script : Script) (lists : Lists) : Type 0 where
  pub numbers : IsRoom script lists.numbers.items (vec_capacity lists.numbers)
  pub moments : IsRoom script lists.moments.items (vec_capacity lists.moments)

pub record IsNewOutfit (script : Script) (outfit : Outfit) : Type 0 where
  pub transport : IsNewTransport script outfit.transport
  pub midi : IsNewMidi script outfit.midi
  pub rings : AreNewRings script outfit.rings
  pub disks : AreNewDisks script outfit.disks
  pub lists : AreNewLists script outfit.lists

pub record IsMade {G : Type 0} (script : Script) (scores : List Score) (made : Made G) : Type 0 where
  pub stage : IsNewStage script scores made.stage
  pub outfit : IsNewOutfit script made.outfit

-- with room for the greatest period; nothing failed yet
pub record IsUnread (script : Script) (capture : Captured) : Type 0 where
  pub room : capture.room ≡ greatest_period script
  pub channels : capture.reading.format.channels ≡ script.header.capture
  pub sound : capture.reading.failed ≡ false
