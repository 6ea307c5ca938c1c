-- What contracts see of a walk, and what its calls do.
--     Walking      what is seen of it
--     driver_in sounding walking      the driver that its works make, whose guests sound so by their scores
--     block_at walking recorder      the block that came from a recorder's ring behind the last cycle
--     GoesAlong sounding course walking      a walk behind cycles of a course
--     IsWalking sounding walking      what stays true of a walk
--     IsNext freewheel gear, MayPublish walking changes number      when the next cycle may be run, and so much be published before it
--     IsGivenTo script capture scores given, MayStart given printed, AsksNoDisk course      along which courses a new walk may go, and go on
use Rattle.std.specs.Prelude.{◌≡◌, ℕ, ◌+◌, ◌≤◌, ◌<◌, Bool, false, List, [], length, slice_get, ℤ, Option, Some, None, if◌then◌else◌}
use Rattle.std.specs.Option.{option_map_or}
use Rattle.jack_types.specs.Recorders.{no_format}
use Rattle.jack_types.specs.declared.commands.Change.{Change}
use Rattle.jack_types.specs.declared.replies.Entry.{Entry}
use Rattle.session_model.specs.Courses.{Course, turn}
use Rattle.session_model.specs.Explanations.{Given, Printed}
use Rattle.session_model.specs.Histories.{LegalSoFar, accepted}
use Rattle.session_model.specs.Kinds.{Sound}
use Rattle.session_model.specs.Playback.{played_in}
use Rattle.session_model.specs.Recorders.{block, is_taping}
use Rattle.session_model.specs.Scripts.{Script, turns}
use Rattle.client_kinds.specs.Scores.{Score}
use Rattle.graph_word.specs.Publications.{IsFront, Publishing}
use Rattle.driver_words.specs.Rings.{Getting, Sending}
use Rattle.run_laws.specs.control_desk.specs.Desks.{base_of}
use Rattle.driver_words.specs.Tapes.{Tape}
use Rattle.driver_laws.specs.Drivers.{Driver, HasOwnRings, HasOwnRows, run, turn_of}
use Rattle.driver_laws.specs.Keeping.{AreOfCalls}
use Rattle.cycle_works.specs.Gears.{Gear, driver_of, with_playback}
pub use Rattle.cycle_works.specs.Gears.{IsServed}
use Rattle.check_courses.specs.Untold.{untold}
use Rattle.walk_laws.specs.Walks.{IsEmptied, Walks}

-- the end of a recorder's ring that gets, and the block that came from it behind the last cycle, where one came
pub record Taken : Type 0 where
  pub getting : Getting
  pub block : Option (List ℤ)

-- the works, the end of the publication that publishes, the recorders, and the block that was mixed last
pub record Walking : Type 0 where
  pub gear : Gear
  pub publishing : Publishing
  pub takers : List Taken
  pub played : List ℤ

-- a playback that tells nothing
abbrev pub no_file : Option Tape
no_file = Some (untold no_format)

-- the works as a driver, with a playback that tells nothing
abbrev pub driver_in : (sounding : Score → Sound) → Walking → Driver
driver_in sounding walking = driver_of sounding (with_playback walking.gear no_file)

abbrev pub block_at : Walking → ℕ → Option (List ℤ)
block_at walking recorder = option_map_or (λ (taken : Taken). taken.block) (slice_get walking.takers recorder) None

-- the block of a cycle in which the recorder is active
abbrev pub block_given : Course → ℕ → ℕ → Option (List ℤ)
block_given course recorder k = if is_taping course recorder k then Some (block course recorder k) else None

-- behind some cycles of the course: it is kept, and what the last one took are calls of the script; each recorder's block of that cycle is at hand, and what that plays back
pub record GoesAlong (sounding : Score → Sound) (course : Course) (walking : Walking) : Type 0 where
  pub walks : Walks course walking.publishing (driver_in sounding walking)
  pub of_calls : AreOfCalls walking.gear.script walking.gear.stage.plan.changes
  pub blocks : (recorder : ℕ) (taken : Taken) → slice_get walking.takers recorder ≡ Some taken → 1 ≤ run (driver_in sounding walking) → taken.block ≡ block_given course recorder (run (driver_in sounding walking))
  pub played : 1 ≤ run (driver_in sounding walking) → (turn course (run (driver_in sounding walking))).is_freewheel ≡ false → walking.played ≡ played_in course (run (driver_in sounding walking))

-- rings are emptied, no block was lost, rows and rings are the walk's own, and both ends of the publication are of one
pub record IsGoing (sounding : Score → Sound) (walking : Walking) : Type 0 where
  pub rings : (recorder : ℕ) (ring : Sending) (taken : Taken) → slice_get walking.gear.rings.rings recorder ≡ Some ring → slice_get walking.takers recorder ≡ Some taken → IsEmptied ring taken.getting
  pub own_rings : HasOwnRings (driver_in sounding walking)
  pub own_rows : HasOwnRows (driver_in sounding walking)
  pub none_lost : walking.gear.rings.overruns ≡ []
  pub table : walking.publishing.table ≡ walking.gear.reading.table
  pub base : walking.publishing.base ≡ base_of walking.gear.script
  pub held : IsFront walking.publishing.held walking.publishing.all

-- whatever the sources tell: a recorder for each ring, of a script that is played; and it goes, where no cycle failed
pub record IsWalking (sounding : Score → Sound) (walking : Walking) : Type 0 where
  pub served : IsServed walking.gear.script
  pub as_many : length walking.takers ≡ length walking.gear.script.header.recorders
  pub going : walking.gear.failed ≡ false → IsGoing sounding walking

-- a cycle is left, of this kind, and its period is set
pub record IsNext (freewheel : Bool) (gear : Gear) : Type 0 where
  pub left : length gear.numbers < length (turns gear.script)
  pub kind : (turn_of gear.script (length gear.numbers + 1)).is_freewheel ≡ freewheel
  pub period : (turn_of gear.script (length gear.numbers + 1)).period ≡ gear.set

-- a history of the script's has these changes, of which so many are published, and more may be
pub record MayPublish (walking : Walking) (changes : List Change) (number : ℕ) : Type 0 where
  pub history : List Entry
  pub legal : LegalSoFar walking.gear.script history
  pub changes_are : changes ≡ accepted history
  pub published : IsFront walking.publishing.all changes
  pub rises : length walking.publishing.all ≤ number
  pub few : number ≤ length changes

-- the script and scores, over what the capture tells; there are no disks
pub record IsGivenTo (script : Script) (capture : Option (List ℤ)) (scores : List Sound) (given : Given) : Type 0 where
  pub script_is : given.script ≡ script
  pub capture_is : capture ≡ Some given.capture
  pub scores_are : given.scores ≡ scores
  pub no_disks : given.disks ≡ []

-- a legal history, and no underruns
pub record MayStart (given : Given) (printed : Printed) : Type 0 where
  pub legal : LegalSoFar given.script printed.history
  pub none_missed : printed.underruns ≡ []

-- without underruns
abbrev pub AsksNoDisk : Course → Type 0
AsksNoDisk course = course.underruns ≡ []
