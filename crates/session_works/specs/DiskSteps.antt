-- What the calls at a session's disks leave.
--     TriedOne most goes went player got after got_after      what one reader's call leaves
--     DisksMoved gear after      of the driver nothing is new but the ends of the disks' rings that get
--     BesideAny Step gear players gear_after players_after      beside any desk and any recorders the players made such a step
--     AreReadOn, AreTried, AreTold      they read on, tried to, and met the ends that get
--     SomeRose gear players gear_after players_after      the count of failed reads of one of their files rose
use Rattle.std.specs.Prelude.{◌≡◌, ℕ, Bool, true, false, List}
use Rattle.jack_host.specs.Causes.{Rose}
use Rattle.session_model.specs.Kinds.{Sound}
use Rattle.client_kinds.specs.Scores.{Score}
use Rattle.driver_words.specs.Rings.{Getting, IsPair}
use Rattle.control_desk.specs.Desks.{Desk}
use Rattle.cycle_driver.specs.Gears.{Gear}
use Rattle.recorder_files.specs.Recorders.{Recording}
use Rattle.run_laws.specs.Sessions.{Playing, Session}
use Rattle.disk_runs.specs.Readings.{DisksBroke, DisksRead, DisksTold, TriedDisk}
use Rattle.disk_runs.specs.disk_files.specs.Readers.{ReadsAhead, TellsAhead}
use Rattle.session_works.specs.Insides.{beside, parts_with}
use Rattle.session_works.specs.Parts.{IsReadLater, Parts, SourceRose, session_of}

-- where no read failed before, it read on, or this read failed; else the ends of its ring met, and no more
pub record TriedOne (most : ℕ) (goes went : Bool) (player : Playing) (got : Getting) (after : Playing) (got_after : Getting) : Type 0 where
  pub tried : TriedDisk most player got after got_after
  pub read : went ≡ true → (goes ≡ true) × ReadsAhead most player got after got_after
  pub told : goes ≡ false → (went ≡ false) × TellsAhead player got after got_after
  pub rose : goes ≡ true → went ≡ false → Rose player.faults after.faults
  pub pair : IsPair after.sending got_after
  pub later : IsReadLater player after

abbrev pub DisksMoved : Gear → Gear → Type 0
DisksMoved gear after = after ≡ record gear { disks = record gear.disks { disks = after.disks.disks } }

abbrev pub BesideAny : (Parts → Parts → Type 0) → Gear → List Playing → Gear → List Playing → Type 0
BesideAny Step gear players gear_after players_after =
    (desk : Desk) (recorders : List Recording) → Step (parts_with (beside desk players) gear recorders) (parts_with (beside desk players_after) gear_after recorders)

-- the same, of sessions
abbrev pub SeenBesideAny : (sounding : Score → Sound) → (Session → Session → Type 0) → Gear → List Playing → Gear → List Playing → Type 0
SeenBesideAny sounding Step = BesideAny (λ (before after : Parts). Step (session_of sounding before) (session_of sounding after))

abbrev pub AreReadOn : (sounding : Score → Sound) → ℕ → Gear → List Playing → Gear → List Playing → Type 0
AreReadOn sounding most = SeenBesideAny sounding (DisksRead most)

abbrev pub AreTried : (sounding : Score → Sound) → ℕ → Gear → List Playing → Gear → List Playing → Type 0
AreTried sounding most = SeenBesideAny sounding (DisksBroke most)

abbrev pub AreTold : (sounding : Score → Sound) → Gear → List Playing → Gear → List Playing → Type 0
AreTold sounding = SeenBesideAny sounding DisksTold

abbrev pub SomeRose : Gear → List Playing → Gear → List Playing → Type 0
SomeRose = BesideAny SourceRose
