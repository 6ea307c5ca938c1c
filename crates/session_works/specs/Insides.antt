-- The works as the laws see them. No public clause cites this module.
--     parts_of works, seen sounding works, held works      what the works are as parts, as a session whose guests sound so, and as stores
--     Aside      what is beside the driver and the recorders
--     parts_with aside gear recorders, seen_with sounding aside gear recorders      the works, whoever has what is beside
--     AreAble sounding gear recorders      they are of a sound session, with their files in the making
--     AreSettled sounding gear recorders players      and, with these players, of a settled one
--     ArePaired gear recorders      the two ends of each recorder's ring belong together
--     DisksPaired gear players      so do those of each disk's ring
--     Stays sounding before after      what stays through the steps of a run
--     StaysOpen sounding before after      so it is where the recorders have their files in the making
--     IsWritten playback playback_after      a write to the playback failed
use Rattle.std.specs.Prelude.{◌≡◌, ℕ, ◌<◌, List, length, slice_get, Option, None, Some}
use Rattle.jack_host.specs.Causes.{Rose}
use Rattle.session_model.specs.Kinds.{Sound}
use Rattle.client_kinds.specs.Scores.{Score}
use Rattle.driver_words.specs.Rings.{Getting, IsPair, Sending}
use Rattle.driver_words.specs.Tapes.{SameFile, Tape}
use Rattle.wave_pcm.specs.Readings.{SameReading}
use Rattle.control_desk.specs.Desks.{Desk}
use Rattle.cycle_driver.specs.Gears.{Gear, driver_of}
use Rattle.recorder_files.specs.Recorders.{Recording, Stored}
use Rattle.run_laws.specs.Sessions.{Playing, Session}
use Rattle.serial_laws.specs.Steps.{IsSettled, IsSound}
use Rattle.session_works.specs.Parts.{AreLater, AreReadLater, HasOpenFiles, Parts, session_of, stores_in}
use Rattle.session_works.specs.declared.works.SessionWorks.{SessionWorks}

abbrev pub parts_of : {S W G : Type 0} → SessionWorks S W G → Parts
parts_of works = record { desk = works.desk; gear = works.driver; recorders = works.recorders.items; players = works.readers.items; playback = None; attached = 0 }

abbrev pub seen : (sounding : Score → Sound) {S W G : Type 0} → SessionWorks S W G → Session
seen sounding works = session_of sounding (parts_of works)

abbrev pub held : {S W G : Type 0} → SessionWorks S W G → List Stored
held works = stores_in (parts_of works)

-- what is beside the driver and the recorders: calls that touch none of it hold whoever has it
pub record Aside : Type 0 where
  pub desk : Desk
  pub players : List Playing

abbrev pub beside : Desk → List Playing → Aside
beside desk players = record { desk = desk; players = players }

abbrev pub parts_with : Aside → Gear → List Recording → Parts
parts_with aside gear recorders = record { desk = aside.desk; gear = gear; recorders = recorders; players = aside.players; playback = None; attached = 0 }

abbrev pub seen_with : (sounding : Score → Sound) → Aside → Gear → List Recording → Session
seen_with sounding aside gear recorders = session_of sounding (parts_with aside gear recorders)

-- they are of a sound session, with their files in the making
pub record AreAble (sounding : Score → Sound) (gear : Gear) (recorders : List Recording) : Type 0 where
  pub aside : Aside
  pub sound : IsSound (seen_with sounding aside gear recorders)
  pub files : HasOpenFiles (parts_with aside gear recorders)

-- and with these players of a settled one
pub record AreSettled (sounding : Score → Sound) (gear : Gear) (recorders : List Recording) (players : List Playing) : Type 0 where
  pub desk : Desk
  pub settled : IsSettled (seen_with sounding (beside desk players) gear recorders)
  pub files : HasOpenFiles (parts_with (beside desk players) gear recorders)

pub record ArePaired (gear : Gear) (recorders : List Recording) : Type 0 where
  pub as_many : length gear.rings.rings ≡ length recorders
  pub few : length recorders < 256
  pub each : (i : ℕ) (ring : Sending) (recording : Recording) → slice_get gear.rings.rings i ≡ Some ring → slice_get recorders i ≡ Some recording → IsPair ring recording.getting

pub record DisksPaired (gear : Gear) (players : List Playing) : Type 0 where
  pub as_many : length gear.disks.disks ≡ length players
  pub few : length players < 256
  pub each : (disk : ℕ) (player : Playing) (got : Getting) → slice_get players disk ≡ Some player → slice_get gear.disks.disks disk ≡ Some got → IsPair player.sending got

-- its script and its guests; its stores, its files, its capture and its disks go on, and it has as many recorders
pub record Stays (sounding : Score → Sound) (before after : Parts) : Type 0 where
  pub script : after.gear.script ≡ before.gear.script
  pub scores : (driver_of sounding after.gear).scores ≡ (driver_of sounding before.gear).scores
  pub files : HasOpenFiles after
  pub later : AreLater (stores_in before) (stores_in after)
  pub capture : SameReading before.gear.capture.reading after.gear.capture.reading
  pub many : length after.recorders ≡ length before.recorders
  pub players : AreReadLater before.players after.players

abbrev pub StaysOpen : (sounding : Score → Sound) → Parts → Parts → Type 0
StaysOpen sounding before after = HasOpenFiles before → Stays sounding before after

-- its file is the same one, and the store's count of faults rose
abbrev pub IsWritten : Option Tape → Option Tape → Type 0
IsWritten playback playback_after = (file : Tape) × (after : Tape) × (playback ≡ Some file) × (playback_after ≡ Some after) × SameFile file after × Rose file.faults after.faults
