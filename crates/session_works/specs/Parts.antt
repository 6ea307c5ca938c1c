-- What contracts see of a session.
--     Parts      its parts, as their own contracts see them
--     session_of sounding parts      the session that they make, in the words of its laws, whose guests sound so by their scores
--     told_of sounding parts      the same, with what all stores tell, in whatever state their files are
--     stores_in parts      the stores that it holds, in the order of attaching
--     AreLater before after      the same stores, later
--     HasOpenFiles parts      each recorder has its file in the making, and no store came back
--     SourceRose before after      a read of the capture or of a disk failed
--     IsReadLater before after, AreReadLater before after      the same disk's file, later, and those of all disks
use Rattle.std.specs.Prelude.{◌≡◌, ℕ, ◌≤◌, false, All, List, ◌∷◌, filter_map, length, map, slice_get, Option, None, Some, is_some}
use Rattle.jack_host.specs.Causes.{Rose}
use Rattle.session_model.specs.Kinds.{Sound}
use Rattle.client_kinds.specs.Scores.{Score}
use Rattle.driver_words.specs.Tapes.{Tape}
use Rattle.control_desk.specs.Desks.{Desk}
use Rattle.cycle_driver.specs.Gears.{Gear, driver_of}
use Rattle.recorder_files.specs.Recorders.{Recording, Stored, held_in, held_or}
use Rattle.run_laws.specs.Sessions.{Playing, Session}

-- `playback` is the playback's store where it came back, and `attached` is how many stores were attached
pub record Parts : Type 0 where
  pub desk : Desk
  pub gear : Gear
  pub recorders : List Recording
  pub players : List Playing
  pub playback : Option Stored
  pub attached : ℕ

-- the bytes that a store tells, if there is one
abbrev pub bytes_of : Option Stored → Option (List ℕ)
bytes_of None = None
bytes_of (Some stored) = stored.bytes

abbrev pub session_of : (sounding : Score → Sound) → Parts → Session
session_of sounding parts = record {
  script = parts.gear.script;
  desk = parts.desk;
  driver = driver_of sounding parts.gear;
  getting = map (λ (r : Recording). r.getting) parts.recorders;
  tapes = filter_map (λ (r : Recording). r.tape) parts.recorders;
  counts = map (λ (r : Recording). r.blocks) parts.recorders;
  players = parts.players;
  playback_file = bytes_of parts.playback;
  record_files = map (λ (r : Recording). bytes_of r.store) parts.recorders;
}

abbrev pub told_of : (sounding : Score → Sound) → Parts → Session
told_of sounding parts = record (session_of sounding parts) {
  playback_file = bytes_of (held_or parts.playback parts.gear.playback);
  record_files = map (λ (r : Recording). bytes_of (held_in r)) parts.recorders;
}

-- the playback's first, and then the recorders'
abbrev pub stores_in : Parts → List Stored
stores_in parts = filter_map (λ (held : Option Stored). held) (held_or parts.playback parts.gear.playback ∷ map held_in parts.recorders)

-- a store keeps its name, tells its bytes where it did, and its count of faults never falls
pub record IsLater (before after : Stored) : Type 0 where
  pub name : after.name ≡ before.name
  pub tells : is_some after.bytes ≡ is_some before.bytes
  pub faults : before.faults ≤ after.faults

pub record AreLater (before after : List Stored) : Type 0 where
  pub as_many : length after ≡ length before
  pub each : (i : ℕ) (old new : Stored) → slice_get before i ≡ Some old → slice_get after i ≡ Some new → IsLater old new

-- the count of faults of one of them rose
pub record OneRose (before after : List Stored) : Type 0 where
  pub place : ℕ
  pub old : Stored
  pub new : Stored
  pub was : slice_get before place ≡ Some old
  pub is : slice_get after place ≡ Some new
  pub rose : Rose old.faults new.faults

-- no recorder lacks its file in the making, and no store came back
pub record HasOpenFiles (parts : Parts) : Type 0 where
  pub tapes : (i : ℕ) (r : Recording) → slice_get parts.recorders i ≡ Some r → (tape : Tape) × (r.tape ≡ Some tape)
  pub no_playback : parts.playback ≡ None
  pub no_stores : All (λ (r : Recording). r.store ≡ None) parts.recorders

-- the count of failed reads of one source rose: the capture's, or a disk file's
pub data SourceRose (before after : Parts) : Type 0 where
  OfCapture : Rose before.gear.capture.reading.faults after.gear.capture.reading.faults → SourceRose before after
  OfDisk : (disk : ℕ) (old new : Playing) → slice_get before.players disk ≡ Some old → slice_get after.players disk ≡ Some new → Rose old.faults new.faults → SourceRose before after

-- the same disk's file, later: its count of failed reads never falls, and stays where no read failed
pub record IsReadLater (before after : Playing) : Type 0 where
  pub format : after.format ≡ before.format
  pub faults : before.faults ≤ after.faults
  pub kept : after.failed ≡ false → (before.failed ≡ false) × (after.faults ≡ before.faults)

pub record AreReadLater (before after : List Playing) : Type 0 where
  pub as_many : length after ≡ length before
  pub each : (disk : ℕ) (old new : Playing) → slice_get before disk ≡ Some old → slice_get after disk ≡ Some new → IsReadLater old new
