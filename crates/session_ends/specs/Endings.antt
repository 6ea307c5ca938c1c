-- How the files of a session are finished, one after another.
--     FinishesOne capacity ring recording ring_after after      a recorder's ring was emptied and its file finished
--     StopsInOrder before after      the recorders' files were finished in order, and then the playback's, up to where that stopped
use Rattle.std.specs.Prelude.{◌≡◌, ℕ, ◌<◌, ◌≤◌, length, slice_get, None, Some}
use Rattle.driver_words.specs.Rings.{Sending}
use Rattle.driver_words.specs.Tapes.{Tape}
use Rattle.recorder_files.specs.Recorders.{Recording, Stored}
use Rattle.session_works.specs.SerialWords.{EndsOne}
use Rattle.session_works.specs.Parts.{Parts}

pub record FinishesOne (capacity : ℕ) (ring : Sending) (recording : Recording) (ring_after : Sending) (after : Recording) : Type 0 where
  -- the file that it had in the making
  pub tape : Tape
  pub was : recording.tape ≡ Some tape
  -- is in the making no longer
  pub none : after.tape ≡ None
  -- its store came back
  pub back : Stored
  pub store : after.store ≡ Some back
  -- with the finished file, in which are the blocks that the ring still had
  pub ends : EndsOne capacity (record { ring = ring; getting = recording.getting; tape = tape; blocks = recording.blocks }) ring_after after.getting after.blocks back.bytes

pub record StopsInOrder (before after : Parts) : Type 0 where
  -- where it stopped: at the recorder of this place, or behind the last one at the playback
  pub place : ℕ
  pub within : place ≤ length before.recorders
  -- no recorder and no ring is lost
  pub as_many : length after.recorders ≡ length before.recorders
  pub rings : length after.gear.rings.rings ≡ length before.gear.rings.rings
  -- the recorders before it were finished
  pub finished : (i : ℕ) (ring : Sending) (recording : Recording) (ring_after : Sending) (recording_after : Recording) → i < place → slice_get before.gear.rings.rings i ≡ Some ring → slice_get before.recorders i ≡ Some recording
      → slice_get after.gear.rings.rings i ≡ Some ring_after → slice_get after.recorders i ≡ Some recording_after → FinishesOne before.gear.script.header.ring ring recording ring_after recording_after
  -- those behind it are as they were
  pub left : (i : ℕ) (recording recording_after : Recording) → place < i → slice_get before.recorders i ≡ Some recording → slice_get after.recorders i ≡ Some recording_after → recording_after ≡ recording
  -- and so is the playback, where it stopped at a recorder: its file is in the making as it was
  pub making : place < length before.recorders → after.gear.playback ≡ before.gear.playback
  -- and its store did not come back
  pub playback : place < length before.recorders → after.playback ≡ before.playback
