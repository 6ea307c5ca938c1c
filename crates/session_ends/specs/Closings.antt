-- What closing a session's recorders leaves. No public clause cites this module.
--     Closed capacity ring recording ring_after after      a recorder's ring was emptied and its file finished
--     Failed capacity ring recording after      or its file failed
--     ClosesAll parts after      all were closed
--     CloseFails parts after      the first that failed ended it
--     PlaybackCloses finished tape back      the playback was finished, or failed
use Rattle.std.specs.Prelude.{◌≡◌, ℕ, ◌<◌, length, slice_get, Some, OnErr, OnOk, Result}
use Rattle.jack_host.specs.Causes.{Rose}
use Rattle.driver_words.specs.Rings.{Sending}
use Rattle.driver_words.specs.Tapes.{Tape}
use Rattle.recorder_files.specs.Recorders.{Recording, Stored, held_in, stored_of}
use Rattle.session_works.specs.SerialWords.{EndTried, IsBroken, IsFinished}
use Rattle.session_ends.specs.Endings.{FinishesOne}
use Rattle.session_works.specs.Giving.{reel_of}
use Rattle.session_works.specs.Parts.{IsLater, Parts}

pub record Closed (capacity : ℕ) (ring : Sending) (recording : Recording) (ring_after : Sending) (after : Recording) : Type 0 where
  pub finishes : FinishesOne capacity ring recording ring_after after
  pub later : IsLater (stored_of finishes.tape) finishes.back

-- at a block, or where it was finished
pub record Failed (capacity : ℕ) (ring : Sending) (recording after : Recording) : Type 0 where
  pub tape : Tape
  pub back : Stored
  pub was : recording.tape ≡ Some tape
  pub held : held_in after ≡ Some back
  pub later : IsLater (stored_of tape) back
  pub rose : Rose tape.faults back.faults
  pub tried : EndTried capacity (reel_of ring recording tape) back.bytes

-- what is left of a recorder where the one at a place failed
pub record Tried (capacity place recorder : ℕ) (ring : Sending) (recording : Recording) (ring_after : Sending) (after : Recording) : Type 0 where
  pub before : recorder < place → Closed capacity ring recording ring_after after
  pub here : recorder ≡ place → Failed capacity ring recording after
  pub behind : place < recorder → after ≡ recording

-- of the driver nothing changed but the rings
pub record ClosesAll (parts after : Parts) : Type 0 where
  pub each : (i : ℕ) (ring : Sending) (recording : Recording) (ring_after : Sending) (recording_after : Recording) → slice_get parts.gear.rings.rings i ≡ Some ring → slice_get parts.recorders i ≡ Some recording
      → slice_get after.gear.rings.rings i ≡ Some ring_after → slice_get after.recorders i ≡ Some recording_after → Closed parts.gear.script.header.ring ring recording ring_after recording_after
  pub as_many : length after.recorders ≡ length parts.recorders
  pub rings : length after.gear.rings.rings ≡ length parts.gear.rings.rings

pub record CloseFails (parts after : Parts) : Type 0 where
  pub place : ℕ
  pub there : place < length parts.recorders
  pub each : (i : ℕ) (ring : Sending) (recording : Recording) (ring_after : Sending) (recording_after : Recording) → slice_get parts.gear.rings.rings i ≡ Some ring → slice_get parts.recorders i ≡ Some recording
      → slice_get after.gear.rings.rings i ≡ Some ring_after → slice_get after.recorders i ≡ Some recording_after → Tried parts.gear.script.header.ring place i ring recording ring_after recording_after
  pub as_many : length after.recorders ≡ length parts.recorders
  pub rings : length after.gear.rings.rings ≡ length parts.gear.rings.rings

pub record PlaybackCloses {T E : Type 0} (finished : Result T E) (tape : Tape) (back : Stored) : Type 0 where
  pub later : IsLater (stored_of tape) back
  pub whole : OnOk finished (IsFinished tape back.bytes)
  pub broken : OnErr finished (IsBroken tape back.bytes)
  pub rose : OnErr finished (Rose tape.faults back.faults)
