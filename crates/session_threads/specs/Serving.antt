-- What the recorders' threads of a segment did. No public clause cites this module.
--     MayServe recording      it has its file in the making
--     ServedBy recording after      all blocks up to the ring's end were written, or the file failed
--     AreServed recordings after      so was each
--     IsUntorn recording, HaveFailed recordings      no write of its file failed, or that of one failed
use Rattle.std.specs.Prelude.{◌≡◌, ◌+◌, ℕ, ◌<◌, true, false, IfSome, List, length, get_or, slice_get, Some}
use Rattle.jack_host.specs.Causes.{Rose}
use Rattle.driver_words.specs.Tapes.{Tape}
use Rattle.disk_recorder.specs.Recordings.{Fails, MayWrite, Serves}
use Rattle.recorder_files.specs.Recorders.{Recording}
use Rattle.session_works.specs.Giving.{KeepsFile}

pub record MayServe (recording : Recording) : Type 0 where
  pub tape : Tape
  pub there : recording.tape ≡ Some tape
  pub may : MayWrite recording.getting tape

pub record WholeServed (recording after : Recording) (tape tape_after : Tape) : Type 0 where
  pub count : ℕ
  pub serves : Serves count recording.getting tape after.getting tape_after
  pub counted : after.blocks ≡ recording.blocks + count

pub record TornServed (recording after : Recording) (tape tape_after : Tape) : Type 0 where
  pub fails : Fails recording.getting tape after.getting tape_after
  pub counted : after.blocks ≡ recording.blocks + fails.count
  pub rose : Rose tape.faults tape_after.faults

pub record ServedBy (recording after : Recording) : Type 0 where
  pub keeps : KeepsFile recording after
  pub whole : keeps.tape_after.stopped ≡ false → WholeServed recording after keeps.tape keeps.tape_after
  pub torn : keeps.tape_after.stopped ≡ true → TornServed recording after keeps.tape keeps.tape_after

pub record AreServed (recordings after : List Recording) : Type 0 where
  pub each : (k : ℕ) (d : Recording) → k < length recordings → ServedBy (get_or recordings k d) (get_or after k d)

-- no write of its file failed
pub record IsUntorn (recording : Recording) : Type 0 where
  pub going : IfSome recording.tape (λ (tape : Tape). tape.stopped ≡ false)

-- the file of the recorder at a place was stopped by a failure
pub record HaveFailed (recordings : List Recording) : Type 0 where
  pub place : ℕ
  pub recording : Recording
  pub there : slice_get recordings place ≡ Some recording
  pub stopped : IfSome recording.tape (λ (tape : Tape). tape.stopped ≡ true)
