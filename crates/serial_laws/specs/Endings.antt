-- How a serial session ends.
--     EndsAll session after      each ring was emptied and each file finished
--     EndFails session after      or a file failed
use Rattle.std.specs.Prelude.{◌≡◌, ℕ, List, [], length, slice_get, ℤ, Option, IfSome, None, Some}
use Rattle.session_model.specs.WaveFiles.{wave_text}
use Rattle.driver_words.specs.Rings.{Getting, Sending}
use Rattle.driver_words.specs.Tapes.{HasFront, HasSamples, Tape}
use Rattle.recorder_files.specs.Recorders.{BreaksOff, GivesUp, Reel}
use Rattle.run_laws.specs.Sessions.{Session}
use Rattle.serial_laws.specs.Steps.{IsReel}

-- a store that tells has the finished file of whatever samples the file in the making had
abbrev pub IsFinished : Tape → Option (List ℕ) → Type 0
IsFinished tape bytes = (samples : List ℤ) → HasSamples tape samples → IfSome bytes (λ text. text ≡ wave_text tape.format samples)

-- or a front of it
abbrev pub IsBroken : Tape → Option (List ℕ) → Type 0
IsBroken tape bytes = (samples : List ℤ) → HasSamples tape samples → HasFront tape.format samples bytes

-- a recorder's ring was emptied and its file finished
pub record EndsOne (capacity : ℕ) (reel : Reel) (ring : Sending) (getting : Getting) (blocks : ℕ) (bytes : Option (List ℕ)) : Type 0 where
  pub tape : Tape
  pub empties : GivesUp capacity reel (record { ring = ring; getting = getting; tape = tape; blocks = blocks })
  pub finished : IsFinished tape bytes

-- recorders in order, and then the playback; all else stays
pub record EndsAll (session after : Session) : Type 0 where
  pub each : (recorder : ℕ) (reel : Reel) (ring : Sending) (getting : Getting) (blocks : ℕ) (bytes : Option (List ℕ)) → IsReel session recorder reel
      → slice_get after.driver.rings recorder ≡ Some ring → slice_get after.getting recorder ≡ Some getting → slice_get after.counts recorder ≡ Some blocks → slice_get after.record_files recorder ≡ Some bytes
      → EndsOne session.script.header.ring reel ring getting blocks bytes
  pub playback : (tape : Tape) → session.driver.playback ≡ Some tape → IsFinished tape after.playback_file
  pub rings : length after.driver.rings ≡ length session.driver.rings
  pub getting : length after.getting ≡ length session.getting
  pub counts : length after.counts ≡ length session.counts
  pub records : length after.record_files ≡ length session.getting
  pub same : after ≡ record session { driver = record session.driver { rings = after.driver.rings; playback = None }; getting = after.getting; tapes = []; counts = after.counts; playback_file = after.playback_file; record_files = after.record_files }

-- what an end that failed left of a recorder: its file is finished or failed when it was, its ring failed to give up, or it was left alone
pub data EndTried (capacity : ℕ) (reel : Reel) (bytes : Option (List ℕ)) : Type 0 where
  Finished : (after : Reel) → GivesUp capacity reel after → IsFinished after.tape bytes → EndTried capacity reel bytes
  Unfinished : (after : Reel) → GivesUp capacity reel after → IsBroken after.tape bytes → EndTried capacity reel bytes
  Broken : (after : Reel) → BreaksOff reel after → bytes ≡ after.tape.bytes → EndTried capacity reel bytes
  Left : bytes ≡ reel.tape.bytes → EndTried capacity reel bytes

-- what the stores tell behind it; history, numbers and overruns stay
pub record EndFails (session after : Session) : Type 0 where
  pub each : (recorder : ℕ) (reel : Reel) (bytes : Option (List ℕ)) → IsReel session recorder reel → slice_get after.record_files recorder ≡ Some bytes → EndTried session.script.header.ring reel bytes
  pub records : length after.record_files ≡ length session.getting
  pub playback : (tape : Tape) → session.driver.playback ≡ Some tape → IsBroken tape after.playback_file
  pub script : after.script ≡ session.script
  pub history : after.desk.history ≡ session.desk.history
  pub numbers : after.driver.numbers ≡ session.driver.numbers
  pub overruns : after.driver.overruns ≡ session.driver.overruns
  pub underruns : after.driver.underruns ≡ session.driver.underruns
  pub scores : after.driver.scores ≡ session.driver.scores
