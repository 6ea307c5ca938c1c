-- What one recorder's call leaves. No public clause cites this module.
--     KeepsFile recording after      it has its file in the making, and nothing is new but that, its ring's end and its count
--     GaveUp most ring recording ring_after after      blocks went from its ring to its file
--     BrokeOff ring recording ring_after after      or its file failed
use Rattle.std.specs.Prelude.{◌≡◌, ℕ, Some}
use Rattle.jack_host.specs.Causes.{Rose}
use Rattle.driver_words.specs.Rings.{Sending}
use Rattle.driver_words.specs.Tapes.{SameFile, Tape}
use Rattle.recorder_files.specs.Recorders.{BreaksOff, GivesUp, Recording, Reel}

pub record KeepsFile (recording after : Recording) : Type 0 where
  pub tape : Tape
  pub tape_after : Tape
  pub was : recording.tape ≡ Some tape
  pub is : after.tape ≡ Some tape_after
  pub file : SameFile tape tape_after
  pub same : after ≡ record recording { getting = after.getting; tape = after.tape; blocks = after.blocks }

abbrev pub reel_of : Sending → Recording → Tape → Reel
reel_of ring recording tape = record { ring = ring; getting = recording.getting; tape = tape; blocks = recording.blocks }

pub record GaveUp (most : ℕ) (ring : Sending) (recording : Recording) (ring_after : Sending) (after : Recording) : Type 0 where
  pub keeps : KeepsFile recording after
  pub gives : GivesUp most (reel_of ring recording keeps.tape) (reel_of ring_after after keeps.tape_after)

pub record BrokeOff (ring : Sending) (recording : Recording) (ring_after : Sending) (after : Recording) : Type 0 where
  pub keeps : KeepsFile recording after
  pub breaks : BreaksOff (reel_of ring recording keeps.tape) (reel_of ring_after after keeps.tape_after)
  pub rose : Rose keeps.tape.faults keeps.tape_after.faults
