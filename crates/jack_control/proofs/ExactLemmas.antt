-- What was played has no refusal.
use Rattle.std.proofs.Common.{ℕ, List, Some, None}
use Rattle.std.specs.Prelude.{Option}
use Rattle.session_model.specs.Kinds.{Sound}
use Rattle.play_words.specs.Words.{Play}
use Rattle.play_inputs.specs.declared.status.Status.{Status}
use Rattle.play_inputs.specs.Answers.{HasRefusal}
use Rattle.play_inputs.specs.Inputs.{Files}
use Rattle.jack_control.specs.Plays.{IsExplained}
use Rattle.play_inputs.proofs.ExactLemmas.{input-fits, refused-fits}

pub exact-ok : (files new : Option Files) (out out_after : Option (List ℕ)) (scores : List Sound) (play : Play) (fault : Status) → HasRefusal files scores play fault
    → IsExplained files new out out_after scores play → ⊥
exact-ok None new out out_after scores play fault h is = h
exact-ok (Some files) None out out_after scores play fault h is = is
exact-ok (Some files) (Some new) out out_after scores play fault h is =
    refused-fits files scores play fault h (input-fits files scores play (is.script_bytes, is.script_is, (is.capture_bytes, is.capture_is, (is.disk_bytes, is.disks_are, (is.given, is.input)))))
