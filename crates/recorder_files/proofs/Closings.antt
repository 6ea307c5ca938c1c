-- A recorder whose file came out.
use Rattle.std.proofs.Common.{◌≡◌, ◌∙◌, Option, None, Some, ap}
use Rattle.driver_words.specs.Tapes.{Tape}
use Rattle.recorder_files.specs.Recorders.{Recording, Stored}

pub closed-is : (before now : Recording) (left : Option Tape) (back : Stored) → before ≡ now → left ≡ None → record before { tape = left; store = Some back } ≡ record now { tape = None; store = Some back }
closed-is before now left back is none = ap (λ (r : Recording). record r { tape = left; store = Some back }) is ∙ ap (λ (t : Option Tape). record now { tape = t; store = Some back }) none
