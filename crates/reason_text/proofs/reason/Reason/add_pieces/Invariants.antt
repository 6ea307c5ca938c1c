use Rattle.std.proofs.Common.{◌≡◌, ◌++◌, take}
use Rattle.reason_text.specs.Texts.{told}
use Rattle.reason_text.proofs.reason.Reason.add_pieces.Given as goal

abbrev pub invariant-loop-piece : goal.invariant-loop-piece
invariant-loop-piece l = l.self ≡ l.initial.self ++ told (take l.piece-index l.pieces)
