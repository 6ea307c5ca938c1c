use Rattle.std.proofs.Common.{◌≡◌, length}
use Rattle.session_ends.proofs.TakeLemmas.{AreTaken}
use Rattle.session_ends.proofs.taking.take_recorded.Given as goal

abbrev pub invariant-loop-recorder : goal.invariant-loop-recorder
invariant-loop-recorder g l = record {
  same : l.recorders.items ≡ l.initial.recorders.items;
  taken : AreTaken l.recorder l.initial.recorders.items;
  end : l.recorder-end ≡ length l.initial.recorders.items;
}
