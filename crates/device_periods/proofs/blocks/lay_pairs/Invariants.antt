use Rattle.std.proofs.Common.{◌≡◌, ◌*◌, [], ◌∷◌, length}
use Rattle.device_periods.specs.Blocks.{IsLaid}
use Rattle.device_periods.proofs.blocks.lay_pairs.Given as goal

abbrev pub invariant-loop-i : goal.invariant-loop-i
invariant-loop-i l = record {
  long : length l.block ≡ l.frames * 2;
  laid : IsLaid 2 l.i (l.left ∷ l.right ∷ []) l.block;
}
