use Rattle.std.proofs.Common.{◌≡◌, ◌<◌, ◌≤◌, ℕ, All, Contains, true, [], length, slice_get}
use Rattle.std.specs.Prelude.{Option, Some}
use Rattle.turn_word.specs.Turns.{AreAll, Handle}
use Rattle.turn_word.specs.Handles.{gathered}
use Rattle.turn_word.proofs.pass.gather_passes.Given as goal

abbrev pub invariant-loop-i : goal.invariant-loop-i
invariant-loop-i g l = record {
  table : l.whole.table_id ≡ l.words.table_id;
  whole : (opened : Option g.row.T.Denot) → AreAll l.words.table_id l.words.key.passes opened l.fn.passes → l.whole.me ≡ (gathered l.words.key.passes opened l.i l.whole.me.0, []);
  sees : (k : ℕ) (p : Handle g.row.T.Denot) → k < l.i → slice_get l.fn.passes k ≡ Some p → All (Contains l.whole.me.0.seen) p.seen;
  tells : (k : ℕ) (p : Handle g.row.T.Denot) → k < l.i → slice_get l.fn.passes k ≡ Some p → p.told ≡ true → l.whole.me.0.told ≡ true;
  behind : (k : ℕ) (p : Handle g.row.T.Denot) → l.i ≤ k → slice_get l.passes k ≡ Some p → slice_get l.fn.passes k ≡ Some p;
  many : length l.passes ≡ length l.fn.passes;
}
