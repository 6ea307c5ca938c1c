use Rattle.std.proofs.Common.{◌≡◌, ◌<◌, ℕ, [], length, slice_get}
use Rattle.std.specs.Prelude.{Option, Some}
use Rattle.turn_word.specs.Turns.{Handle}
use Rattle.turn_word.specs.Handles.{left_of, new_pass, whole_of}
use Rattle.turn_word.proofs.pass.deal.Given as goal

abbrev pub invariant-loop-i : goal.invariant-loop-i
invariant-loop-i g l = record {
  table : l.whole.table_id ≡ l.words.table_id;
  whole : (opened : Option g.row.T.Denot) → l.fn.whole.me ≡ (whole_of l.words.key.passes opened [], []) → l.whole.me ≡ (left_of l.words.key.passes opened l.i, []);
  before : (opened : Option g.row.T.Denot) → l.fn.whole.me ≡ (whole_of l.words.key.passes opened [], []) → (k : ℕ) (p : Handle g.row.T.Denot) → k < l.i → slice_get l.passes k ≡ Some p → p ≡ new_pass l.words.table_id l.words.key.passes opened k;
  many : length l.passes ≡ length l.fn.passes;
}
