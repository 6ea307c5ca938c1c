use Rattle.std.proofs.Common.{◌≡◌, ◌≤◌, ℕ, [], length, slice_get, vec_capacity}
use Rattle.std.specs.Prelude.{Some, None}
use Rattle.turn_word.specs.Turns.{Handle}
use Rattle.turn_word.specs.Handles.{left_of, new_pass}
use Rattle.turn_word.proofs.turn.Turn.new.Given as goal

abbrev pub invariant-loop-number : goal.invariant-loop-number
invariant-loop-number g l = record {
  table : l.seat.table_id ≡ l.table.shared.table_id;
  left : l.seat.me ≡ (left_of l.passes None l.number, []);
  before : (k : ℕ) (p : Handle g.row.T.Denot) → slice_get l.all.items k ≡ Some p → p ≡ new_pass l.table.shared.table_id l.passes None k;
  many : length l.all.items ≡ l.number;
  room : l.passes ≤ vec_capacity l.all;
}
