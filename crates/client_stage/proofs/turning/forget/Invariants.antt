use Rattle.std.proofs.Common.{◌≡◌, ◌<◌, ℕ, None, length, slice_index_or}
use Rattle.std.specs.Vec.{vec_capacity}
use Rattle.client_stage.proofs.turning.forget.Given as goal

abbrev pub invariant-loop-place : goal.invariant-loop-place
invariant-loop-place l = record {
  none : (i : ℕ) → i < l.place → slice_index_or l.last.items i None ≡ None;
  lengths : length l.last.items ≡ length l.initial.last.items;
  room : vec_capacity l.last ≡ vec_capacity l.initial.last;
}
