use Rattle.std.proofs.Common.{◌≡◌, ◌≤◌, ◌<◌, ℕ, length, None}
use Rattle.std.specs.Prelude.{option_map, slice_index_or, []}
use Rattle.client_benches.proofs.playing.clear_rooms.Given as goal

abbrev pub invariant-loop-place : goal.invariant-loop-place
invariant-loop-place l = record {
  long : length l.rooms ≡ length l.initial.rooms;
  cleared : (k : ℕ) → k < l.place → slice_index_or l.rooms k None ≡ option_map (λ _. []) (slice_index_or l.initial.rooms k None);
  later : (k : ℕ) → l.place ≤ k → slice_index_or l.rooms k None ≡ slice_index_or l.initial.rooms k None;
}
