use Rattle.std.proofs.Common.{◌≡◌, ◌≤◌, ◌<◌, ℕ, length, None}
use Rattle.std.specs.Prelude.{option_map, slice_index_or, nat_lt, if◌then◌else◌, []}
use Rattle.client_kinds.specs.Buffers.{buffers_of}
use Rattle.client_benches.specs.Routes.{carried_by}
use Rattle.client_benches.proofs.playing.fill_rooms.Given as goal

abbrev pub invariant-loop-place : goal.invariant-loop-place
invariant-loop-place l = record {
  long : length l.rooms ≡ length l.initial.rooms;
  filled : (k : ℕ) → k < l.place → slice_index_or l.rooms k None ≡ option_map (λ _. if nat_lt k l.links then carried_by l.ports.period (buffers_of l.ports.outputs l.ports.period l.outputs) k l.routes else []) (slice_index_or l.initial.rooms k None);
  later : (k : ℕ) → l.place ≤ k → slice_index_or l.rooms k None ≡ slice_index_or l.initial.rooms k None;
}
