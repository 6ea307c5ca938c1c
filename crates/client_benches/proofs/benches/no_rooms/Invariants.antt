use Rattle.std.proofs.Common.{◌≡◌, replicate, None}
use Rattle.std.specs.Prelude.{vec_capacity}
use Rattle.client_benches.proofs.benches.no_rooms.Given as goal

abbrev pub invariant-loop-place : goal.invariant-loop-place
invariant-loop-place l = record {
  capacity : vec_capacity l.rooms ≡ vec_capacity l.initial.rooms;
  rooms : l.rooms.items ≡ replicate l.place None;
}
