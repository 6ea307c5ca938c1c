use Rattle.std.proofs.Common.{◌≡◌, length}
use Rattle.std.specs.Prelude.{vec_capacity}
use Rattle.bench_rack.proofs.racks.make_link_rooms.Given as goal

abbrev pub invariant-loop-place : goal.invariant-loop-place
invariant-loop-place l = record {
  capacity : vec_capacity l.rooms ≡ vec_capacity l.initial.rooms;
  rooms : length l.rooms.items ≡ l.place;
}
