use Rattle.std.proofs.Common.{◌≡◌, ◌≤◌, length}
use Rattle.std.specs.Prelude.{vec_capacity}
use Rattle.host_files.proofs.rooms.make_rooms.Given as goal

abbrev pub invariant-loop-place : goal.invariant-loop-place
invariant-loop-place l = record {
  count : length l.rooms.items ≡ l.place;
  capacity : l.files ≤ vec_capacity l.rooms;
}
