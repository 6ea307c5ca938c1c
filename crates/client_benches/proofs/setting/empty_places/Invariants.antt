use Rattle.std.proofs.Common.{◌≡◌, ◌+◌, length, take, drop, replicate, None}
use Rattle.std.specs.Prelude.{vec_capacity, count_by, is_some}
use Rattle.client_benches.proofs.setting.empty_places.Given as goal

abbrev pub invariant-loop-place : goal.invariant-loop-place
invariant-loop-place l = record {
  length_stays : length l.rooms ≡ length l.initial.rooms;
  taken : take l.place l.rooms ≡ replicate l.place None;
  rest : drop l.place l.rooms ≡ drop l.place l.initial.rooms;
  spare : length l.spare.items + count_by is_some (drop l.place l.initial.rooms) ≡ length l.initial.spare.items + count_by is_some l.initial.rooms;
  spare_room : vec_capacity l.spare ≡ vec_capacity l.initial.spare;
}
