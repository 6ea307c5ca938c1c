use Rattle.std.proofs.Common.{◌≡◌, map, take}
use Rattle.std.specs.Vec.{vec_capacity}
use Rattle.client_tasks.specs.Fillings.{last_place}
use Rattle.client_tasks.proofs.placing.place_last.Given as goal

abbrev pub invariant-loop-joint : goal.invariant-loop-joint
invariant-loop-joint l = record {
  places : l.last.items ≡ map (last_place l.given) (take l.joint-index l.joints);
  room : vec_capacity l.last ≡ vec_capacity l.fn.last;
}
