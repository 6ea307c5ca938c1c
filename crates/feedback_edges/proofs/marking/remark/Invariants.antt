use Rattle.std.proofs.Common.{◌≡◌, drop, length, take}
use Rattle.connection_set.specs.session_model.specs.Ids.{connections}
use Rattle.connection_set.specs.session_model.specs.Loops.{remark, remark_from}
use Rattle.feedback_edges.specs.Marking.{AreNamed, ends_by_id}
use Rattle.feedback_edges.proofs.marking.remark.Given as goal

abbrev pub invariant-loop-place : goal.invariant-loop-place
invariant-loop-place l = record {
  size : length l.connections.edges ≡ l.place-end;
  ends : ends_by_id l.connections.edges ≡ ends_by_id l.initial.connections.edges;
  room : l.connections.room ≡ l.initial.connections.room;
  marks : AreNamed l.ports l.initial.connections.edges
      → remark_from (take l.place (connections l.ports l.connections.edges)) (drop l.place (connections l.ports l.connections.edges)) ≡ remark (connections l.ports l.initial.connections.edges);
}
