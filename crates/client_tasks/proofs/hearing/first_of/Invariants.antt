use Rattle.std.proofs.Common.{◌≡◌, ◌≤◌, ◌==◌, drop, filter}
use Rattle.std.specs.List.{position, position_from}
use Rattle.client_wiring.specs.declared.joints.Joint.{Joint}
use Rattle.client_wiring.specs.declared.joints.Origin.TheVariants.{Captured}
use Rattle.client_tasks.specs.Tasks.{is_same_channel}
use Rattle.client_tasks.proofs.hearing.first_of.Given as goal

-- the first of all is the first of those that are left, counted behind the node's wires so far
abbrev pub invariant-loop-joint : goal.invariant-loop-joint
invariant-loop-joint l = record {
  left : position (λ (other : Joint). is_same_channel other.origin (Captured l.channel)) (filter (λ (other : Joint). other.node == l.node) l.joints)
      ≡ position_from (λ (other : Joint). is_same_channel other.origin (Captured l.channel)) l.wire (filter (λ (other : Joint). other.node == l.node) (drop l.joint-index l.joints));
  few : l.wire ≤ l.joint-index;
}
