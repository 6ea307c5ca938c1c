use Rattle.std.proofs.Common.{◌≡◌, ◌≤◌, take}
use Rattle.control_desk.specs.Desks.{made}
use Rattle.desk_turn.proofs.lanes.calls_of.Given as goal

abbrev pub invariant-loop-entry : goal.invariant-loop-entry
invariant-loop-entry l = record {
  count_is : l.count ≡ made (take l.entry-index l.history) l.lane;
  few : l.count ≤ l.entry-index;
}
