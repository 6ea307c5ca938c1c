use Rattle.std.proofs.Common.{◌≤◌, ◌+◌, take}
use Rattle.cycle_plan.specs.Graphs.{state_of}
use Rattle.session_graph.specs.Replays.{IsReplay}
use Rattle.session_graph.proofs.replaying.replayed.Given as goal

abbrev pub invariant-loop-place : goal.invariant-loop-place
invariant-loop-place l = record {
  behind : IsReplay l.script (take l.place l.lines) (state_of l.replay.graph) l.replay.calls l.replay.next;
  within : l.replay.next ≤ l.number + 1;
  few : l.replay.next ≤ l.place + 1;
}
