use Rattle.std.proofs.Common.{◌≡◌, ◌≤◌, take}
use Rattle.std.specs.Vec.{vec_capacity}
use Rattle.graph_word.specs.session_model.specs.Commands.{replay}
use Rattle.graph_word.specs.session_model.specs.State.{State}
use Rattle.cycle_plan.specs.Graphs.{state_of}
use Rattle.cycle_plan.proofs.replaying.replay.Given as goal

abbrev pub invariant-loop-place : goal.invariant-loop-place
invariant-loop-place l = record {
  so_far : l.kept.items ≡ take l.place l.changes;
  state_is : (before : State) → state_of l.initial.graph ≡ replay before l.initial.kept.items → state_of l.graph ≡ replay before (take l.place l.changes);
  room : vec_capacity l.initial.kept ≤ vec_capacity l.kept;
}
