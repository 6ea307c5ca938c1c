use Rattle.cycle_plan.specs.Graphs.{state_of}
use Rattle.cycle_plan.proofs.PlannedLemmas.{go_on-next}
use Rattle.cycle_plan.proofs.replaying.replay.Goals as goal

pub go_on-requires-clause-next : goal.go_on-requires-clause-next
go_on-requires-clause-next c =
    go_on-next c.requires.replay.before (state_of c.loop-place.graph) c.loop-place.kept.items c.args.changes.now c.loop-place.place c.index-changes-place.result
    c.requires.replay.lawful c.loop-place-test.true c.index-changes-place.is c.loop-place.invariant.so_far
    (c.loop-place.invariant.state_is c.requires.replay.before c.requires.replay.state_is)
