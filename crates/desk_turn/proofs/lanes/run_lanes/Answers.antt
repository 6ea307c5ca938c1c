use Rattle.std.proofs.Common.{suc, subst}
use Rattle.control_desk.specs.Desks.{Desk}
use Rattle.turn_word.specs.Turns.{Handle}
use Rattle.desk_turn.specs.Lanes.{HasRun}
use Rattle.desk_turn.proofs.lanes.run_lanes.Goals as goal

pub returns : goal.returns
returns g c = record {
  many = c.for_each_mut.auto.s;
  each = λ k d low. let it = (c.for_each_mut.ensures k d low).1 in subst (λ (z : Handle Desk × Handle Desk). HasRun (suc k) z.0 z.1) (λ j. (it.argument_is j, it.left j)) it.call;
}
