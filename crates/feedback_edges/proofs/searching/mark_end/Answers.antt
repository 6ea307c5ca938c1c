use Rattle.std.proofs.Common.{◌≡◌, true, get_or, arith}
use Rattle.std.proofs.lemmas.Grind.{common_steps}
use Rattle.connection_set.specs.session_model.specs.State.{is_direct}
use Rattle.feedback_edges.proofs.SearchLemmas.{led_set, unmarked-set}
use Rattle.feedback_edges.proofs.searching.mark_end.Goals as goal

pub returns-clause-led : goal.returns-clause-led
returns-clause-led c =
    let direct : is_direct c.args.edge.now.mark ≡ true = grind (arith, common_steps) in
    λ edges from m led. led_set c.args.table.now edges c.args.edge.now from c.args.marked.now (omega (arith, c.requires.numbers c.args.edge.now.destination.0 0 (omega arith))) m direct (grind (arith, common_steps)) led

pub returns-clause-fewer : goal.returns-clause-fewer
returns-clause-fewer c =
    λ e. unmarked-set c.args.marked.now (get_or c.args.table.now c.args.edge.now.destination.0 0) (omega (arith, c.requires.numbers c.args.edge.now.destination.0 0 (omega arith))) c.if-marked-to.false
