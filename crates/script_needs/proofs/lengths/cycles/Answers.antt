use Rattle.std.proofs.Common.{◌≤◌, ap, arith, subst, sum_by, sym, ◌∙◌}
use Rattle.script_needs.specs.Lines.{cycles_on}
use Rattle.script_needs.proofs.CycleLemmas.{lines-few, turns-length}
use Rattle.script_needs.proofs.lengths.cycles.Goals as goal

pub cycles_behind-requires : goal.cycles_behind-requires
cycles_behind-requires c = subst (λ lines. sum_by cycles_on lines ≤ 1000000) (sym c.lines.ensures.value) (lines-few c.args.script.now c.lines.ensures.lawful)

pub returns-clause-count : goal.returns-clause-count
returns-clause-count c = c.cycles_behind.ensures ∙ ap (sum_by cycles_on) c.lines.ensures.value ∙ turns-length c.args.script.now

pub returns-clause-few : goal.returns-clause-few
returns-clause-few c =
    let all = c.cycles_behind.ensures in
    let same = ap (sum_by cycles_on) c.lines.ensures.value in
    let few = lines-few c.args.script.now c.lines.ensures.lawful in
    omega (arith, all, same, few)
