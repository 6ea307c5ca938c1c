use Rattle.std.proofs.Common.{◌+◌, ◌≤◌, subst, sym}
use Rattle.grammar_laws.proofs.GrammarBodies.{period_in}
use Rattle.task_laws.specs.driver_laws.specs.Drivers.{greatest_period, turn_of}
use Rattle.script_needs.proofs.LineLemmas.{greatest-from}
use Rattle.script_needs.proofs.PeriodLemmas.{greatest-lawful, turns-within}
use Rattle.script_needs.proofs.lengths.greatest_period.Goals as goal

pub returns-clause-greatest : goal.returns-clause-greatest
returns-clause-greatest c = greatest-from c.args.script.now c.header.result c.lines.result.now c.longest_on.result c.header.ensures.value c.lines.ensures.value c.longest_on.ensures

pub returns-clause-low : goal.returns-clause-low
returns-clause-low c =
    subst (λ n. 4 ≤ n) (sym (greatest-from c.args.script.now c.header.result c.lines.result.now c.longest_on.result c.header.ensures.value c.lines.ensures.value c.longest_on.ensures))
    (period_in (greatest_period c.args.script.now) (greatest-lawful c.args.script.now c.lines.ensures.lawful)).0

pub returns-clause-high : goal.returns-clause-high
returns-clause-high c =
    subst (λ n. n ≤ 4096) (sym (greatest-from c.args.script.now c.header.result c.lines.result.now c.longest_on.result c.header.ensures.value c.lines.ensures.value c.longest_on.ensures))
    (period_in (greatest_period c.args.script.now) (greatest-lawful c.args.script.now c.lines.ensures.lawful)).1

pub returns-clause-each : goal.returns-clause-each
returns-clause-each c k low =
    subst (λ n. (turn_of c.args.script.now (k + 1)).period ≤ n) (sym (greatest-from c.args.script.now c.header.result c.lines.result.now c.longest_on.result c.header.ensures.value c.lines.ensures.value c.longest_on.ensures))
    (turns-within c.args.script.now k low)
