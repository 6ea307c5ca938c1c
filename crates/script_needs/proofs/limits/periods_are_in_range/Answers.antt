use Rattle.std.proofs.Common.{◌+◌}
use Rattle.grammar_laws.proofs.GrammarBodies.{period_in}
use Rattle.session_model.specs.Grammar.{IsPeriod}
use Rattle.task_laws.specs.driver_laws.specs.Drivers.{greatest_period, turn_of}
use Rattle.script_needs.proofs.PeriodLemmas.{greatest-lawful, phases-lawful, turns-have, turns-within}
use Rattle.script_needs.proofs.limits.periods_are_in_range.Goals as goal

pub returns-clause-powers : goal.returns-clause-powers
returns-clause-powers c script k is low = turns-have IsPeriod script (phases-lawful script is) k low

pub returns-clause-some : goal.returns-clause-some
returns-clause-some c script k is low = (period_in (turn_of script (k + 1)).period (turns-have IsPeriod script (phases-lawful script is) k low)).0

pub returns-clause-most : goal.returns-clause-most
returns-clause-most c script k is low = (period_in (turn_of script (k + 1)).period (turns-have IsPeriod script (phases-lawful script is) k low)).1

pub returns-clause-within : goal.returns-clause-within
returns-clause-within c = turns-within

pub returns-clause-greatest : goal.returns-clause-greatest
returns-clause-greatest c = greatest-lawful

pub returns-clause-low : goal.returns-clause-low
returns-clause-low c script is = (period_in (greatest_period script) (greatest-lawful script is)).0

pub returns-clause-high : goal.returns-clause-high
returns-clause-high c script is = (period_in (greatest_period script) (greatest-lawful script is)).1
