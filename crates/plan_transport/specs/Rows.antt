-- The row that a plan steps a transport to.
--     row_by plan changes before period      the row behind `before`, where these changes are adopted
use Rattle.std.specs.Prelude.{ℕ, List}
use Rattle.jack_types.specs.declared.commands.Change.{Change}
use Rattle.session_model.specs.Transport.{Row, next_row, slow_numbers, timeout_of}
use Rattle.task_laws.specs.cycle_plan.specs.Plans.{Planned, state_of_plan}
use Rattle.transport.specs.Standings.{Standing}

-- on the plan's slow numbers and its timeout, at the transport's rate
abbrev pub row_by : Planned → List Change → Standing → ℕ → Row
row_by plan changes before period =
    next_row before.row changes (slow_numbers (state_of_plan plan)) (timeout_of (state_of_plan plan) before.rate period) period
