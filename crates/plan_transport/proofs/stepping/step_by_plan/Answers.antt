use Rattle.std.proofs.Common.{length, take, ◌+◌, ◌*◌, ◌-◌, ◌/◌, ◌≤◌, sym, ◌∙◌, ap, subst}
use Rattle.std.specs.Prelude.{drop, unwrap_or}
use Rattle.jack_types.specs.declared.moments.Moment.{Moment}
use Rattle.session_model.specs.Transport.{active_master, next_row, timeout_of}
use Rattle.task_laws.specs.cycle_plan.specs.Plans.{state_of_plan}
use Rattle.transport.specs.Standings.{counted, with_targets}
use Rattle.transport.proofs.TargetLemmas.{with_targets-all}
use Rattle.plan_transport.specs.Rows.{row_by}
use Rattle.plan_transport.specs.Slowness.{slow_of}
use Rattle.plan_transport.proofs.MasterLemmas.{HasTempo-numbers}
use Rattle.plan_transport.proofs.NodeLemmas.{next_row-nodes}
use Rattle.plan_transport.proofs.stepping.step_by_plan.Goals as goal

every : goal.returns-clause-every_row
every c =
    c.step.ensures.row
    ∙ ap (λ changes. next_row c.args.transport.now.row (with_targets changes) (counted (take (length c.nodes-nodes.result.now) c.read_slow-slow.result)) (unwrap_or c.timeout-timeout.result ((2 * c.args.transport.now.rate + c.args.period - 1) / c.args.period)) c.args.period) (c.adopted_from-adopted.ensures ∙ ap (drop c.args.from) c.changes.ensures.value)
    ∙ ap (λ timeout. next_row c.args.transport.now.row (with_targets (drop c.args.from c.args.plan.now.changes)) (counted (take (length c.nodes-nodes.result.now) c.read_slow-slow.result)) (unwrap_or timeout ((2 * c.args.transport.now.rate + c.args.period - 1) / c.args.period)) c.args.period) c.timeout-timeout.ensures
    ∙ ap (λ slow. next_row c.args.transport.now.row (with_targets (drop c.args.from c.args.plan.now.changes)) (counted slow) (timeout_of (state_of_plan c.args.plan.now) c.args.transport.now.rate c.args.period) c.args.period) (c.read_slow-slow.ensures ∙ ap slow_of c.nodes-nodes.ensures.value)
    ∙ next_row-nodes c.args.plan.now c.nodes-nodes.ensures.planned c.args.transport.now.row (with_targets (drop c.args.from c.args.plan.now.changes)) (timeout_of (state_of_plan c.args.plan.now) c.args.transport.now.rate c.args.period) c.args.period

pub returns-clause-row : goal.returns-clause-row
returns-clause-row c targets =
    every c
    ∙ ap (λ changes. row_by c.args.plan.now changes c.args.transport.now c.args.period) (with_targets-all (drop c.args.from c.args.plan.now.changes) targets)

pub returns-clause-every_row : goal.returns-clause-every_row
returns-clause-every_row c = every c

pub returns-clause-own_rate : goal.returns-clause-own_rate
returns-clause-own_rate c = ap (λ (m : Moment). m.rate) (c.step.ensures.moment (active_master (state_of_plan c.args.plan.now)) (HasTempo-numbers (active_master (state_of_plan c.args.plan.now)) c.master-tempo.result c.master-tempo.ensures))

pub returns-clause-least_rate : goal.returns-clause-least_rate
returns-clause-least_rate c = subst (λ k. 8000 ≤ k) (sym (ap (λ (m : Moment). m.rate) (c.step.ensures.moment (active_master (state_of_plan c.args.plan.now)) (HasTempo-numbers (active_master (state_of_plan c.args.plan.now)) c.master-tempo.result c.master-tempo.ensures)))) c.step.ensures.least_rate
