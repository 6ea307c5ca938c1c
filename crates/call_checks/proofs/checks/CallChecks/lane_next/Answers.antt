use Rattle.std.proofs.Common.{◌≡◌, ◌∙◌, map, slice_get, subst}
use Rattle.std.specs.Option.{option_map}
use Rattle.cycle_plan.specs.Graphs.{state_of}
use Rattle.session_model.specs.Scripts.{planned_of}
use Rattle.lane_calls.specs.Plans.{plan_of}
use Rattle.call_checks.specs.Checks.{Checks}
use Rattle.call_checks.specs.Kept.{entry_of, made}
use Rattle.call_checks.proofs.KeptLemmas.{next-at}
use Rattle.call_checks.proofs.checks.CallChecks.lane_next.Goals as goal

pub returns-clause-next : goal.returns-clause-next
returns-clause-next c =
    subst (λ (p : Checks). option_map plan_of c.get.result ≡ slice_get (planned_of p.script c.args.lane) (made p.history c.args.lane)) c.self.view_is
    (c.get.ensures
    ∙ next-at (record { script = c.self.inside.script; history = map entry_of c.self.inside.right.items; wrong = c.self.inside.wrong }) c.self.inside.calls c.self.inside.made c.self.inside.right.items c.self.inside.changes.items
    (state_of c.self.inside.graph) c.self.invariant.0 c.args.lane c.requires)
