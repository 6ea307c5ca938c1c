use Rattle.std.proofs.Common.{◌≡◌, subst, ◌∙◌, slice_get}
use Rattle.std.specs.Option.{option_map}
use Rattle.call_laws.specs.cycle_plan.specs.Graphs.{state_of}
use Rattle.session_model.specs.Scripts.{planned_of}
use Rattle.lane_calls.specs.Plans.{plan_of}
use Rattle.control_desk.specs.Desks.{made}
use Rattle.control_desk.specs.Past.{Past}
use Rattle.control_desk.proofs.PastLemmas.{next-at}
use Rattle.control_desk.proofs.history.History.next.Goals as goal

pub returns-clause-next : goal.returns-clause-next
returns-clause-next c =
    subst (λ (p : Past). option_map plan_of c.get.result ≡ slice_get (planned_of p.script c.args.lane) (made p.history c.args.lane)) c.self.view_is
    (c.get.ensures ∙ next-at (record { script = c.self.inside.script; history = c.self.inside.entries.items }) c.self.inside.calls c.self.inside.made c.self.inside.changes.items (state_of c.self.inside.graph) c.self.invariant.0 c.args.lane c.requires)
