use Rattle.std.proofs.Common.{◌∙◌, ap, arith, count_by, map, sym}
use Rattle.std.proofs.lemmas.List.{length-map}
use Rattle.cycle_plan.specs.Graphs.{state_of}
use Rattle.session_model.specs.Histories.{accepted_below}
use Rattle.call_checks.specs.Checks.{Checks}
use Rattle.call_checks.specs.Kept.{entry_of, is_below}
use Rattle.call_checks.proofs.KeptLemmas.{below-counted, few}
use Rattle.call_checks.proofs.checks.CallChecks.accepted_below.Goals as goal

pub count_below-requires : goal.count_below-requires
count_below-requires c =
    let most = few (record { script = c.self.inside.script; history = map entry_of c.self.inside.right.items; wrong = c.self.inside.wrong }) c.self.inside.calls c.self.inside.made c.self.inside.right.items c.self.inside.changes.items (state_of c.self.inside.graph) c.self.invariant.0 in
    let size = length-map c.self.inside.right.items entry_of in
    omega (arith, most, size)

pub returns : goal.returns
returns c =
    c.count_below.ensures ∙ ap (λ rs. count_by (is_below c.args.stage) rs) c.deref.ensures.value ∙ sym (below-counted c.self.inside.script c.args.stage c.self.inside.right.items (λ place one at. (c.self.invariant.0.noted place one at).plan))
    ∙ ap (λ (p : Checks). accepted_below p.script p.history c.args.stage) c.self.view_is
