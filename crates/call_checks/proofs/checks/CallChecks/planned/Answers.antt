use Rattle.std.proofs.Common.{◌≡◌, ◌<◌, ◌∙◌, Some, ap, length, refl, slice_get, subst, sym}
use Rattle.std.proofs.lemmas.List.{length-map}
use Rattle.std.proofs.lemmas.Option.{slice_get_read}
use Rattle.jack_types.specs.declared.replies.Entry.{Entry}
use Rattle.lane_calls.specs.Plans.{plan_of as plan_with}
use Rattle.session_model.specs.Histories.{plan_of}
use Rattle.call_laws.proofs.ItemLemmas.{mapped_some, some-same}
use Rattle.call_checks.specs.Checks.{Checks}
use Rattle.call_checks.specs.Kept.{entry_of}
use Rattle.call_checks.proofs.checks.CallChecks.planned.Goals as goal

pub returns : goal.returns
returns c = λ entry at.
    let inside : c.args.call < length c.self.inside.right.items = subst (λ n. c.args.call < n) (sym (ap (λ (p : Checks). length p.history) c.self.view_is) ∙ length-map c.self.inside.right.items entry_of) c.requires in
    let here : slice_get c.self.inside.right.items c.args.call ≡ Some c.index.result.now = slice_get_read c.self.inside.right.items (length c.self.inside.right.items) c.args.call c.index.result.now refl inside c.index.ensures in
    let same : entry_of c.index.result.now ≡ entry =
    some-same (entry_of c.index.result.now) entry
    (sym (mapped_some entry_of c.self.inside.right.items c.args.call c.index.result.now here) ∙ ap (λ (p : Checks). slice_get p.history c.args.call) c.self.view_is ∙ at) in
    subst (λ (p : Checks). plan_of p.script entry.call ≡ Some (plan_with c.index.result.now.planned)) c.self.view_is
    (subst (λ (e : Entry). plan_of c.self.inside.script e.call ≡ Some (plan_with c.index.result.now.planned)) same (c.self.invariant.0.noted c.args.call c.index.result.now here).plan)
