use Rattle.std.proofs.Common.{◌<◌, ◌∙◌, ap, length, refl, subst, sym, take}
use Rattle.std.proofs.lemmas.List.{length-map}
use Rattle.std.proofs.lemmas.Option.{slice_get_read}
use Rattle.session_model.specs.Histories.{accepted}
use Rattle.call_checks.specs.Checks.{Checks}
use Rattle.call_checks.specs.Kept.{entry_of}
use Rattle.call_checks.proofs.checks.CallChecks.accepted_before.Goals as goal

pub returns : goal.returns
returns c =
    let inside : c.args.call < length c.self.inside.right.items = subst (λ n. c.args.call < n) (sym (ap (λ (p : Checks). length p.history) c.self.view_is) ∙ length-map c.self.inside.right.items entry_of) c.requires in
    (c.self.invariant.0.noted c.args.call c.index.result.now (slice_get_read c.self.inside.right.items (length c.self.inside.right.items) c.args.call c.index.result.now refl inside c.index.ensures)).before
    ∙ ap (λ (p : Checks). length (accepted (take c.args.call p.history))) c.self.view_is
