use Rattle.std.proofs.Common.{◌≡◌, slice_get, Some, None, option_copied, sym, ◌∙◌, ap, arith}
use Rattle.std.proofs.lemmas.Grind.{common_steps}
use Rattle.slab.specs.Slab.{get}
use Rattle.port_registry.proofs.PlaceLemmas.{copied-slice_get}
use Rattle.port_registry.proofs.TableLemmas.{place-found, place-vacant, place-past, place-other}
use Rattle.port_registry.proofs.tables.PortTable.place.Goals as goal

pub returns-in_err-place : goal.returns-in_err-place
returns-in_err-place c =
    let vacant : get c.self.inside.places c.args.id.0 ≡ None = sym c.get.ensures ∙ ap option_copied c.in_err-place.was in
    rw (← c.self.view_is) (c.from_residual.ensures ∙ sym (place-vacant _ _ c.self.invariant c.args.id vacant))

pub returns-in_err-get : goal.returns-in_err-get
returns-in_err-get c =
    let found : get c.self.inside.places c.args.id.0 ≡ Some c.in_ok-place.field-0.now = sym c.get.ensures ∙ ap option_copied c.in_ok-place.was in
    let read : slice_get c.deref.result.now c.in_ok-place.field-0.now ≡ None = sym (copied-slice_get c.get-2.result _ _ c.get-2.ensures.lookup.0 c.get-2.ensures.lookup.1) ∙ ap option_copied c.in_err-get.was in
    let past : slice_get c.self.inside.listed.items c.in_ok-place.field-0.now ≡ None = rw (← c.deref.ensures.value) read in
    rw (← c.self.view_is) (c.from_residual-in_err-get.ensures ∙ sym (place-past _ _ c.self.invariant c.args.id _ found past))

pub returns-then-eq : goal.returns-then-eq
returns-then-eq c =
    let found : get c.self.inside.places c.args.id.0 ≡ Some c.in_ok-place.field-0.now = sym c.get.ensures ∙ ap option_copied c.in_ok-place.was in
    let read : slice_get c.deref.result.now c.in_ok-place.field-0.now ≡ Some c.in_ok-get.field-0.now = sym (copied-slice_get c.get-2.result _ _ c.get-2.ensures.lookup.0 c.get-2.ensures.lookup.1) ∙ ap option_copied c.in_ok-get.was in
    let there : slice_get c.self.inside.listed.items c.in_ok-place.field-0.now ≡ Some c.in_ok-get.field-0.now = rw (← c.deref.ensures.value) read in
    let same : c.in_ok-get.field-0.now.id ≡ c.args.id = grind (arith, common_steps) in
    rw (← c.self.view_is) (sym (place-found _ _ c.self.invariant c.args.id _ _ found there same))

pub returns-else-eq : goal.returns-else-eq
returns-else-eq c =
    let found : get c.self.inside.places c.args.id.0 ≡ Some c.in_ok-place.field-0.now = sym c.get.ensures ∙ ap option_copied c.in_ok-place.was in
    let read : slice_get c.deref.result.now c.in_ok-place.field-0.now ≡ Some c.in_ok-get.field-0.now = sym (copied-slice_get c.get-2.result _ _ c.get-2.ensures.lookup.0 c.get-2.ensures.lookup.1) ∙ ap option_copied c.in_ok-get.was in
    let there : slice_get c.self.inside.listed.items c.in_ok-place.field-0.now ≡ Some c.in_ok-get.field-0.now = rw (← c.deref.ensures.value) read in
    let other : c.in_ok-get.field-0.now.id ≡ c.args.id → ⊥ = λ e. grind (arith, common_steps) in
    rw (← c.self.view_is) (sym (place-other _ _ c.self.invariant c.args.id _ _ found there other))
