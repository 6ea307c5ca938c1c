use Rattle.std.proofs.Common.{◌≡◌, slice_get, position, find, Some, None, option_copied, sym, ◌∙◌, ap}
use Rattle.port_registry.specs.Listings.{bears}
use Rattle.port_registry.proofs.PlaceLemmas.{position-find, position-find_none, copied-slice_get}
use Rattle.port_registry.proofs.tables.PortTable.get.Goals as goal

pub returns-in_err-place : goal.returns-in_err-place
returns-in_err-place c = ap option_copied c.from_residual.ensures ∙ sym (position-find_none (bears c.args.id) c.args.self.now.ports (sym c.place.ensures ∙ c.in_err-place.was))

pub returns : goal.returns
returns c =
    let there : slice_get c.args.self.now.ports c.in_ok-place.field-0 ≡ find (bears c.args.id) c.args.self.now.ports = position-find (bears c.args.id) c.args.self.now.ports c.in_ok-place.field-0 (sym c.place.ensures ∙ c.in_ok-place.was) in
    let read : option_copied c.get.result ≡ slice_get c.deref.result.now c.in_ok-place.field-0 = copied-slice_get c.get.result _ _ c.get.ensures.lookup.0 c.get.ensures.lookup.1 in
    let whole : c.deref.result.now ≡ c.args.self.now.ports = rw (← c.self.view_is) c.deref.ensures.value in
    read ∙ ap (λ ports. slice_get ports c.in_ok-place.field-0) whole ∙ there
