use Rattle.std.proofs.Common.{◌≡◌, slice_get, position, get_or, true, Some, None, sym, ◌∙◌, ap, subst}
use Rattle.port_registry.specs.Listings.{bears}
use Rattle.port_registry.proofs.PlaceLemmas.{position-at}
use Rattle.port_registry.proofs.TableLemmas.{set-ports, active-absent}
use Rattle.port_registry.proofs.tables.PortTable.set_active.Goals as goal

pub returns-in-Some-clause-ports : goal.returns-in-Some-clause-ports
returns-in-Some-clause-ports c =
    let at : position (bears c.args.id) c.self.inside.listed.items ≡ Some c.in-Some.place = rw (← c.self.view_is) at (sym c.place.ensures ∙ c.in-Some.is) in
    let w = position-at (bears c.args.id) c.self.inside.listed.items c.in-Some.place c.index_mut.result.now at in
    let found : slice_get c.self.inside.listed.items c.in-Some.place ≡ Some c.index_mut.result.now = w.0 ∙ ap Some (sym c.index_mut.ensures.value) in
    let same : bears c.args.id c.index_mut.result.now ≡ true = ap (bears c.args.id) c.index_mut.ensures.value ∙ w.1 in
    rw (← c.self.view_is) (set-ports _ _ c.self.invariant c.args.id c.in-Some.place c.index_mut.result.now found same c.args.active)

pub returns-in_default-clause-ports : goal.returns-in_default-clause-ports
returns-in_default-clause-ports c =
    let none : position (bears c.args.id) c.self.inside.listed.items ≡ None = rw (← c.self.view_is) at (sym c.place.ensures ∙ c.in_default.is) in
    rw (← c.self.view_is) (sym (active-absent _ _ c.self.invariant c.args.active c.args.id none))
