use Rattle.std.proofs.Common.{◌≡◌, position, slice_get, fold, Some, refl, sym, ◌∙◌, ap, arith}
use Rattle.port_registry.specs.Listings.{with_number_active}
use Rattle.port_registry.specs.Registered.{has_name}
use Rattle.port_registry.proofs.PlaceLemmas.{position-at}
use Rattle.port_registry.proofs.StepLemmas.{active-is, IsKept-active, list_there}
use Rattle.port_registry.proofs.registries.Registry.set_active.Goals as goal

pub invariant_of-self : goal.invariant_of-self
invariant_of-self c =
    let at : position (has_name c.args.name.now) c.self.inside.clients.items ≡ Some c.args.place = rw (← c.self.view_is) at c.requires.place in
    let w = position-at (has_name c.args.name.now) c.self.inside.clients.items c.args.place c.index_mut.result.now at in
    let there : slice_get c.self.inside.clients.items c.args.place ≡ Some c.index_mut.result.now = w.0 ∙ ap Some (sym c.index_mut.ensures.value) in
    let list : slice_get c.self.inside.lists.items c.args.place ≡ Some c.index.result.now = list_there _ _ _ _ _ _ c.self.invariant c.args.place _ c.index.result.now there ∙ ap Some (sym c.index.ensures) in
    IsKept-active _ _ _ _ _ _ c.self.invariant c.args.name.now c.args.place c.index_mut.result.now c.index.result.now at there list c.requires.other
    c.args.active _ _ _ _ refl (c.set_all_active.ensures.ports ∙ ap (fold (with_number_active c.args.active) c.self.inside.table.ports) c.as_slice.ensures.value)
    (omega arith) (omega (arith, c.set_all_active.ensures.room))

pub returns-clause-changed : goal.returns-clause-changed
returns-clause-changed c =
    let at : position (has_name c.args.name.now) c.self.inside.clients.items ≡ Some c.args.place = rw (← c.self.view_is) at c.requires.place in
    let w = position-at (has_name c.args.name.now) c.self.inside.clients.items c.args.place c.index_mut.result.now at in
    let there : slice_get c.self.inside.clients.items c.args.place ≡ Some c.index_mut.result.now = w.0 ∙ ap Some (sym c.index_mut.ensures.value) in
    let list : slice_get c.self.inside.lists.items c.args.place ≡ Some c.index.result.now = list_there _ _ _ _ _ _ c.self.invariant c.args.place _ c.index.result.now there ∙ ap Some (sym c.index.ensures) in
    rw (← c.self.view_is) (active-is _ _ _ _ _ _ c.self.invariant c.args.name.now c.args.place c.index_mut.result.now c.index.result.now at there list c.requires.other
    c.args.active _ _ refl (c.set_all_active.ensures.ports ∙ ap (fold (with_number_active c.args.active) c.self.inside.table.ports) c.as_slice.ensures.value))

pub returns-clause-registered : goal.returns-clause-registered
returns-clause-registered c = (invariant_of-self c).registered
