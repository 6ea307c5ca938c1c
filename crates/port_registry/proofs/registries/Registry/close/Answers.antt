use Rattle.std.proofs.Common.{◌≡◌, position, slice_get, get_or, fold, Some, sym, ◌∙◌, ap, arith}
use Rattle.port_registry.specs.Listings.{without_number}
use Rattle.port_registry.specs.Registered.{has_name}
use Rattle.port_registry.proofs.PlaceLemmas.{position-at}
use Rattle.port_registry.proofs.StepLemmas.{closed-is, IsKept-closed, list_there, room_to_free}
use Rattle.port_registry.proofs.registries.Registry.close.Goals as goal

pub push-requires : goal.push-requires
push-requires c =
    let at : position (has_name c.args.name.now) c.self.inside.clients.items ≡ Some c.args.place = rw (← c.self.view_is) at c.requires.place in
    (omega arith, room_to_free _ _ _ _ _ _ c.self.invariant c.args.name.now c.args.place at c.requires.other)

pub invariant_of-self : goal.invariant_of-self
invariant_of-self c =
    let at : position (has_name c.args.name.now) c.self.inside.clients.items ≡ Some c.args.place = rw (← c.self.view_is) at c.requires.place in
    let w = position-at (has_name c.args.name.now) c.self.inside.clients.items c.args.place c.remove-client.result at in
    let there : slice_get c.self.inside.clients.items c.args.place ≡ Some c.remove-client.result = w.0 ∙ ap Some (sym c.remove-client.ensures.value) in
    let list : slice_get c.self.inside.lists.items c.args.place ≡ Some c.remove-ids.result = list_there _ _ _ _ _ _ c.self.invariant c.args.place _ c.remove-ids.result there ∙ ap Some (sym c.remove-ids.ensures.value) in
    IsKept-closed _ _ _ _ _ _ c.self.invariant c.args.name.now c.args.place c.remove-client.result c.remove-ids.result at there list c.requires.other
    _ _ _ _ _ _ _ c.remove-client.ensures.items (c.remove_all.ensures.ports ∙ ap (fold without_number c.self.inside.table.ports) c.as_slice.ensures.value) c.remove-ids.ensures.items c.push.ensures.items
    (omega (arith, c.remove-client.ensures.capacity)) (omega (arith, c.remove-ids.ensures.capacity)) (omega (arith, c.remove_all.ensures.room))

pub returns-clause-closed : goal.returns-clause-closed
returns-clause-closed c =
    let at : position (has_name c.args.name.now) c.self.inside.clients.items ≡ Some c.args.place = rw (← c.self.view_is) at c.requires.place in
    let w = position-at (has_name c.args.name.now) c.self.inside.clients.items c.args.place c.remove-client.result at in
    let there : slice_get c.self.inside.clients.items c.args.place ≡ Some c.remove-client.result = w.0 ∙ ap Some (sym c.remove-client.ensures.value) in
    let list : slice_get c.self.inside.lists.items c.args.place ≡ Some c.remove-ids.result = list_there _ _ _ _ _ _ c.self.invariant c.args.place _ c.remove-ids.result there ∙ ap Some (sym c.remove-ids.ensures.value) in
    rw (← c.self.view_is) (closed-is _ _ _ _ _ _ c.self.invariant c.args.name.now c.args.place c.remove-client.result c.remove-ids.result at there list c.requires.other
    _ _ c.remove-client.ensures.items (c.remove_all.ensures.ports ∙ ap (fold without_number c.self.inside.table.ports) c.as_slice.ensures.value))

pub returns-clause-registered : goal.returns-clause-registered
returns-clause-registered c = (invariant_of-self c).registered
