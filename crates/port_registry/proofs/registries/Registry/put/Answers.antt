use Rattle.std.proofs.Common.{◌≡◌, ◌++◌, ◌∷◌, [], position, find, slice_get, Some, refl, sym, ◌∙◌, ap, arith}
use Rattle.session_laws.specs.jack_types.specs.Names.{client_part}
use Rattle.session_laws.specs.jack_types.specs.declared.ports.Client.{Client}
use Rattle.session_laws.specs.jack_types.specs.declared.ports.Port.{Port}
use Rattle.port_registry.specs.Registered.{has_name, client_by, client_port}
use Rattle.port_registry.proofs.AfterLemmas.{registered-port}
use Rattle.port_registry.proofs.PlaceLemmas.{some_same, position-at, position-find}
use Rattle.port_registry.proofs.StepLemmas.{list_there, room_to_list, IsKept-registered, same_held}
use Rattle.port_registry.proofs.registries.Registry.put.Goals as goal

pub push-requires : goal.push-requires
push-requires c =
    let at : position (has_name (client_part c.args.name.now)) c.self.inside.clients.items ≡ Some c.args.place = rw (← c.self.view_is) at c.requires.place in
    let w = position-at (has_name (client_part c.args.name.now)) c.self.inside.clients.items c.args.place c.index-client.result.now at in
    let there : slice_get c.self.inside.clients.items c.args.place ≡ Some c.index-client.result.now = w.0 ∙ ap Some (sym c.index-client.ensures) in
    let list : slice_get c.self.inside.lists.items c.args.place ≡ Some c.index_mut.result.now = list_there _ _ _ _ _ _ c.self.invariant c.args.place _ c.index_mut.result.now there ∙ ap Some (sym c.index_mut.ensures.value) in
    (omega arith, room_to_list _ _ _ _ _ _ c.self.invariant c.args.name.now c.args.place c.index-client.result.now c.index_mut.result.now at there list c.args.way c.args.kind c.args.birth (rw (← c.self.view_is) at c.requires.granted))

pub invariant_of-self : goal.invariant_of-self
invariant_of-self c =
    let at : position (has_name (client_part c.args.name.now)) c.self.inside.clients.items ≡ Some c.args.place = rw (← c.self.view_is) at c.requires.place in
    let w = position-at (has_name (client_part c.args.name.now)) c.self.inside.clients.items c.args.place c.index-client.result.now at in
    let there : slice_get c.self.inside.clients.items c.args.place ≡ Some c.index-client.result.now = w.0 ∙ ap Some (sym c.index-client.ensures) in
    let list : slice_get c.self.inside.lists.items c.args.place ≡ Some c.index_mut.result.now = list_there _ _ _ _ _ _ c.self.invariant c.args.place _ c.index_mut.result.now there ∙ ap Some (sym c.index_mut.ensures.value) in
    let ports : c.add.new.self.ports ≡ c.self.inside.table.ports ++ client_port c.in-Ok.id c.args.name.now c.args.way c.args.kind c.args.birth c.index-client.result.now ∷ []
    = c.in-Ok.ensures.added ∙ ap (λ (q : Port). c.self.inside.table.ports ++ q ∷ []) (registered-port c.in-Ok.id c.args.name.now c.args.way c.args.kind c.args.birth c.index-client.result.now c.of.result c.of.ensures) in
    IsKept-registered _ _ _ _ _ _ c.self.invariant c.args.name.now c.args.place c.index-client.result.now c.index_mut.result.now at there list c.args.way c.args.kind c.args.birth (rw (← c.self.view_is) at c.requires.granted)
    c.requires.other c.in-Ok.id.0 _ _ c.push.new.self _ _ ports c.in-Ok.ensures.apart c.in-Ok.ensures.below refl c.push.ensures.items (omega arith) (omega (arith, c.in-Ok.ensures.room))

pub returns-in-Ok-clause-put : goal.returns-in-Ok-clause-put
returns-in-Ok-clause-put c = λ client h.
    let at : position (has_name (client_part c.args.name.now)) c.self.inside.clients.items ≡ Some c.args.place = rw (← c.self.view_is) at c.requires.place in
    let w = position-at (has_name (client_part c.args.name.now)) c.self.inside.clients.items c.args.place c.index-client.result.now at in
    let there : slice_get c.self.inside.clients.items c.args.place ≡ Some c.index-client.result.now = w.0 ∙ ap Some (sym c.index-client.ensures) in
    let list : slice_get c.self.inside.lists.items c.args.place ≡ Some c.index_mut.result.now = list_there _ _ _ _ _ _ c.self.invariant c.args.place _ c.index_mut.result.now there ∙ ap Some (sym c.index_mut.ensures.value) in
    let ports : c.add.new.self.ports ≡ c.self.inside.table.ports ++ client_port c.in-Ok.id c.args.name.now c.args.way c.args.kind c.args.birth c.index-client.result.now ∷ []
    = c.in-Ok.ensures.added ∙ ap (λ (q : Port). c.self.inside.table.ports ++ q ∷ []) (registered-port c.in-Ok.id c.args.name.now c.args.way c.args.kind c.args.birth c.index-client.result.now c.of.result c.of.ensures) in
    let named : find (has_name (client_part c.args.name.now)) c.self.inside.clients.items ≡ Some client = rw (← c.self.view_is) at h in
    let same : c.index-client.result.now ≡ client = some_same (sym there ∙ position-find (has_name (client_part c.args.name.now)) c.self.inside.clients.items c.args.place at ∙ named) in
    rw (← c.self.view_is) (same_held _ _ _ _ _ _ refl (ports ∙ ap (λ (x : Client). c.self.inside.table.ports ++ client_port c.in-Ok.id c.args.name.now c.args.way c.args.kind c.args.birth x ∷ []) same))

pub returns-in-Ok-clause-registered : goal.returns-in-Ok-clause-registered
returns-in-Ok-clause-registered c = (invariant_of-self c).registered
