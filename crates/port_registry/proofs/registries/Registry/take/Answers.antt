use Rattle.std.proofs.Common.{◌≡◌, position, filter, slice_get, get_or, Some, refl, sym, ◌∙◌, ap, arith}
use Rattle.session_laws.specs.jack_types.specs.Names.{client_part}
use Rattle.port_registry.specs.Listings.{without_id}
use Rattle.port_registry.specs.Registered.{has_name, is_named, is_of}
use Rattle.port_registry.proofs.KeptLemmas.{its_name_is}
use Rattle.port_registry.proofs.PlaceLemmas.{position-at-some}
use Rattle.port_registry.proofs.StepLemmas.{list_there, found_within, unregistered-is, IsKept-unregistered}
use Rattle.port_registry.proofs.registries.Registry.take.Goals as goal

pub remove-id-requires : goal.remove-id-requires
remove-id-requires c =
    let at : position (has_name (client_part c.args.name.now)) c.self.inside.clients.items ≡ Some c.args.place = rw (← c.self.view_is) at c.requires.place in
    let w = position-at-some (has_name (client_part c.args.name.now)) c.self.inside.clients.items c.args.place at in
    let list : slice_get c.self.inside.lists.items c.args.place ≡ Some c.index_mut.result.now = list_there _ _ _ _ _ _ c.self.invariant c.args.place _ c.index_mut.result.now w.1 ∙ ap Some (sym c.index_mut.ensures.value) in
    let of : w.0.name ≡ client_part c.args.name.now = its_name_is _ c.self.invariant.registered (client_part c.args.name.now) c.args.place w.0 at w.1 in
    let among : position (is_named c.args.name.now) (filter (is_of (client_part c.args.name.now)) c.self.inside.table.ports) ≡ Some c.args.found = rw (← c.self.view_is) at c.requires.found in
    let found : position (is_named c.args.name.now) (filter (is_of w.0.name) c.self.inside.table.ports) ≡ Some c.args.found = ap (λ n. position (is_named c.args.name.now) (filter (is_of n) c.self.inside.table.ports)) of ∙ among in
    (omega arith, found_within _ _ _ _ _ _ c.self.invariant c.args.name.now c.args.place w.0 c.index_mut.result.now at w.1 list c.args.found found)

pub invariant_of-self : goal.invariant_of-self
invariant_of-self c =
    let at : position (has_name (client_part c.args.name.now)) c.self.inside.clients.items ≡ Some c.args.place = rw (← c.self.view_is) at c.requires.place in
    let w = position-at-some (has_name (client_part c.args.name.now)) c.self.inside.clients.items c.args.place at in
    let list : slice_get c.self.inside.lists.items c.args.place ≡ Some c.index_mut.result.now = list_there _ _ _ _ _ _ c.self.invariant c.args.place _ c.index_mut.result.now w.1 ∙ ap Some (sym c.index_mut.ensures.value) in
    let of : w.0.name ≡ client_part c.args.name.now = its_name_is _ c.self.invariant.registered (client_part c.args.name.now) c.args.place w.0 at w.1 in
    let among : position (is_named c.args.name.now) (filter (is_of (client_part c.args.name.now)) c.self.inside.table.ports) ≡ Some c.args.found = rw (← c.self.view_is) at c.requires.found in
    let found : position (is_named c.args.name.now) (filter (is_of w.0.name) c.self.inside.table.ports) ≡ Some c.args.found = ap (λ n. position (is_named c.args.name.now) (filter (is_of n) c.self.inside.table.ports)) of ∙ among in
    let ports : c.remove.new.self.ports ≡ without_id c.self.inside.table.ports (record { 0 = get_or c.index_mut.result.now.items c.args.found c.remove-id.result }) = c.remove.ensures.ports ∙ ap (λ n. without_id c.self.inside.table.ports (record { 0 = n })) c.remove-id.ensures.value in
    IsKept-unregistered _ _ _ _ _ _ c.self.invariant c.args.name.now c.args.place w.0 c.index_mut.result.now at w.1 list c.args.found found c.remove-id.result _ _ c.remove-id.new.self _ _ ports refl c.remove-id.ensures.items (omega arith) (omega (arith, c.remove.ensures.room))

pub returns-clause-taken : goal.returns-clause-taken
returns-clause-taken c =
    let at : position (has_name (client_part c.args.name.now)) c.self.inside.clients.items ≡ Some c.args.place = rw (← c.self.view_is) at c.requires.place in
    let w = position-at-some (has_name (client_part c.args.name.now)) c.self.inside.clients.items c.args.place at in
    let list : slice_get c.self.inside.lists.items c.args.place ≡ Some c.index_mut.result.now = list_there _ _ _ _ _ _ c.self.invariant c.args.place _ c.index_mut.result.now w.1 ∙ ap Some (sym c.index_mut.ensures.value) in
    let of : w.0.name ≡ client_part c.args.name.now = its_name_is _ c.self.invariant.registered (client_part c.args.name.now) c.args.place w.0 at w.1 in
    let among : position (is_named c.args.name.now) (filter (is_of (client_part c.args.name.now)) c.self.inside.table.ports) ≡ Some c.args.found = rw (← c.self.view_is) at c.requires.found in
    let found : position (is_named c.args.name.now) (filter (is_of w.0.name) c.self.inside.table.ports) ≡ Some c.args.found = ap (λ n. position (is_named c.args.name.now) (filter (is_of n) c.self.inside.table.ports)) of ∙ among in
    let ports : c.remove.new.self.ports ≡ without_id c.self.inside.table.ports (record { 0 = get_or c.index_mut.result.now.items c.args.found c.remove-id.result }) = c.remove.ensures.ports ∙ ap (λ n. without_id c.self.inside.table.ports (record { 0 = n })) c.remove-id.ensures.value in
    rw (← c.self.view_is) (unregistered-is _ _ _ _ _ _ c.self.invariant c.args.name.now c.args.place w.0 c.index_mut.result.now at w.1 list c.args.found found c.remove-id.result _ ports)

pub returns-clause-registered : goal.returns-clause-registered
returns-clause-registered c = (invariant_of-self c).registered
