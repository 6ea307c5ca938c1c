use Rattle.std.proofs.Common.{◌≡◌, List, ℕ, position, slice_get, get_or, Some, None, sym, ◌∙◌, ap, subst}
use Rattle.session_laws.specs.jack_types.specs.Names.{client_part}
use Rattle.port_registry.specs.Kept.{ids_in}
use Rattle.port_registry.specs.Listings.{bears_name}
use Rattle.port_registry.specs.Registered.{has_name}
use Rattle.port_registry.proofs.KeptLemmas.{its_name_is, list-at}
use Rattle.port_registry.proofs.PlaceLemmas.{position-at, position-at-some}
use Rattle.port_registry.proofs.RefusalLemmas.{port-of_none, port-not_theirs, port-by_ids}
use Rattle.port_registry.proofs.StepLemmas.{list_there}
use Rattle.port_registry.proofs.registries.Registry.port.Goals as goal

pub returns-in_err-place : goal.returns-in_err-place
returns-in_err-place c =
    let none : position (has_name (client_part c.args.name.now)) c.args.self.now.clients ≡ None = ap (λ n. position (has_name n) c.args.self.now.clients) (sym c.client.ensures) ∙ sym c.place.ensures.value ∙ c.in_err-place.was in
    c.from_residual.ensures ∙ sym (port-of_none _ c.place.ensures.registered c.args.name.now none)

pub returns-in_err-found : goal.returns-in_err-found
returns-in_err-found c =
    let p : position (has_name (client_part c.args.name.now)) c.args.self.now.clients ≡ Some c.in_ok-place.place = ap (λ n. position (has_name n) c.args.self.now.clients) (sym c.client.ensures) ∙ sym c.place.ensures.value ∙ c.in_ok-place.was in
    let at : position (has_name (client_part c.args.name.now)) c.self.inside.clients.items ≡ Some c.in_ok-place.place = rw (← c.self.view_is) at p in
    let w = position-at-some (has_name (client_part c.args.name.now)) c.self.inside.clients.items c.in_ok-place.place at in
    let list : slice_get c.self.inside.lists.items c.in_ok-place.place ≡ Some c.index.result.now = list_there _ _ _ _ _ _ c.self.invariant c.in_ok-place.place _ c.index.result.now w.1 ∙ ap Some (sym c.index.ensures) in
    let ids : c.as_slice-ids.result.now ≡ ids_in c.self.inside.table.ports w.0 = c.as_slice-ids.ensures.value ∙ list-at _ c.self.invariant.registered _ c.self.invariant.indexed c.in_ok-place.place _ w.0 list w.1 in
    let none : position (bears_name c.self.inside.table.ports c.args.name.now) (ids_in c.self.inside.table.ports w.0) ≡ None = ap (position (bears_name c.self.inside.table.ports c.args.name.now)) (sym ids) ∙ sym c.find.ensures ∙ c.in_err-found.was in
    rw (← c.self.view_is) (c.from_residual-in_err-found.ensures ∙ sym (port-not_theirs _ c.self.invariant.registered c.args.name.now w.0 (its_name_is _ c.self.invariant.registered (client_part c.args.name.now) c.in_ok-place.place w.0 at w.1) none))

pub returns : goal.returns
returns c =
    let p : position (has_name (client_part c.args.name.now)) c.args.self.now.clients ≡ Some c.in_ok-place.place = ap (λ n. position (has_name n) c.args.self.now.clients) (sym c.client.ensures) ∙ sym c.place.ensures.value ∙ c.in_ok-place.was in
    let at : position (has_name (client_part c.args.name.now)) c.self.inside.clients.items ≡ Some c.in_ok-place.place = rw (← c.self.view_is) at p in
    let w = position-at-some (has_name (client_part c.args.name.now)) c.self.inside.clients.items c.in_ok-place.place at in
    let list : slice_get c.self.inside.lists.items c.in_ok-place.place ≡ Some c.index.result.now = list_there _ _ _ _ _ _ c.self.invariant c.in_ok-place.place _ c.index.result.now w.1 ∙ ap Some (sym c.index.ensures) in
    let ids : c.as_slice-ids.result.now ≡ ids_in c.self.inside.table.ports w.0 = c.as_slice-ids.ensures.value ∙ list-at _ c.self.invariant.registered _ c.self.invariant.indexed c.in_ok-place.place _ w.0 list w.1 in
    let found : position (bears_name c.self.inside.table.ports c.args.name.now) c.as_slice-ids.result.now ≡ Some c.in_ok-found.found = sym c.find.ensures ∙ c.in_ok-found.was in
    let there = position-at (bears_name c.self.inside.table.ports c.args.name.now) c.as_slice-ids.result.now c.in_ok-found.found 0 found in
    let theirs : position (bears_name c.self.inside.table.ports c.args.name.now) (ids_in c.self.inside.table.ports w.0) ≡ Some c.in_ok-found.found = ap (position (bears_name c.self.inside.table.ports c.args.name.now)) (sym ids) ∙ found in
    rw (← c.self.view_is) (c.copied.ensures ∙ c.get.ensures ∙ port-by_ids _ c.self.invariant.registered c.args.name.now w.0 (its_name_is _ c.self.invariant.registered (client_part c.args.name.now) c.in_ok-place.place w.0 at w.1)
    c.in_ok-found.found (get_or c.as_slice-ids.result.now c.in_ok-found.found 0) theirs (subst (λ (xs : List ℕ). slice_get xs c.in_ok-found.found ≡ Some (get_or c.as_slice-ids.result.now c.in_ok-found.found 0)) ids there.0))
