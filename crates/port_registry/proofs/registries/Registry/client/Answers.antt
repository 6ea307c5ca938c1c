use Rattle.std.proofs.Common.{◌≡◌, position, slice_get, Some, None, sym, ◌∙◌, ap, subst}
use Rattle.port_registry.specs.Registered.{Registered, has_name}
use Rattle.port_registry.proofs.PlaceLemmas.{position-at, position-find, position-find_none}
use Rattle.port_registry.proofs.registries.Registry.client.Goals as goal

pub returns-in-Some : goal.returns-in-Some
returns-in-Some c =
    let p : position (has_name c.args.name.now) c.args.self.now.clients ≡ Some c.in-Some.place = sym c.place.ensures.value ∙ c.in-Some.is in
    let at : position (has_name c.args.name.now) c.self.inside.clients.items ≡ Some c.in-Some.place = rw (← c.self.view_is) at p in
    let w = position-at (has_name c.args.name.now) c.self.inside.clients.items c.in-Some.place c.index.result.now at in
    let there : slice_get c.args.self.now.clients c.in-Some.place ≡ Some c.index.result.now = subst (λ (h : Registered). slice_get h.clients c.in-Some.place ≡ Some c.index.result.now) c.self.view_is (w.0 ∙ ap Some (sym c.index.ensures)) in
    sym there ∙ position-find (has_name c.args.name.now) c.args.self.now.clients c.in-Some.place p

pub returns-in-None : goal.returns-in-None
returns-in-None c = sym (position-find_none (has_name c.args.name.now) c.args.self.now.clients (sym c.place.ensures.value ∙ c.in-None.is))
