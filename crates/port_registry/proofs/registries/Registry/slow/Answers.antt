use Rattle.std.proofs.Common.{◌≡◌, position, slice_get, Some, refl, sym, ◌∙◌, ap, arith}
use Rattle.port_registry.specs.Registered.{has_name}
use Rattle.port_registry.proofs.PlaceLemmas.{position-at}
use Rattle.port_registry.proofs.StepLemmas.{slowed-is, IsKept-slowed}
use Rattle.port_registry.proofs.registries.Registry.slow.Goals as goal

pub invariant_of-self : goal.invariant_of-self
invariant_of-self c =
    let at : position (has_name c.args.name.now) c.self.inside.clients.items ≡ Some c.args.place = rw (← c.self.view_is) at c.requires.place in
    let w = position-at (has_name c.args.name.now) c.self.inside.clients.items c.args.place c.index_mut.result.now at in
    let there : slice_get c.self.inside.clients.items c.args.place ≡ Some c.index_mut.result.now = w.0 ∙ ap Some (sym c.index_mut.ensures.value) in
    IsKept-slowed _ _ _ _ _ _ c.self.invariant c.args.name.now c.args.place c.index_mut.result.now at there c.requires.other c.args.cycles _ _ refl (omega arith)

pub returns-clause-changed : goal.returns-clause-changed
returns-clause-changed c =
    let at : position (has_name c.args.name.now) c.self.inside.clients.items ≡ Some c.args.place = rw (← c.self.view_is) at c.requires.place in
    let w = position-at (has_name c.args.name.now) c.self.inside.clients.items c.args.place c.index_mut.result.now at in
    let there : slice_get c.self.inside.clients.items c.args.place ≡ Some c.index_mut.result.now = w.0 ∙ ap Some (sym c.index_mut.ensures.value) in
    rw (← c.self.view_is) (slowed-is _ _ _ _ _ _ c.self.invariant c.args.name.now c.args.place c.index_mut.result.now at there c.requires.other c.args.cycles _ refl)

pub returns-clause-registered : goal.returns-clause-registered
returns-clause-registered c = (invariant_of-self c).registered
