use Rattle.std.proofs.Common.{◌≡◌, ◌+◌, slice_get, position, get_or, length, remove, true, Some, None, is_some, sym, ◌∙◌, ap, subst, arith}
use Rattle.std.proofs.lemmas.Grind.{common_steps}
use Rattle.slab.specs.Slab.{get, slab_len}
use Rattle.port_registry.specs.Listings.{bears}
use Rattle.port_registry.proofs.PlaceLemmas.{position-at}
use Rattle.port_registry.proofs.TableLemmas.{at_place, removed-ports, removed-apart, stays-there, stays-before, IsTable-removed, without-absent}
use Rattle.port_registry.proofs.tables.PortTable.remove.Goals as goal

pub remove-requires-in-Some : goal.remove-requires-in-Some
remove-requires-in-Some c =
    let at : position (bears c.args.id) c.self.inside.listed.items ≡ Some c.in-Some.place = rw (← c.self.view_is) at (sym c.place.ensures ∙ c.in-Some.is) in
    let w = position-at (bears c.args.id) c.self.inside.listed.items c.in-Some.place c.remove.result at in
    ap is_some (at_place _ _ c.self.invariant c.args.id c.in-Some.place _ w.0 w.1)

pub settle-requires-clause-there : goal.settle-requires-clause-there
settle-requires-clause-there c =
    let at : position (bears c.args.id) c.self.inside.listed.items ≡ Some c.in-Some.place = rw (← c.self.view_is) at (sym c.place.ensures ∙ c.in-Some.is) in
    let w = position-at (bears c.args.id) c.self.inside.listed.items c.in-Some.place c.remove.result at in
    rw (c.deref.ensures.value, c.remove.ensures.items) (stays-there _ _ c.self.invariant c.args.id c.in-Some.place _ w.0 w.1 c.remove-in-Some.new.self c.remove-in-Some.ensures.updates)

pub settle-requires-clause-before : goal.settle-requires-clause-before
settle-requires-clause-before c =
    let at : position (bears c.args.id) c.self.inside.listed.items ≡ Some c.in-Some.place = rw (← c.self.view_is) at (sym c.place.ensures ∙ c.in-Some.is) in
    let w = position-at (bears c.args.id) c.self.inside.listed.items c.in-Some.place c.remove.result at in
    rw (c.deref.ensures.value, c.remove.ensures.items) (stays-before _ _ c.self.invariant c.args.id c.in-Some.place _ w.0 w.1 c.remove-in-Some.new.self c.remove-in-Some.ensures.updates)

pub settle-requires-clause-apart : goal.settle-requires-clause-apart
settle-requires-clause-apart c =
    let at : position (bears c.args.id) c.self.inside.listed.items ≡ Some c.in-Some.place = rw (← c.self.view_is) at (sym c.place.ensures ∙ c.in-Some.is) in
    let w = position-at (bears c.args.id) c.self.inside.listed.items c.in-Some.place c.remove.result at in
    rw (c.deref.ensures.value, c.remove.ensures.items) (removed-apart _ _ c.self.invariant c.args.id c.in-Some.place _ w.0 w.1)

pub invariant_of-self : goal.invariant_of-self
invariant_of-self c =
    let at : position (bears c.args.id) c.self.inside.listed.items ≡ Some c.in-Some.place = rw (← c.self.view_is) at (sym c.place.ensures ∙ c.in-Some.is) in
    let w = position-at (bears c.args.id) c.self.inside.listed.items c.in-Some.place c.remove.result at in
    let items : c.deref.result.now ≡ remove c.self.inside.listed.items c.in-Some.place = c.deref.ensures.value ∙ c.remove.ensures.items in
    let len : slab_len c.settle.new.places + 1 ≡ slab_len c.self.inside.places = omega (arith, c.settle.ensures.len, c.remove-in-Some.ensures.len) in
    let fewer : length (remove c.self.inside.listed.items c.in-Some.place) + 1 ≡ length c.self.inside.listed.items = grind (arith, common_steps) in
    rw c.remove.ensures.items (IsTable-removed _ _ c.self.invariant c.args.id c.in-Some.place _ w.0 w.1 c.settle.new.places
    (rw items at c.settle.ensures.placed) len fewer (c.settle.ensures.capacity ∙ c.remove-in-Some.ensures.capacity))

pub returns-in-Some-clause-ports : goal.returns-in-Some-clause-ports
returns-in-Some-clause-ports c =
    let at : position (bears c.args.id) c.self.inside.listed.items ≡ Some c.in-Some.place = rw (← c.self.view_is) at (sym c.place.ensures ∙ c.in-Some.is) in
    let w = position-at (bears c.args.id) c.self.inside.listed.items c.in-Some.place c.remove.result at in
    rw (← c.self.view_is) (c.remove.ensures.items ∙ removed-ports _ _ c.self.invariant c.args.id c.in-Some.place _ w.0 w.1)

pub returns-in_default-clause-ports : goal.returns-in_default-clause-ports
returns-in_default-clause-ports c =
    let none : position (bears c.args.id) c.self.inside.listed.items ≡ None = rw (← c.self.view_is) at (sym c.place.ensures ∙ c.in_default.is) in
    rw (← c.self.view_is) (sym (without-absent _ _ c.self.invariant c.args.id none))
