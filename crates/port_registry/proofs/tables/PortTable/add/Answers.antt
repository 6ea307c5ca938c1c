use Rattle.std.proofs.Common.{◌≡◌, ◌<◌, length, Some, subst, arith}
use Rattle.std.proofs.lemmas.Grind.{common_steps}
use Rattle.slab.specs.Slab.{Updates}
use Rattle.port_registry.proofs.TableLemmas.{ids-apart, IsTable-added}
use Rattle.port_registry.proofs.tables.PortTable.add.Goals as goal

pub returns-then-place-ge-PORTS-clause-apart : goal.returns-then-place-ge-PORTS-clause-apart
returns-then-place-ge-PORTS-clause-apart c = rw (← c.self.view_is) (ids-apart _ _ c.self.invariant)

pub returns-in_err-map_err-clause-apart : goal.returns-in_err-map_err-clause-apart
returns-in_err-map_err-clause-apart c = rw c.reserve.ensures.items (ids-apart _ _ c.self.invariant)

pub invariant_of-self-2 : goal.invariant_of-self-2
invariant_of-self-2 c =
    let place : c.len-place.result ≡ length c.self.inside.listed.items = grind (arith, common_steps) in
    let low : c.insert_reserved-key.result < 2064 = omega (arith, c.insert_reserved-key.ensures.key_in_range, c.insert_reserved-key.ensures.capacity, c.self.invariant.all_ids) in
    rw (c.in-Ok.ensures.items, c.reserve.ensures.items)
    (IsTable-added _ _ c.self.invariant c.insert_reserved-key.new.self _ c.insert_reserved-key.ensures.was_vacant
    (subst (λ n. Updates c.self.inside.places c.insert_reserved-key.new.self c.insert_reserved-key.result (Some n)) place c.insert_reserved-key.ensures.updates)
    low c.insert_reserved-key.ensures.len c.insert_reserved-key.ensures.capacity)

pub returns-clause-apart : goal.returns-clause-apart
returns-clause-apart c = ids-apart _ _ (invariant_of-self-2 c)
