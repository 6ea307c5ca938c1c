use Rattle.std.proofs.Common.{◌≡◌, ◌+◌, ◌∙◌, sym, ap, length, arith}
use Rattle.std.specs.Prelude.{count_by, is_some}
use Rattle.client_benches.specs.Seen.{room_count}
use Rattle.client_benches.specs.declared.benches.Parts.{Parts}
use Rattle.client_benches.proofs.CountLemmas.{room_count-is}
use Rattle.client_benches.proofs.benches.ClientBench.clear.Goals as goal

pub empty_places-requires : goal.empty_places-requires
empty_places-requires g c = omega (arith, c.requires.spare_links, counted)
  where
    counted : room_count c.args.self.now ≡ count_by is_some c.deref_mut.result.now
    counted = sym (ap room_count c.self.view_is) ∙ room_count-is _ c.self.inside.parts.value.rooms.items c.self.invariant.0.places ∙ sym (ap (count_by is_some) (c.deref_mut.ensures.value ∙ ap (λ (parts : Parts _). parts.rooms.items) c.deref_mut-parts.ensures.value))

pub returns-clause-spare_links : goal.returns-clause-spare_links
returns-clause-spare_links g c = (c.empty_places.ensures.spare.0 ∙ ap (λ n. length c.args.spare_links.now.items + n) (sym counted), c.empty_places.ensures.spare.1)
  where
    counted : room_count c.args.self.now ≡ count_by is_some c.deref_mut.result.now
    counted = sym (ap room_count c.self.view_is) ∙ room_count-is _ c.self.inside.parts.value.rooms.items c.self.invariant.0.places ∙ sym (ap (count_by is_some) (c.deref_mut.ensures.value ∙ ap (λ (parts : Parts _). parts.rooms.items) c.deref_mut-parts.ensures.value))
