use Rattle.std.proofs.Common.{◌≡◌, ℕ, length, map, true, None, refl, sym, ◌∙◌, ap, subst}
use Rattle.client_benches.specs.Seen.{new_bench}
use Rattle.bench_rack.specs.Racks.{Racked}
use Rattle.client_seats.specs.Owners.{Owned, owner_at}
use Rattle.client_seats.specs.Seatings.{IsSeating}
use Rattle.stage_laws.specs.Known.{AreKnown}
use Rattle.client_stage.specs.Insides.{staged_by}
use Rattle.stage_laws.specs.Standing.{EnoughLinks, StandsOn}
use Rattle.client_stage.proofs.InsideLemmas.{plan-noted, whole}
use Rattle.client_stage.proofs.OpeningLemmas.{all-the-same, stands-new}
use Rattle.client_stage.proofs.stage.Stage.new.Goals as goal

pub invariant_of-result : goal.invariant_of-result
invariant_of-result g c =
    whole record { parts = record { rack = c.in_ok-rack.rack; owners = c.in_ok-owners.owners; wiring = c.in_ok-wiring.wiring; earlier = c.in_ok-earlier.earlier; last = c.in_ok-last.last; room = c.args.period; period = 0; number = c.number.result; is_staffed = true }; ensemble = c.in_ok-ensemble.ensemble; silence = c.in_ok-silence.silence; plan = c.note.result }
    c.args.opening.now c.note.ensures stands c.number.ensures.value c.in_ok-last.ensures.1 c.in_ok-wiring.ensures.1 c.in_ok-silence.ensures
  where
    rack : c.in_ok-rack.rack.benches ≡ map (λ kind. new_bench kind c.args.period) c.args.kinds.now
    rack = ap (λ (r : Racked). r.benches) c.in_ok-rack.ensures

    nobody : (p : ℕ) → owner_at c.in_ok-owners.owners p ≡ None
    nobody p = ap (λ (o : Owned). owner_at o p) c.in_ok-owners.ensures.owned ∙ all-the-same None (length c.args.kinds.now) p

    known : AreKnown c.args.opening.now c.in_ok-rack.rack c.in_ok-owners.owners
    known = c.nobody_is_known_at_first.ensures c.args.opening.now c.in_ok-rack.rack c.in_ok-owners.owners nobody (ap (λ (o : Owned). o.past) c.in_ok-owners.ensures.owned)

    seating : IsSeating c.in_ok-rack.rack c.in_ok-owners.owners
    seating = subst (λ r. IsSeating r c.in_ok-owners.owners) (sym c.in_ok-rack.ensures) (c.in_ok-owners.ensures.seating c.args.kinds.now c.args.period c.most_links.result refl)

    links : EnoughLinks c.in_ok-ensemble.ensemble.nodes c.in_ok-rack.rack.links
    links = subst (λ n. EnoughLinks n c.in_ok-rack.rack.links) (sym c.in_ok-ensemble.ensures.0) (subst (EnoughLinks c.min-crew.result) (sym (ap (λ (r : Racked). r.links) c.in_ok-rack.ensures)) c.most_links.ensures)

    stands : StandsOn (staged_by {G = g.row.G.Denot} record { rack = c.in_ok-rack.rack; owners = c.in_ok-owners.owners; wiring = c.in_ok-wiring.wiring; earlier = c.in_ok-earlier.earlier; last = c.in_ok-last.last; room = c.args.period; period = 0; number = c.number.result; is_staffed = true } c.in_ok-ensemble.ensemble.nodes c.args.opening.now.nodes) c.args.opening.now
    stands = stands-new c.args.opening.now c.number.ensures.planned c.requires.opening (staged_by {G = g.row.G.Denot} record { rack = c.in_ok-rack.rack; owners = c.in_ok-owners.owners; wiring = c.in_ok-wiring.wiring; earlier = c.in_ok-earlier.earlier; last = c.in_ok-last.last; room = c.args.period; period = 0; number = c.number.result; is_staffed = true } c.in_ok-ensemble.ensemble.nodes c.args.opening.now.nodes) c.args.kinds.now c.args.period rack seating known c.in_ok-wiring.ensures.0 refl refl c.requires.period
        (c.in_ok-ensemble.ensures.0 ∙ c.min-crew.ensures) links refl

pub returns-clause-stands : goal.returns-clause-stands
returns-clause-stands g c = subst (λ p. StandsOn (staged_by {G = g.row.G.Denot} record { rack = c.in_ok-rack.rack; owners = c.in_ok-owners.owners; wiring = c.in_ok-wiring.wiring; earlier = c.in_ok-earlier.earlier; last = c.in_ok-last.last; room = c.args.period; period = 0; number = c.number.result; is_staffed = true } c.in_ok-ensemble.ensemble.nodes p.nodes) p) (sym (plan-noted c.note.result.items c.args.opening.now c.note.ensures)) stands
  where
    rack : c.in_ok-rack.rack.benches ≡ map (λ kind. new_bench kind c.args.period) c.args.kinds.now
    rack = ap (λ (r : Racked). r.benches) c.in_ok-rack.ensures

    nobody : (p : ℕ) → owner_at c.in_ok-owners.owners p ≡ None
    nobody p = ap (λ (o : Owned). owner_at o p) c.in_ok-owners.ensures.owned ∙ all-the-same None (length c.args.kinds.now) p

    known : AreKnown c.args.opening.now c.in_ok-rack.rack c.in_ok-owners.owners
    known = c.nobody_is_known_at_first.ensures c.args.opening.now c.in_ok-rack.rack c.in_ok-owners.owners nobody (ap (λ (o : Owned). o.past) c.in_ok-owners.ensures.owned)

    seating : IsSeating c.in_ok-rack.rack c.in_ok-owners.owners
    seating = subst (λ r. IsSeating r c.in_ok-owners.owners) (sym c.in_ok-rack.ensures) (c.in_ok-owners.ensures.seating c.args.kinds.now c.args.period c.most_links.result refl)

    links : EnoughLinks c.in_ok-ensemble.ensemble.nodes c.in_ok-rack.rack.links
    links = subst (λ n. EnoughLinks n c.in_ok-rack.rack.links) (sym c.in_ok-ensemble.ensures.0) (subst (EnoughLinks c.min-crew.result) (sym (ap (λ (r : Racked). r.links) c.in_ok-rack.ensures)) c.most_links.ensures)

    stands : StandsOn (staged_by {G = g.row.G.Denot} record { rack = c.in_ok-rack.rack; owners = c.in_ok-owners.owners; wiring = c.in_ok-wiring.wiring; earlier = c.in_ok-earlier.earlier; last = c.in_ok-last.last; room = c.args.period; period = 0; number = c.number.result; is_staffed = true } c.in_ok-ensemble.ensemble.nodes c.args.opening.now.nodes) c.args.opening.now
    stands = stands-new c.args.opening.now c.number.ensures.planned c.requires.opening (staged_by {G = g.row.G.Denot} record { rack = c.in_ok-rack.rack; owners = c.in_ok-owners.owners; wiring = c.in_ok-wiring.wiring; earlier = c.in_ok-earlier.earlier; last = c.in_ok-last.last; room = c.args.period; period = 0; number = c.number.result; is_staffed = true } c.in_ok-ensemble.ensemble.nodes c.args.opening.now.nodes) c.args.kinds.now c.args.period rack seating known c.in_ok-wiring.ensures.0 refl refl c.requires.period
        (c.in_ok-ensemble.ensures.0 ∙ c.min-crew.ensures) links refl
