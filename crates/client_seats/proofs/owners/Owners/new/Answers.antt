use Rattle.std.proofs.Common.{◌∙◌, ℕ, [], None, Some, ap, map, option_map, replicate, subst, sym}
use Rattle.bench_rack.specs.client_benches.specs.Seen.{Seen, new_bench}
use Rattle.client_seats.specs.Owners.{Owned}
use Rattle.client_seats.specs.Seatings.{IsSeating}
use Rattle.client_seats.proofs.NewLemmas.{IsSeating-new, map-empty, pool-of, same-owned}
use Rattle.client_seats.proofs.owners.Owners.new.Goals as goal

pub returns-in-Ok-fill_pool-clause-owned : goal.returns-in-Ok-fill_pool-clause-owned
returns-in-Ok-fill_pool-clause-owned g c =
    (same-owned c.in-Ok.births.items (replicate c.args.benches None) (map (λ p. g.G.Guest.score p.1) c.hand_in-handed.result.items) (map g.G.Guest.score c.args.guests.items)
    (map (option_map g.G.Guest.score) c.in-Ok-fill_pool.guests.items) (map (λ score. Some score) (map g.G.Guest.score c.args.guests.items))
    (map (λ (p : ℕ × Seen). record { birth = p.0; memory = p.1.kept.standing.memory }) c.new.result.items) []
    c.in-Ok.ensures (c.hand_in-handed.ensures ∙ ap (map g.G.Guest.score) c.as_slice.ensures.value)
    (ap (map (option_map g.G.Guest.score)) c.in-Ok-fill_pool.ensures ∙ pool-of g.G.Guest.score c.args.guests.items)
    (map-empty (λ (p : ℕ × Seen). record { birth = p.0; memory = p.1.kept.standing.memory }) c.new.result.items c.new.ensures))

pub returns-in-Ok-fill_pool-clause-seating : goal.returns-in-Ok-fill_pool-clause-seating
returns-in-Ok-fill_pool-clause-seating g c = λ kinds period links many.
    subst (λ (owned : Owned). IsSeating (record { benches = map (λ kind. new_bench kind period) kinds; links = links }) owned)
    (sym (same-owned c.in-Ok.births.items (replicate c.args.benches None) (map (λ p. g.G.Guest.score p.1) c.hand_in-handed.result.items) (map g.G.Guest.score c.args.guests.items)
    (map (option_map g.G.Guest.score) c.in-Ok-fill_pool.guests.items) (map (λ score. Some score) (map g.G.Guest.score c.args.guests.items))
    (map (λ (p : ℕ × Seen). record { birth = p.0; memory = p.1.kept.standing.memory }) c.new.result.items) []
    c.in-Ok.ensures (c.hand_in-handed.ensures ∙ ap (map g.G.Guest.score) c.as_slice.ensures.value)
    (ap (map (option_map g.G.Guest.score)) c.in-Ok-fill_pool.ensures ∙ pool-of g.G.Guest.score c.args.guests.items)
    (map-empty (λ (p : ℕ × Seen). record { birth = p.0; memory = p.1.kept.standing.memory }) c.new.result.items c.new.ensures)))
    (IsSeating-new kinds period links (map g.G.Guest.score c.args.guests.items) c.args.benches many)
