use Rattle.std.proofs.Common.{◌≡◌, ℕ, ◌<◌, List, Option, Some, ap, arith, get_or, length, position, sym, ◌∙◌}
use Rattle.std.proofs.lemmas.List.{get_or_default}
use Rattle.std.proofs.lemmas.List.Quantifiers.{position-Some}
use Rattle.midi_player.specs.Standings.{Standing}
use Rattle.midi_seats.specs.declared.seating.Owned.{Owned}
use Rattle.midi_seats.specs.Seating.{is_owned_by, no_owned, owner_of}
use Rattle.midi_seats.proofs.SeatLemmas.{nobodys, own-is}
use Rattle.midi_stage.specs.Sounding.{no_standing}
use Rattle.midi_stage.proofs.PartLemmas.{as-many, owned-within}
use Rattle.midi_stage.proofs.performing.log_of.Goals as goal

owner-found : (owners benches : List Owned) (birth bench : ℕ) (place : Option ℕ) → benches ≡ owners → place ≡ position (is_owned_by birth) benches → place ≡ Some bench → owner_of owners bench ≡ Some birth
owner-found owners benches birth bench place same is found =
    own-is birth (get_or owners bench no_owned).owner (position-Some (is_owned_by birth) owners bench no_owned (ap (position (is_owned_by birth)) (sym same) ∙ sym is ∙ found)).1

pub returns-in-Some-clause-owned : goal.returns-in-Some-clause-owned
returns-in-Some-clause-owned c b e =
    let found : owner_of c.args.parts.now.owners.items c.in-Some.bench ≡ Some c.args.birth = owner-found c.args.parts.now.owners.items c.deref.result.now c.args.birth c.in-Some.bench c.bench_owned.result c.deref.ensures.value c.bench_owned.ensures.place c.in-Some.is in
    let low : c.in-Some.bench < length c.args.parts.now.owners.items = owned-within c.args.parts.now.owners.items c.in-Some.bench c.args.birth found in
    let many : length c.args.parts.now.owners.items ≡ length c.args.parts.now.benches.items = as-many c.requires.0.changes c.args.parts.now c.requires.1.known in
    c.log.ensures.value
    ∙ ap (λ (s : Standing). s.log) (c.index.ensures ∙ get_or_default c.args.parts.now.benches.items c.in-Some.bench c.index.result.now no_standing (omega (arith, low, many)))
    ∙ ap (λ place. (get_or c.args.parts.now.benches.items place no_standing).log) (c.requires.1.known.apart c.in-Some.bench b c.args.birth found e)

pub returns-in-Some-clause-nobodys : goal.returns-in-Some-clause-nobodys
returns-in-Some-clause-nobodys c none =
    absurd (none c.in-Some.bench (owner-found c.args.parts.now.owners.items c.deref.result.now c.args.birth c.in-Some.bench c.bench_owned.result c.deref.ensures.value c.bench_owned.ensures.place c.in-Some.is))

pub returns-in-None-clause-owned : goal.returns-in-None-clause-owned
returns-in-None-clause-owned c b e =
    absurd (nobodys c.args.parts.now.owners.items c.args.birth (ap (position (is_owned_by c.args.birth)) (sym c.deref.ensures.value) ∙ sym c.bench_owned.ensures.place ∙ c.in-None.is) b e)
