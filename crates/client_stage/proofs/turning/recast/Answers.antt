use Rattle.std.proofs.Common.{◌≡◌, ℕ, ◌≤◌, length, refl, sym, ◌∙◌, ap, subst, arith}
use Rattle.std.specs.Prelude.{map}
use Rattle.std.specs.List.Sorted.{IsPermutation}
use Rattle.std.proofs.lemmas.List.{length-map}
use Rattle.std.proofs.lemmas.List.Sorted.{IsPermutation-refl}
use Rattle.port_registry.specs.Registered.{open_client}
use Rattle.client_wiring.specs.Wirings.{Wired, wired_of}
use Rattle.bench_rack.specs.Racks.{Racked}
use Rattle.client_tasks.specs.Fillings.{last_place}
use Rattle.client_seats.specs.Moves.{kinds_of}
use Rattle.client_seats.specs.Seatings.{HavePeriod, standing_at}
use Rattle.stage_laws.specs.Known.{AreKnown}
use Rattle.stage_laws.specs.Casts.{Casts, GoesOnIn}
use Rattle.stage_laws.proofs.GoingLemmas.{same-nodes}
use Rattle.client_stage.specs.Insides.{staged_by}
use Rattle.client_stage.proofs.CastLemmas.{kinds-same}
use Rattle.client_stage.proofs.TurnLemmas.{links-fit, may-go-on, moved-standings, nodes-staffed, same-changes, stands-anew, stands-on, stands-still}
use Rattle.client_stage.proofs.turning.recast.Goals as goal

pub cast_anew-requires-clause-past : goal.cast_anew-requires-clause-past
cast_anew-requires-clause-past g c =
    c.owners_stay_known.ensures.no_past c.args.plan.now c.args.parts.now.rack c.args.parts.now.owners c.requires.stands.2.planned
    (c.owners_stay_known.ensures.known c.requires.stands.0 c.args.plan.now c.args.parts.now.rack c.args.parts.now.owners c.requires.stands.2 c.requires.stands.1.stands.known)

pub cast_anew-requires-clause-links : goal.cast_anew-requires-clause-links
cast_anew-requires-clause-links g c within =
    links-fit (staged_by c.args.parts.now c.args.crew c.requires.stands.0.nodes) c.requires.stands.0 c.args.plan.now c.edges-edges.ensures.planned c.requires.stands.1
    (subst (λ n. n ≤ 512) (ap length c.edges-edges.ensures.value) c.edges-edges.ensures.few) (c.links_are_few.ensures.plans c.args.plan.now c.edges-edges.ensures.planned) within

pub go_on-requires-clause-count : goal.go_on-requires-clause-count
go_on-requires-clause-count g c =
    let last = c.requires.stands.0 in
    let goes = c.requires.stands.2 in
    let changes = same-changes last c.args.plan.now goes.front (sym c.number.ensures.value ∙ c.if-number-parts.false ∙ c.requires.stands.3) in
    let nodes = ap length (same-nodes g.G.Guest.sound last c.args.plan.now goes.planned_last goes.planned goes.base changes) in
    let within = nodes-staffed (staged_by c.args.parts.now c.args.crew last.nodes) last c.requires.stands.1 c.if-parts.true in
    omega (arith, within, nodes, ap length c.nodes.ensures.value, length-map c.args.plan.now.nodes open_client, length-map last.nodes open_client)

pub go_on-requires-clause-turns : goal.go_on-requires-clause-turns
go_on-requires-clause-turns g c n low turn e =
    let last = c.requires.stands.0 in
    let goes = c.requires.stands.2 in
    let changes = same-changes last c.args.plan.now goes.front (sym c.number.ensures.value ∙ c.if-number-parts.false ∙ c.requires.stands.3) in
    let nodes = ap length (same-nodes g.G.Guest.sound last c.args.plan.now goes.planned_last goes.planned goes.base changes) in
    may-go-on g.G.Guest.sound (staged_by c.args.parts.now c.args.crew last.nodes) last c.args.plan.now goes changes (subst (λ k. k ≤ 512) (ap length c.edges-edges.ensures.value) c.edges-edges.ensures.few) c.requires.stands.1 c.if-parts.true
    c.args.moment.now c.args.period c.requires.rate c.requires.frames c.requires.period n (omega (arith, low, nodes, ap length c.nodes.ensures.value, length-map c.args.plan.now.nodes open_client, length-map last.nodes open_client)) turn e

pub returns-then-number-parts-clause-stands : goal.returns-then-number-parts-clause-stands
returns-then-number-parts-clause-stands g c last on goes number =
    stands-anew g.G.Guest.sound (staged_by c.args.parts.now c.args.crew last.nodes) (staged_by c.cast_anew.new.parts c.args.crew c.args.plan.now.nodes) last c.args.plan.now on goes known refl c.cast_anew.ensures.same.0 refl c.cast_anew.ensures.lengths c.cast_anew.ensures.links
    c.args.moment.now c.args.period c.cast_anew.ensures.refused c.cast_anew.ensures.cast c.cast_anew.ensures.seating c.cast_anew.ensures.periods c.cast_anew.ensures.unfed c.cast_anew.ensures.wiring
  where
    known : AreKnown c.args.plan.now c.cast_anew.new.parts.rack c.cast_anew.new.parts.owners
    known = c.a_seating_keeps_owners_known.ensures c.args.plan.now c.args.parts.now.rack c.args.parts.now.owners c.cast_anew.new.parts.rack c.cast_anew.new.parts.owners goes.planned on.stands.seating
        (c.owners_stay_known.ensures.known last c.args.plan.now c.args.parts.now.rack c.args.parts.now.owners goes on.stands.known) c.cast_anew.ensures.seating c.cast_anew.ensures.seats

pub returns-then-number-parts-clause-cast : goal.returns-then-number-parts-clause-cast
returns-then-number-parts-clause-cast g c last on goes number staffed =
    c.a_cast_is_the_stages.ensures g.G.Guest.sound (staged_by c.args.parts.now c.args.crew last.nodes) (staged_by c.cast_anew.new.parts c.args.crew c.args.plan.now.nodes) last c.args.plan.now c.args.moment.now c.args.period
    (c.cast_anew.ensures.cast staffed) c.cast_anew.ensures.seating (subst (HavePeriod c.cast_anew.new.parts.rack) (sym c.cast_anew.ensures.same.0) c.cast_anew.ensures.periods) c.cast_anew.ensures.unfed c.cast_anew.ensures.wiring
    (c.cast_anew.ensures.last ∙ ap (λ (w : Wired). map (last_place w.given) (wired_of c.args.plan.now).joints) on.stands.wiring ∙ ap (λ (w : Wired). map (last_place (wired_of last).given) w.joints) (sym c.cast_anew.ensures.wiring))
    c.cast_anew.ensures.scores refl c.cast_anew.ensures.same.0 c.cast_anew.ensures.same.1 c.cast_anew.ensures.lengths c.cast_anew.ensures.links

pub returns-then-parts-clause-stands : goal.returns-then-parts-clause-stands
returns-then-parts-clause-stands g c last on goes number =
    stands-on g.G.Guest.sound (staged_by c.args.parts.now c.args.crew last.nodes) (staged_by c.go_on.new.parts c.args.crew c.args.plan.now.nodes) last c.args.plan.now on goes known refl room refl c.go_on.ensures.lengths c.go_on.ensures.links
    c.args.moment.now c.args.period (staffed ∙ c.if-parts.true) casts going many
  where
    changes : c.args.plan.now.changes ≡ last.changes
    changes = same-changes last c.args.plan.now goes.front (sym c.number.ensures.value ∙ c.if-number-parts.false ∙ number)

    many : length c.args.plan.now.nodes ≡ length last.nodes
    many = sym (length-map c.args.plan.now.nodes open_client) ∙ ap length (same-nodes g.G.Guest.sound last c.args.plan.now goes.planned_last goes.planned goes.base changes) ∙ length-map last.nodes open_client

    rack : c.go_on.new.parts.rack ≡ record c.args.parts.now.rack { benches = c.go_on.new.parts.rack.benches }
    rack = ap (λ l. record { benches = c.go_on.new.parts.rack.benches; links = l }) c.go_on.ensures.links

    going : GoesOnIn (staged_by c.args.parts.now c.args.crew last.nodes) last c.args.moment.now c.args.period (staged_by c.go_on.new.parts c.args.crew c.args.plan.now.nodes)
    going = record {
      told = λ n h. c.go_on.ensures.told n (omega (arith, h, many, ap length c.nodes.ensures.value));
      others = λ n h. c.go_on.ensures.others n (omega (arith, h, many, ap length c.nodes.ensures.value));
      lengths = c.go_on.ensures.lengths;
      places = c.go_on.ensures.last;
      same = ap (λ parts. staged_by parts c.args.crew c.args.plan.now.nodes) c.go_on.ensures.same ∙ ap (λ (r : Racked). record (staged_by (record c.args.parts.now { last = c.go_on.new.parts.last }) c.args.crew c.args.plan.now.nodes) { racked = r }) rack;
    }

    casts : Casts g.G.Guest.sound (staged_by c.args.parts.now c.args.crew last.nodes) last c.args.plan.now c.args.moment.now c.args.period (staged_by c.go_on.new.parts c.args.crew c.args.plan.now.nodes)
    casts = c.a_stage_goes_on_with_its_plan.ensures g.G.Guest.sound last c.args.plan.now (staged_by c.args.parts.now c.args.crew last.nodes) (staged_by c.go_on.new.parts c.args.crew c.args.plan.now.nodes) c.args.moment.now c.args.period goes.planned_last goes.planned goes.base changes
        on.stands.wiring on.stands.seating on.stands.periods on.stands.unfed on.stands.unused (on.staffed c.if-parts.true) going

    room : c.go_on.new.parts.room ≡ c.args.parts.now.room
    room = ap (λ parts. parts.room) c.go_on.ensures.same

    staffed : c.go_on.new.parts.is_staffed ≡ c.args.parts.now.is_staffed
    staffed = ap (λ parts. parts.is_staffed) c.go_on.ensures.same

    known : AreKnown c.args.plan.now c.go_on.new.parts.rack c.go_on.new.parts.owners
    known = subst (AreKnown c.args.plan.now c.go_on.new.parts.rack) (sym (ap (λ parts. parts.owners) c.go_on.ensures.same))
        (c.kinds_alone_count.ensures c.args.plan.now c.args.parts.now.rack c.args.parts.now.owners c.go_on.new.parts.rack
        (c.owners_stay_known.ensures.known last c.args.plan.now c.args.parts.now.rack c.args.parts.now.owners goes on.stands.known)
        (kinds-same c.args.parts.now.rack c.go_on.new.parts.rack c.go_on.ensures.lengths (moved-standings c.args.parts.now.rack c.go_on.new.parts.rack (length last.nodes) c.args.moment.now c.args.period going.told going.others)))

pub returns-then-parts-clause-cast : goal.returns-then-parts-clause-cast
returns-then-parts-clause-cast g c last on goes number staffed = casts
  where
    changes : c.args.plan.now.changes ≡ last.changes
    changes = same-changes last c.args.plan.now goes.front (sym c.number.ensures.value ∙ c.if-number-parts.false ∙ number)

    many : length c.args.plan.now.nodes ≡ length last.nodes
    many = sym (length-map c.args.plan.now.nodes open_client) ∙ ap length (same-nodes g.G.Guest.sound last c.args.plan.now goes.planned_last goes.planned goes.base changes) ∙ length-map last.nodes open_client

    rack : c.go_on.new.parts.rack ≡ record c.args.parts.now.rack { benches = c.go_on.new.parts.rack.benches }
    rack = ap (λ l. record { benches = c.go_on.new.parts.rack.benches; links = l }) c.go_on.ensures.links

    going : GoesOnIn (staged_by c.args.parts.now c.args.crew last.nodes) last c.args.moment.now c.args.period (staged_by c.go_on.new.parts c.args.crew c.args.plan.now.nodes)
    going = record {
      told = λ n h. c.go_on.ensures.told n (omega (arith, h, many, ap length c.nodes.ensures.value));
      others = λ n h. c.go_on.ensures.others n (omega (arith, h, many, ap length c.nodes.ensures.value));
      lengths = c.go_on.ensures.lengths;
      places = c.go_on.ensures.last;
      same = ap (λ parts. staged_by parts c.args.crew c.args.plan.now.nodes) c.go_on.ensures.same ∙ ap (λ (r : Racked). record (staged_by (record c.args.parts.now { last = c.go_on.new.parts.last }) c.args.crew c.args.plan.now.nodes) { racked = r }) rack;
    }

    casts : Casts g.G.Guest.sound (staged_by c.args.parts.now c.args.crew last.nodes) last c.args.plan.now c.args.moment.now c.args.period (staged_by c.go_on.new.parts c.args.crew c.args.plan.now.nodes)
    casts = c.a_stage_goes_on_with_its_plan.ensures g.G.Guest.sound last c.args.plan.now (staged_by c.args.parts.now c.args.crew last.nodes) (staged_by c.go_on.new.parts c.args.crew c.args.plan.now.nodes) c.args.moment.now c.args.period goes.planned_last goes.planned goes.base changes
        on.stands.wiring on.stands.seating on.stands.periods on.stands.unfed on.stands.unused (on.staffed c.if-parts.true) going

pub returns-then-parts-clause-kinds : goal.returns-then-parts-clause-kinds
returns-then-parts-clause-kinds g c = subst (IsPermutation (kinds_of c.args.parts.now.rack)) (sym (kinds-same c.args.parts.now.rack c.go_on.new.parts.rack c.go_on.ensures.lengths standings)) (IsPermutation-refl (kinds_of c.args.parts.now.rack))
  where
    standings : (p : ℕ) → standing_at c.go_on.new.parts.rack p ≡ standing_at c.args.parts.now.rack p
    standings = moved-standings c.args.parts.now.rack c.go_on.new.parts.rack (length c.nodes.result.now) c.args.moment.now c.args.period c.go_on.ensures.told c.go_on.ensures.others

pub returns-else-parts-clause-stands : goal.returns-else-parts-clause-stands
returns-else-parts-clause-stands g c last on goes number =
    let changes = same-changes last c.args.plan.now goes.front (sym c.number.ensures.value ∙ c.if-number-parts.false ∙ number) in
    stands-still g.G.Guest.sound (staged_by c.args.parts.now c.args.crew last.nodes) (staged_by c.args.parts.now c.args.crew c.args.plan.now.nodes) last c.args.plan.now on goes
    (c.owners_stay_known.ensures.known last c.args.plan.now c.args.parts.now.rack c.args.parts.now.owners goes on.stands.known) refl refl refl refl refl changes refl refl refl refl
