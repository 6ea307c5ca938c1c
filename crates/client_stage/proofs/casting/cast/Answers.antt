use Rattle.std.proofs.Common.{◌≡◌, ℕ, ◌<◌, List, [], length, Some, refl, sym, ◌∙◌, ap, subst, arith, map}
use Rattle.jack_types.specs.declared.ports.Client.{Client}
use Rattle.session_model.specs.Benches.{node_at}
use Rattle.session_model.specs.Kinds.{first}
use Rattle.port_registry.specs.Registered.{open_clients}
use Rattle.client_kinds.specs.Standings.{HasGuest, Standing}
use Rattle.client_benches.specs.Seen.{Remembered as Kept, Seen, cleared}
use Rattle.client_wiring.specs.Wirings.{Wired}
use Rattle.bench_rack.specs.Racks.{bench_at}
use Rattle.client_tasks.specs.Fillings.{AreJoints}
use Rattle.client_tasks.specs.Tasks.{AreSet}
use Rattle.client_seats.specs.Seatings.{AreApart, HasBench, HasNoPast, HavePeriod, IsNobodys, IsRefused, IsSeating, memory_of, standing_at}
use Rattle.client_seats.proofs.PlaceLemmas.{open_within, within_open}
use Rattle.stage_laws.proofs.GoingLemmas.{memory-same}
use Rattle.client_stage.proofs.CastLemmas.{AreApart-plan, cleared-same, fresh-seated, kinds-cast, memories-cast, nodes-within, others-seated, periods-cast, seating-same, seats-cast, standings-cleared, unfed-cast}
use Rattle.client_stage.proofs.RestLemmas.{fresh-cast}
use Rattle.client_stage.proofs.casting.cast.Goals as goal

pub seat-requires-clause-apart : goal.seat-requires-clause-apart
seat-requires-clause-apart g c = subst (λ (ns : List Client). AreApart (open_clients ns)) (sym c.nodes-nodes.ensures.value) (AreApart-plan c.args.plan.now c.nodes-nodes.ensures.planned)

pub seat-requires-clause-past : goal.seat-requires-clause-past
seat-requires-clause-past g c = subst (λ (ns : List Client). HasNoPast (open_clients ns) c.args.owners.now) (sym c.nodes-nodes.ensures.value) c.requires.past

pub returns-then-not-seat-clause-refused : goal.returns-then-not-seat-clause-refused
returns-then-not-seat-clause-refused g c is_false =
    (c.seat.ensures.idle, subst (λ (ns : List Client). IsRefused (open_clients ns) c.seat.new.rack c.seat.new.owners) c.nodes-nodes.ensures.value (c.if-not-seat.ensures.refused is_false))

pub set_tasks-requires-clause-places : goal.set_tasks-requires-clause-places
set_tasks-requires-clause-places g c = nodes-within c.args.plan.now c.seat.new.rack c.seat.new.owners c.seat.ensures.seating has
  where
    has : (n : ℕ) → n < length c.args.plan.now.nodes → HasBench (open_clients c.args.plan.now.nodes) c.seat.new.rack c.seat.new.owners n n
    has = subst (λ (ns : List Client). (n : ℕ) → n < length ns → HasBench (open_clients ns) c.seat.new.rack c.seat.new.owners n n) c.nodes-nodes.ensures.value (c.if-not-seat.ensures.seated refl)

pub set_tasks-requires-clause-links : goal.set_tasks-requires-clause-links
set_tasks-requires-clause-links g c =
    let places = set_tasks-requires-clause-places g c in
    let enough = c.requires.links (omega (arith, places, c.seat.ensures.count, c.clear_all.ensures.lengths)) in
    omega (arith, enough, c.seat.ensures.links, c.clear_all.ensures.links)

pub set_tasks-requires-clause-period : goal.set_tasks-requires-clause-period
set_tasks-requires-clause-period g c n low =
    let places = set_tasks-requires-clause-places g c in
    let is_room : (standing_at c.seat.new.rack n).period ≡ c.requires.periods.0 = c.seat.ensures.periods c.requires.periods.0 cleared_periods n (omega (arith, low, places)) in
    omega (arith, c.requires.periods.2, is_room)
  where
    cleared_periods : HavePeriod c.clear_all.new.rack c.requires.periods.0
    cleared_periods p h =
        ap (λ (s : Standing). s.period) (cleared-same c.args.rack.now c.clear_all.new.rack c.args.count c.clear_all.ensures.cleared c.clear_all.ensures.others p).0
        ∙ c.requires.periods.1 p (omega (arith, h, c.clear_all.ensures.lengths))

pub returns-clause-seating : goal.returns-clause-seating
returns-clause-seating g c = seating-same c.seat.new.rack c.set_tasks.new.rack c.seat.new.owners c.seat.ensures.seating c.set_tasks.ensures.lengths c.set_tasks.ensures.standings

pub returns-clause-cast : goal.returns-clause-cast
returns-clause-cast g c is_true = record {
  idle = λ p h. subst (λ (b : Seen). cleared b ≡ b) (sym (c.set_tasks.ensures.others p h)) (c.seat.ensures.idle p);
  has = λ n h. with_standing n (has n h);
  set = subst (λ (w : Wired). AreSet w c.args.plan.now.links c.args.moment.now c.args.period (λ i. []) (length c.args.plan.now.nodes) c.set_tasks.new.rack) c.requires.wired c.set_tasks.ensures.set;
  rooms = c.set_tasks.ensures.rooms;
  joints = subst (λ (w : Wired). AreJoints (length c.args.plan.now.nodes) w.joints) c.requires.wired c.set_tasks.ensures.joints;
  standings = λ n p h owner. c.set_tasks.ensures.standings n ∙ ap (λ (k : Kept). k.standing) (c.seat.ensures.same_bench p n (node_at (open_clients c.args.plan.now.nodes) n).birth owner (has n h).owner) ∙ same p;
  audio = λ n p h owner. c.set_tasks.ensures.audio n ∙ ap (λ (k : Kept). k.audio) (c.seat.ensures.same_bench p n (node_at (open_clients c.args.plan.now.nodes) n).birth owner (has n h).owner) ∙ same_audio p;
  fresh = λ n h none. ap (λ (s : Standing). s.memory) (c.set_tasks.ensures.standings n) ∙ begins n h none;
  others = λ birth not_node.
      memory-same c.seat.new.rack c.set_tasks.new.rack c.seat.new.owners c.seat.ensures.seating (seating-same c.seat.new.rack c.set_tasks.new.rack c.seat.new.owners c.seat.ensures.seating c.set_tasks.ensures.lengths c.set_tasks.ensures.standings) c.set_tasks.ensures.standings birth
      ∙ stays birth not_node
      ∙ memory-same c.args.rack.now c.clear_all.new.rack c.args.owners.now c.requires.seating cleared_seating same birth;
}
  where
    nodes : c.nodes-nodes.result.now ≡ c.args.plan.now.nodes
    nodes = c.nodes-nodes.ensures.value

    same : (p : ℕ) → standing_at c.clear_all.new.rack p ≡ standing_at c.args.rack.now p
    same p = (cleared-same c.args.rack.now c.clear_all.new.rack c.args.count c.clear_all.ensures.cleared c.clear_all.ensures.others p).0

    same_audio : (p : ℕ) → (bench_at c.clear_all.new.rack p).kept.audio ≡ (bench_at c.args.rack.now p).kept.audio
    same_audio p = (cleared-same c.args.rack.now c.clear_all.new.rack c.args.count c.clear_all.ensures.cleared c.clear_all.ensures.others p).1

    cleared_seating : IsSeating c.clear_all.new.rack c.args.owners.now
    cleared_seating = seating-same c.args.rack.now c.clear_all.new.rack c.args.owners.now c.requires.seating c.clear_all.ensures.lengths same

    has : (n : ℕ) → n < length c.args.plan.now.nodes → HasBench (open_clients c.args.plan.now.nodes) c.seat.new.rack c.seat.new.owners n n
    has = subst (λ (ns : List Client). (n : ℕ) → n < length ns → HasBench (open_clients ns) c.seat.new.rack c.seat.new.owners n n) nodes (c.if-not-seat.ensures.seated refl)

    with_standing : (n : ℕ) → HasBench (open_clients c.args.plan.now.nodes) c.seat.new.rack c.seat.new.owners n n → HasBench (open_clients c.args.plan.now.nodes) c.set_tasks.new.rack c.seat.new.owners n n
    with_standing n h = record {
      owner = h.owner;
      kind = ap (λ (s : Standing). s.kind) (c.set_tasks.ensures.standings n) ∙ h.kind;
      guest = subst (λ (s : Standing). HasGuest s.kind s.score) (sym (c.set_tasks.ensures.standings n)) h.guest;
    }

    begins : (n : ℕ) → n < length c.args.plan.now.nodes → IsNobodys c.args.owners.now (node_at (open_clients c.args.plan.now.nodes) n).birth → (standing_at c.seat.new.rack n).memory ≡ first (map g.G.Guest.sound c.args.owners.now.scores) (node_at (open_clients c.args.plan.now.nodes) n).kind
    begins n h none = subst (λ (ns : List Client). (node_at (open_clients ns) n).birth ≡ (node_at (open_clients c.args.plan.now.nodes) n).birth → n < length (open_clients ns) → (standing_at c.seat.new.rack n).memory ≡ first (map g.G.Guest.sound c.args.owners.now.scores) (node_at (open_clients ns) n).kind) nodes
        (λ births within. fresh-seated g.G.Guest.sound (open_clients c.nodes-nodes.result.now) c.clear_all.new.rack c.seat.new.rack c.args.owners.now c.seat.new.owners cleared_seating c.seat.ensures.seating (subst (λ (ns : List Client). HasNoPast (open_clients ns) c.args.owners.now) (sym c.nodes-nodes.ensures.value) c.requires.past)
        c.seat.ensures.kept c.seat.ensures.fresh c.seat.ensures.same_bench c.seat.ensures.owners (subst (λ (ns : List Client). AreApart (open_clients ns)) (sym c.nodes-nodes.ensures.value) (AreApart-plan c.args.plan.now c.nodes-nodes.ensures.planned)) n n within ((has n h).owner ∙ ap (λ k. Some k) (sym births)) (subst (IsNobodys c.args.owners.now) (sym births) none))
        refl (open_within c.args.plan.now.nodes n h)

    stays : (birth : ℕ) → ((n : ℕ) → n < length c.args.plan.now.nodes → (node_at (open_clients c.args.plan.now.nodes) n).birth ≡ birth → ⊥) → memory_of c.seat.new.rack c.seat.new.owners birth ≡ memory_of c.clear_all.new.rack c.args.owners.now birth
    stays birth not_node = others-seated g.G.Guest.sound (open_clients c.nodes-nodes.result.now) c.clear_all.new.rack c.seat.new.rack c.args.owners.now c.seat.new.owners cleared_seating c.seat.ensures.seating (subst (λ (ns : List Client). HasNoPast (open_clients ns) c.args.owners.now) (sym c.nodes-nodes.ensures.value) c.requires.past)
        c.seat.ensures.kept c.seat.ensures.fresh c.seat.ensures.same_bench c.seat.ensures.owners birth
        (subst (λ (ns : List Client). (n : ℕ) → n < length (open_clients ns) → (node_at (open_clients ns) n).birth ≡ birth → ⊥) (sym nodes) (λ n h e. not_node n (within_open c.args.plan.now.nodes n h) e))

-- ---- whether all have a bench or not

pub returns-then-not-seat-clause-seats : goal.returns-then-not-seat-clause-seats
returns-then-not-seat-clause-seats g c = seats-cast c.args.rack.now c.clear_all.new.rack c.seat.new.rack c.seat.new.rack c.args.owners.now c.seat.new.owners (open_clients c.nodes-nodes.result.now) c.clear_all.ensures.lengths refl (standings-cleared c.args.rack.now c.clear_all.new.rack c.args.count c.clear_all.ensures.cleared c.clear_all.ensures.others) (λ p. refl) c.args.plan.now (ap open_clients c.nodes-nodes.ensures.value) c.seat.ensures.owners c.seat.ensures.lost

pub returns-clause-seats : goal.returns-clause-seats
returns-clause-seats g c = seats-cast c.args.rack.now c.clear_all.new.rack c.seat.new.rack c.set_tasks.new.rack c.args.owners.now c.seat.new.owners (open_clients c.nodes-nodes.result.now) c.clear_all.ensures.lengths c.set_tasks.ensures.lengths (standings-cleared c.args.rack.now c.clear_all.new.rack c.args.count c.clear_all.ensures.cleared c.clear_all.ensures.others) c.set_tasks.ensures.standings c.args.plan.now (ap open_clients c.nodes-nodes.ensures.value) c.seat.ensures.owners c.seat.ensures.lost

pub returns-then-not-seat-clause-kinds : goal.returns-then-not-seat-clause-kinds
returns-then-not-seat-clause-kinds g c = kinds-cast c.args.rack.now c.clear_all.new.rack c.seat.new.rack c.seat.new.rack c.args.owners.now c.seat.new.owners (open_clients c.nodes-nodes.result.now) c.clear_all.ensures.lengths refl (standings-cleared c.args.rack.now c.clear_all.new.rack c.args.count c.clear_all.ensures.cleared c.clear_all.ensures.others) (λ p. refl) c.seat.ensures.kinds

pub returns-clause-kinds : goal.returns-clause-kinds
returns-clause-kinds g c = kinds-cast c.args.rack.now c.clear_all.new.rack c.seat.new.rack c.set_tasks.new.rack c.args.owners.now c.seat.new.owners (open_clients c.nodes-nodes.result.now) c.clear_all.ensures.lengths c.set_tasks.ensures.lengths (standings-cleared c.args.rack.now c.clear_all.new.rack c.args.count c.clear_all.ensures.cleared c.clear_all.ensures.others) c.set_tasks.ensures.standings c.seat.ensures.kinds

pub returns-then-not-seat-clause-periods : goal.returns-then-not-seat-clause-periods
returns-then-not-seat-clause-periods g c = periods-cast c.args.rack.now c.clear_all.new.rack c.seat.new.rack c.seat.new.rack c.args.owners.now c.seat.new.owners (open_clients c.nodes-nodes.result.now) c.clear_all.ensures.lengths refl (standings-cleared c.args.rack.now c.clear_all.new.rack c.args.count c.clear_all.ensures.cleared c.clear_all.ensures.others) (λ p. refl) c.seat.ensures.periods

pub returns-clause-periods : goal.returns-clause-periods
returns-clause-periods g c = periods-cast c.args.rack.now c.clear_all.new.rack c.seat.new.rack c.set_tasks.new.rack c.args.owners.now c.seat.new.owners (open_clients c.nodes-nodes.result.now) c.clear_all.ensures.lengths c.set_tasks.ensures.lengths (standings-cleared c.args.rack.now c.clear_all.new.rack c.args.count c.clear_all.ensures.cleared c.clear_all.ensures.others) c.set_tasks.ensures.standings c.seat.ensures.periods

pub returns-then-not-seat-clause-kept : goal.returns-then-not-seat-clause-kept
returns-then-not-seat-clause-kept g c = memories-cast c.args.rack.now c.clear_all.new.rack c.seat.new.rack c.seat.new.rack c.args.owners.now c.seat.new.owners (open_clients c.nodes-nodes.result.now) c.clear_all.ensures.lengths refl (standings-cleared c.args.rack.now c.clear_all.new.rack c.args.count c.clear_all.ensures.cleared c.clear_all.ensures.others) (λ p. refl) c.requires.seating c.seat.ensures.seating c.seat.ensures.kept

pub returns-clause-kept : goal.returns-clause-kept
returns-clause-kept g c = memories-cast c.args.rack.now c.clear_all.new.rack c.seat.new.rack c.set_tasks.new.rack c.args.owners.now c.seat.new.owners (open_clients c.nodes-nodes.result.now) c.clear_all.ensures.lengths c.set_tasks.ensures.lengths (standings-cleared c.args.rack.now c.clear_all.new.rack c.args.count c.clear_all.ensures.cleared c.clear_all.ensures.others) c.set_tasks.ensures.standings c.requires.seating c.seat.ensures.seating c.seat.ensures.kept

pub returns-then-not-seat-clause-unfed : goal.returns-then-not-seat-clause-unfed
returns-then-not-seat-clause-unfed g c p =
    unfed-cast g.G.Guest.sound c.args.plan.now c.nodes-nodes.result.now c.nodes-nodes.ensures.value c.args.rack.now c.clear_all.new.rack c.seat.new.rack c.args.owners.now c.seat.new.owners c.requires.seating c.seat.ensures.seating c.clear_all.ensures.lengths
    (standings-cleared c.args.rack.now c.clear_all.new.rack c.args.count c.clear_all.ensures.cleared c.clear_all.ensures.others) c.requires.past c.seat.ensures.kept c.seat.ensures.fresh c.seat.ensures.same_bench c.seat.ensures.owners c.requires.unfed p

pub returns-clause-unfed : goal.returns-clause-unfed
returns-clause-unfed g c p =
    ap (λ (s : Standing). s.memory.fed) (c.set_tasks.ensures.standings p)
    ∙ unfed-cast g.G.Guest.sound c.args.plan.now c.nodes-nodes.result.now c.nodes-nodes.ensures.value c.args.rack.now c.clear_all.new.rack c.seat.new.rack c.args.owners.now c.seat.new.owners c.requires.seating c.seat.ensures.seating c.clear_all.ensures.lengths
    (standings-cleared c.args.rack.now c.clear_all.new.rack c.args.count c.clear_all.ensures.cleared c.clear_all.ensures.others) c.requires.past c.seat.ensures.kept c.seat.ensures.fresh c.seat.ensures.same_bench c.seat.ensures.owners c.requires.unfed p

-- ---- where one has none

pub returns-then-not-seat-clause-recalls : goal.returns-then-not-seat-clause-recalls
returns-then-not-seat-clause-recalls g c is_false = record {
  kept = returns-then-not-seat-clause-kept g c;
  fresh = fresh-cast g.G.Guest.sound c.args.plan.now c.nodes-nodes.result.now c.nodes-nodes.ensures.value c.args.rack.now c.clear_all.new.rack c.seat.new.rack c.args.owners.now c.seat.new.owners c.requires.seating c.clear_all.ensures.lengths
      (standings-cleared c.args.rack.now c.clear_all.new.rack c.args.count c.clear_all.ensures.cleared c.clear_all.ensures.others) c.seat.ensures.fresh;
}
