-- A later cycle of the same plan.
--     memory-same      benches of the same standings are of the same memories
--     same-nodes, same-links, same-wiring      plans of one content are one but for ids
--     casts-on      its clients were cast
use Rattle.std.proofs.Common.{◌≡◌, ℕ, ◌<◌, ◌≤◌, ◌⊎◌, inl, inr, [], length, map, None, Some, sym, ◌∙◌, ap, ap₂, subst, arith}
use Rattle.std.specs.Prelude.{option_map}
use Rattle.std.proofs.lemmas.Bool.{cases_lt}
use Rattle.std.proofs.lemmas.List.{length-map}
use Rattle.jack_types.specs.declared.moments.Moment.{Moment}
use Rattle.session_model.specs.Activation.{link_at, place_among}
use Rattle.session_model.specs.Benches.{node_at}
use Rattle.session_model.specs.Commands.{replay}
use Rattle.session_model.specs.Kinds.{Sound}
use Rattle.client_kinds.specs.Scores.{Score}
use Rattle.port_registry.specs.Registered.{open_client, open_clients}
use Rattle.cycle_plan.specs.Plans.{IsPlanned, Planned, links_of, nodes_of, opening_of, state_of_plan}
use Rattle.client_kinds.specs.Standings.{HasGuest, Standing}
use Rattle.client_benches.specs.Seen.{Seen, has_room_at, moved_to}
use Rattle.client_wiring.specs.Wirings.{Wired, wired, wired_of}
use Rattle.bench_rack.specs.Racks.{Racked, bench_at}
use Rattle.client_tasks.specs.Fillings.{AreJoints, last_place}
use Rattle.client_tasks.specs.Tasks.{AreSet, HasRooms, IsSet}
use Rattle.client_seats.specs.Owners.{Owned, owner_at}
use Rattle.client_seats.specs.Seatings.{HasBench, HavePeriod, IsNobodys, IsSeating, memory_of, standing_at}
use Rattle.client_seats.proofs.MemoryLemmas.{found_past, memory-owned, owned_or_not}
use Rattle.client_seats.proofs.PlayLemmas.{IsSeating-played}
use Rattle.driver_laws.specs.Drivers.{Remembered}
use Rattle.stage_laws.specs.Casts.{Casts, GoesOnIn}
use Rattle.stage_laws.specs.Stages.{IsStaffed, Staged}
use Rattle.stage_laws.proofs.WholeLemmas.{same-bench-of}

pub memory-same : (rack after : Racked) (owned : Owned) → IsSeating rack owned → IsSeating after owned → ((p : ℕ) → standing_at after p ≡ standing_at rack p) → (birth : ℕ) → memory_of after owned birth ≡ memory_of rack owned birth
memory-same rack after owned s t same birth = go (owned_or_not owned.births birth)
  where
    go : ((p : ℕ) × (owner_at owned p ≡ Some birth)) ⊎ IsNobodys owned birth → memory_of after owned birth ≡ memory_of rack owned birth
    go (inl o) = memory-owned after owned t o.0 birth o.1 ∙ ap (λ (x : Standing). Some x.memory) (same o.0) ∙ sym (memory-owned rack owned s o.0 birth o.1)
    go (inr n) = ap (option_map (λ (k : Remembered). k.memory)) (found_past owned.births after.benches owned.past birth n ∙ sym (found_past owned.births rack.benches owned.past birth n))

module _ (sounding : Score → Sound) (last plan : Planned) (planned_last : IsPlanned last) (planned : IsPlanned plan) (base : plan.base ≡ last.base) (changes : plan.changes ≡ last.changes) where
  same-state : state_of_plan plan ≡ state_of_plan last
  same-state = ap₂ (λ b cs. replay (opening_of b) cs) base changes

  pub same-nodes : open_clients plan.nodes ≡ open_clients last.nodes
  same-nodes = planned.nodes ∙ ap nodes_of same-state ∙ sym planned_last.nodes

  pub same-links : plan.links ≡ last.links
  same-links = planned.links ∙ ap links_of same-state ∙ sym planned_last.links

  pub same-wiring : wired_of plan ≡ wired_of last
  same-wiring =
      ap (λ s. wired s (open_clients plan.nodes) plan.links) same-state
      ∙ ap (λ ns. wired (state_of_plan last) ns plan.links) same-nodes
      ∙ ap (λ ls. wired (state_of_plan last) (open_clients last.nodes) ls) same-links

  as-many : length plan.nodes ≡ length last.nodes
  as-many = sym (length-map plan.nodes open_client) ∙ ap length same-nodes ∙ length-map last.nodes open_client

  module _ (old new : Staged) (moment : Moment) (period : ℕ) (wiring : old.wiring ≡ wired_of last) (seating : IsSeating old.racked old.owned) (periods : HavePeriod old.racked old.room)
      (unfed : (p : ℕ) → (standing_at old.racked p).memory.fed ≡ []) (idle : (p : ℕ) → length last.nodes ≤ p → (bench_at old.racked p).kept.turn ≡ None)
      (staffed : IsStaffed old last) (goes : GoesOnIn old last moment period new) where
    standings : (p : ℕ) → standing_at new.racked p ≡ standing_at old.racked p
    standings p = go (cases_lt p (length last.nodes))
      where
        go : (p < length last.nodes) ⊎ (length last.nodes ≤ p) → standing_at new.racked p ≡ standing_at old.racked p
        go (inl h) = ap (λ (b : Seen). b.kept.standing) (goes.told p h)
        go (inr h) = ap (λ (b : Seen). b.kept.standing) (goes.others p h)

    audio : (p : ℕ) → (bench_at new.racked p).kept.audio ≡ (bench_at old.racked p).kept.audio
    audio p = go (cases_lt p (length last.nodes))
      where
        go : (p < length last.nodes) ⊎ (length last.nodes ≤ p) → (bench_at new.racked p).kept.audio ≡ (bench_at old.racked p).kept.audio
        go (inl h) = ap (λ (b : Seen). b.kept.audio) (goes.told p h)
        go (inr h) = ap (λ (b : Seen). b.kept.audio) (goes.others p h)

    rooms : (p place : ℕ) → has_room_at (bench_at new.racked p) place ≡ has_room_at (bench_at old.racked p) place
    rooms p place = go (cases_lt p (length last.nodes))
      where
        go : (p < length last.nodes) ⊎ (length last.nodes ≤ p) → has_room_at (bench_at new.racked p) place ≡ has_room_at (bench_at old.racked p) place
        go (inl h) = ap (λ (b : Seen). has_room_at b place) (goes.told p h)
        go (inr h) = ap (λ (b : Seen). has_room_at b place) (goes.others p h)

    owned : new.owned ≡ old.owned
    owned = ap (λ (s : Staged). s.owned) goes.same

    wiring-new : new.wiring ≡ old.wiring
    wiring-new = ap (λ (s : Staged). s.wiring) goes.same

    seating-new : IsSeating new.racked old.owned
    seating-new = IsSeating-played old.racked new.racked old.owned seating goes.lengths (λ p. same-bench-of (standing_at old.racked p) (standing_at new.racked p) (standings p)) (λ p none. standings p)

    has-old : (n : ℕ) → n < length plan.nodes → HasBench (open_clients plan.nodes) old.racked old.owned n n
    has-old n h = subst (λ ns. HasBench ns old.racked old.owned n n) (sym same-nodes) (staffed.has n (omega (arith, h, as-many)))

    has-new : (n : ℕ) → n < length plan.nodes → HasBench (open_clients plan.nodes) new.racked new.owned n n
    has-new n h =
        let b = has-old n h in
        subst (λ o. HasBench (open_clients plan.nodes) new.racked o n n) (sym owned) (record {
          owner = b.owner;
          kind = ap (λ (s : Standing). s.kind) (standings n) ∙ b.kind;
          guest = subst (λ (s : Standing). HasGuest s.kind s.score) (sym (standings n)) b.guest;
        })

    one-place : (n p : ℕ) → n < length plan.nodes → owner_at old.owned p ≡ Some (node_at (open_clients plan.nodes) n).birth → p ≡ n
    one-place n p h e = seating.apart p n (node_at (open_clients plan.nodes) n).birth e (has-old n h).owner

    set-new : AreSet new.wiring plan.links moment period staffed.sources (length plan.nodes) new.racked
    set-new n h =
        let low : n < length last.nodes = omega (arith, h, as-many) in
        let it : IsSet old.wiring last.links staffed.moment old.period staffed.sources n (bench_at old.racked n) = staffed.set n low in
        subst (λ (w : Wired). IsSet w plan.links moment period staffed.sources n (bench_at new.racked n)) (sym wiring-new)
        (subst (λ ls. IsSet old.wiring ls moment period staffed.sources n (bench_at new.racked n)) (sym same-links)
        (subst (λ (b : Seen). IsSet old.wiring last.links moment period staffed.sources n b) (sym (goes.told n low)) (record {
          turn = ap (λ t. option_map (moved_to moment period) t) it.turn;
          wires = it.wires;
          routes = it.routes;
        })))

    pub casts-on : (Casts sounding) old last plan moment period new
    casts-on = record {
      wiring = wiring-new ∙ wiring ∙ sym same-wiring;
      seating = subst (λ o. IsSeating new.racked o) (sym owned) seating-new;
      periods = λ p h. ap (λ (s : Standing). s.period) (standings p) ∙ periods p (omega (arith, h, goes.lengths)) ∙ sym room;
      unfed = λ p. ap (λ (s : Standing). s.memory.fed) (standings p) ∙ unfed p;
      idle = λ p h. let low : length last.nodes ≤ p = omega (arith, h, as-many) in ap (λ (b : Seen). b.kept.turn) (goes.others p low) ∙ idle p low;
      has = has-new;
      sources = staffed.sources;
      set = set-new;
      rooms = λ l h. rooms (link_at plan.links l).from (place_among plan.links l) ∙ subst (λ ls. HasRooms ls old.racked) (sym same-links) staffed.rooms l h;
      joints = subst (λ (w : Wired). AreJoints (length plan.nodes) w.joints) (sym wiring-new) (subst (λ n. AreJoints n old.wiring.joints) (sym as-many) staffed.joints);
      standings = λ n p h e. standings n ∙ ap (standing_at old.racked) (sym (one-place n p h e));
      audio = λ n p h e. audio n ∙ ap (λ q. (bench_at old.racked q).kept.audio) (sym (one-place n p h e));
      fresh = λ n h none. absurd (none n (has-old n h).owner);
      others = λ birth not_node. ap (λ o. memory_of new.racked o birth) owned ∙ memory-same old.racked new.racked old.owned seating seating-new standings birth;
      scores = ap (λ (o : Owned). o.scores) owned;
      last_is = goes.places ∙ ap (λ (w : Wired). map (last_place w.given) old.wiring.joints) wiring ∙ ap (λ (w : Wired). map (last_place (wired_of last).given) w.joints) (sym wiring-new);
      crew_stays = ap (λ (s : Staged). s.crew) goes.same;
      room_stays = room;
      period_stays = ap (λ (s : Staged). s.period) goes.same;
      lengths = goes.lengths;
      links_stay = ap (λ (s : Staged). s.racked.links) goes.same;
    }
      where
        room : new.room ≡ old.room
        room = ap (λ (s : Staged). s.room) goes.same
