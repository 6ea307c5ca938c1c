-- How a stage turns to a plan.
--     few-seated      clients that each have a bench are no more than the crew
--     same-changes      a plan of the last one's number is of its content
--     stands-anew      whose benches they are where the clients were cast anew
--     stands-on      where they go on
--     stands-still      where nobody plays
--     links-fit, nodes-staffed, may-go-on      what the steps of a turn ask for
--     moved-standings      who goes on stays who it is
use Rattle.std.proofs.Common.{◌≡◌, ℕ, ◌+◌, ◌*◌, ◌^◌, ◌<◌, ◌≤◌, ◌⊎◌, inl, inr, Bool, true, false, [], length, min, take, Some, None, refl, sym, ◌∙◌, ap, subst, arith, true≢false}
use Rattle.std.proofs.Math.Nat.{le-min}
use Rattle.std.proofs.Math.Seq.{take-length}
use Rattle.std.proofs.lemmas.Bool.{cases_lt}
use Rattle.std.proofs.lemmas.List.{length-map}
use Rattle.jack_types.specs.declared.moments.Moment.{Moment}
use Rattle.session_model.specs.Kinds.{Sound}
use Rattle.client_kinds.specs.Scores.{Score}
use Rattle.graph_word.specs.Publications.{IsFront}
use Rattle.port_registry.specs.Registered.{open_client, open_clients}
use Rattle.cycle_plan.specs.Plans.{IsPlanned, Planned}
use Rattle.client_benches.specs.Seen.{MayPlay, Seen, cleared, moved_to}
use Rattle.client_benches.specs.declared.benches.Stint.{Stint}
use Rattle.client_wiring.specs.Keeping.{GoesOn}
use Rattle.client_wiring.specs.Wirings.{Wired, wired_of}
use Rattle.bench_rack.specs.Racks.{Racked, bench_at, moved}
use Rattle.client_tasks.specs.Tasks.{turn_of, widths_at}
use Rattle.client_tasks.proofs.PlanLemmas.{few-inputs, few-links, few-nodes, few-outputs}
use Rattle.client_seats.specs.Owners.{Owned}
use Rattle.client_seats.specs.Seatings.{HasBench, HavePeriod, IsIdle, IsRefused, IsSeating, standing_at}
use Rattle.stage_laws.specs.Known.{AreKnown}
use Rattle.stage_laws.specs.Casts.{Casts, GoesOnIn}
use Rattle.stage_laws.specs.Stages.{Staged}
use Rattle.stage_laws.proofs.GoingLemmas.{same-nodes, same-wiring}
use Rattle.client_stage.specs.Casting.{HasCast}
use Rattle.stage_laws.specs.Standing.{EnoughLinks, StandsBy, StandsOn}
use Rattle.client_stage.proofs.CastLemmas.{nodes-within}

pub few-seated : (plan : Planned) (rack : Racked) (owned : Owned) → IsSeating rack owned → ((n : ℕ) → n < length plan.nodes → HasBench (open_clients plan.nodes) rack owned n n) → length plan.nodes ≤ 64 → length plan.nodes ≤ min (length rack.benches) 64
few-seated plan rack owned seating has few = le-min (nodes-within plan rack owned seating has) few

pub same-changes : (last plan : Planned) → IsFront last.changes plan.changes → length plan.changes ≡ length last.changes → plan.changes ≡ last.changes
same-changes last plan front many = sym (take-length plan.changes) ∙ ap (λ n. take n plan.changes) many ∙ sym front

module _ (sounding : Score → Sound) (old new : Staged) (last plan : Planned) (on : StandsOn old last) (goes : GoesOn last plan) (known : AreKnown plan new.racked new.owned)
    (crew : new.crew ≡ old.crew) (room : new.room ≡ old.room) (nodes : new.nodes ≡ plan.nodes) (lengths : length new.racked.benches ≡ length old.racked.benches) (links : new.racked.links ≡ old.racked.links) where
  crew-new : new.crew ≡ min (length new.racked.benches) 64
  crew-new = crew ∙ on.stands.crew ∙ ap (λ n. min n 64) (sym lengths)

  links-new : EnoughLinks new.crew new.racked.links
  links-new = subst (λ n. EnoughLinks n new.racked.links) (sym crew) (subst (EnoughLinks old.crew) (sym links) on.stands.links)

  room-new : new.room ≤ 4096
  room-new = subst (λ n. n ≤ 4096) (sym room) on.stands.room

  module _ (moment : Moment) (period : ℕ) (refused : new.is_staffed ≡ false → IsIdle new.racked × IsRefused (open_clients plan.nodes) new.racked new.owned)
      (cast : new.is_staffed ≡ true → HasCast sounding old.racked old.owned new.racked new.owned plan moment period) (seating : IsSeating new.racked new.owned)
      (periods : HavePeriod new.racked old.room) (unfed : (p : ℕ) → (standing_at new.racked p).memory.fed ≡ []) (wiring : new.wiring ≡ wired_of plan) where
    unused-anew : (p : ℕ) → length plan.nodes ≤ p → (bench_at new.racked p).kept.turn ≡ None
    unused-anew p h = go new.is_staffed refl
      where
        go : (b : Bool) → new.is_staffed ≡ b → (bench_at new.racked p).kept.turn ≡ None
        go true e = sym (ap (λ (b : Seen). b.kept.turn) ((cast e).idle p h))
        go false e = sym (ap (λ (b : Seen). b.kept.turn) ((refused e).0 p))

    few-anew : new.is_staffed ≡ true → length plan.nodes ≤ new.crew
    few-anew e = subst (λ k. length plan.nodes ≤ k) (sym crew-new) (few-seated plan new.racked new.owned seating (cast e).has (cast e).joints.few_nodes)

    idle-anew : (p : ℕ) → new.crew ≤ p → cleared (bench_at new.racked p) ≡ bench_at new.racked p
    idle-anew p h = go new.is_staffed refl
      where
        go : (b : Bool) → new.is_staffed ≡ b → cleared (bench_at new.racked p) ≡ bench_at new.racked p
        go true e = let few = few-anew e in (cast e).idle p (omega (arith, few, h))
        go false e = (refused e).0 p

    pub stands-anew : StandsBy new plan
    stands-anew = record {
      planned = goes.planned;
      wiring = wiring;
      nodes = nodes;
      seating = seating;
      known = known;
      periods = subst (HavePeriod new.racked) (sym room) periods;
      unfed = unfed;
      unused = unused-anew;
      idle = idle-anew;
      crew = crew-new;
      links = links-new;
      room = room-new;
      refused = λ e. (refused e).1;
    }

  module _ (moment : Moment) (period : ℕ) (is_staffed : new.is_staffed ≡ true) (casts : Casts sounding old last plan moment period new) (going : GoesOnIn old last moment period new) (many : length plan.nodes ≡ length last.nodes) where
    few-on : length plan.nodes ≤ new.crew
    few-on = subst (λ k. length plan.nodes ≤ k) (sym crew-new) (few-seated plan new.racked new.owned casts.seating casts.has casts.joints.few_nodes)

    idle-on : (p : ℕ) → new.crew ≤ p → cleared (bench_at new.racked p) ≡ bench_at new.racked p
    idle-on p h =
        let few = few-on in
        let same : bench_at new.racked p ≡ bench_at old.racked p = going.others p (omega (arith, few, h, many)) in
        subst (λ (b : Seen). cleared b ≡ b) (sym same) (on.stands.idle p (omega (arith, h, crew)))

    pub stands-on : StandsBy new plan
    stands-on = record {
      planned = goes.planned;
      wiring = casts.wiring;
      nodes = nodes;
      seating = casts.seating;
      known = known;
      periods = casts.periods;
      unfed = casts.unfed;
      unused = casts.idle;
      idle = idle-on;
      crew = crew-new;
      links = links-new;
      room = room-new;
      refused = λ e. absurd (true≢false (sym is_staffed ∙ e));
    }

  -- the same plan again, of which not each client has a bench
  module _ (changes : plan.changes ≡ last.changes) (rack : new.racked ≡ old.racked) (owned : new.owned ≡ old.owned) (wiring : new.wiring ≡ old.wiring) (staffed : new.is_staffed ≡ old.is_staffed) where
    nodes-still : open_clients plan.nodes ≡ open_clients last.nodes
    nodes-still = same-nodes sounding last plan goes.planned_last goes.planned goes.base changes

    many-still : length plan.nodes ≡ length last.nodes
    many-still = sym (length-map plan.nodes open_client) ∙ ap length nodes-still ∙ length-map last.nodes open_client

    pub stands-still : StandsBy new plan
    stands-still = record {
      planned = goes.planned;
      wiring = wiring ∙ on.stands.wiring ∙ sym (same-wiring sounding last plan goes.planned_last goes.planned goes.base changes);
      nodes = nodes;
      seating = subst (λ r. IsSeating r new.owned) (sym rack) (subst (IsSeating old.racked) (sym owned) on.stands.seating);
      known = known;
      periods = subst (HavePeriod new.racked) (sym room) (subst (λ r. HavePeriod r old.room) (sym rack) on.stands.periods);
      unfed = λ p. ap (λ (r : Racked). (standing_at r p).memory.fed) rack ∙ on.stands.unfed p;
      unused = λ p h. ap (λ (r : Racked). (bench_at r p).kept.turn) rack ∙ on.stands.unused p (omega (arith, h, many-still));
      idle = λ p h. subst (λ (r : Racked). cleared (bench_at r p) ≡ bench_at r p) (sym rack) (on.stands.idle p (omega (arith, h, crew)));
      crew = crew-new;
      links = links-new;
      room = room-new;
      refused = λ e. subst (λ ns. IsRefused ns new.racked new.owned) (sym nodes-still) (subst (λ r. IsRefused (open_clients last.nodes) r new.owned) (sym rack) (subst (IsRefused (open_clients last.nodes) old.racked) (sym owned) (on.stands.refused (sym staffed ∙ e))));
    }

-- ---- what the steps of a turn ask for

-- the links of a plan whose clients may each have a bench have rooms
pub links-fit : (staged : Staged) (last plan : Planned) → IsPlanned plan → StandsOn staged last → length plan.network.set.edges ≤ 512 → 2 * length plan.links + length plan.nodes ≤ length plan.nodes * length plan.nodes
    → length plan.nodes ≤ length staged.racked.benches → length plan.links ≤ staged.racked.links
links-fit staged last plan planned on few_edges few within =
    on.stands.links (length plan.nodes) (length plan.links) (subst (λ k. length plan.nodes ≤ k) (sym on.stands.crew) (le-min within (few-nodes plan planned few_edges))) few (few-links plan planned few_edges)

-- the nodes of a plan whose clients each have a bench
pub nodes-staffed : (staged : Staged) (plan : Planned) → StandsOn staged plan → staged.is_staffed ≡ true → length plan.nodes ≤ length staged.racked.benches
nodes-staffed staged plan on is_staffed = nodes-within plan staged.racked staged.owned on.stands.seating (on.staffed is_staffed).has

-- a client that played may go on
pub may-go-on : (sounding : Score → Sound) (staged : Staged) (last plan : Planned) → GoesOn last plan → plan.changes ≡ last.changes → length plan.network.set.edges ≤ 512 → (on : StandsOn staged last) → staged.is_staffed ≡ true → (moment : Moment) (period : ℕ) → 8000 ≤ moment.rate
    → moment.frame + period < 2 ^ 32 → period ≤ staged.room → (n : ℕ) → n < length last.nodes → (turn : Stint) → (bench_at staged.racked n).kept.turn ≡ Some turn → MayPlay (standing_at staged.racked n) (moved_to moment period turn)
may-go-on sounding staged last plan goes changes few_edges on is_staffed moment period rate frames within n low turn e = record {
  guest = ((on.staffed is_staffed).has n low).guest;
  rate = rate;
  frames = frames;
  period = subst (λ k. period ≤ k) (sym (on.stands.periods n (omega (arith, low, nodes-staffed staged last on is_staffed)))) within;
  inputs = subst (λ (t : Stint). t.ports.inputs ≤ 16) turn_is (subst (λ (w : Wired). (widths_at w n).inputs ≤ 16) wired_is (few-inputs plan goes.planned few_edges n low_now));
  outputs = subst (λ (t : Stint). t.ports.outputs ≤ 16) turn_is (subst (λ (w : Wired). (widths_at w n).outputs ≤ 16) wired_is (few-outputs plan goes.planned few_edges n low_now));
}
  where
    some_is : {a b : Stint} → Some a ≡ Some b → a ≡ b
    some_is p = cc

    turn_is : turn_of staged.wiring last.links (on.staffed is_staffed).moment staged.period n ≡ turn
    turn_is = some_is (sym ((on.staffed is_staffed).set n low).turn ∙ e)

    wired_is : wired_of plan ≡ staged.wiring
    wired_is = same-wiring sounding last plan goes.planned_last goes.planned goes.base changes ∙ sym on.stands.wiring

    low_now : n < length plan.nodes
    low_now = let many = ap length (same-nodes sounding last plan goes.planned_last goes.planned goes.base changes) in omega (arith, low, many, length-map plan.nodes open_client, length-map last.nodes open_client)

pub moved-standings : (rack after : Racked) (count : ℕ) (moment : Moment) (period : ℕ) → ((n : ℕ) → n < count → bench_at after n ≡ moved moment period (bench_at rack n)) → ((n : ℕ) → count ≤ n → bench_at after n ≡ bench_at rack n)
    → (p : ℕ) → standing_at after p ≡ standing_at rack p
moved-standings rack after count moment period told others p = go (cases_lt p count)
  where
    go : (p < count) ⊎ (count ≤ p) → standing_at after p ≡ standing_at rack p
    go (inl h) = ap (λ (b : Seen). b.kept.standing) (told p h)
    go (inr h) = ap (λ (b : Seen). b.kept.standing) (others p h)
