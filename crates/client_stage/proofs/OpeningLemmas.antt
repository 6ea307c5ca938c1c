-- A stage on which nobody has played.
--     all-the-same      a list of one value has it everywhere
--     each-new      what is true of every new bench is true of those of a new rack
--     enough-links      half of n(n − 1) links are enough for n nodes
--     nobody-plays      an opening plan has no nodes
--     stands-new      nobody plays yet
use Rattle.std.proofs.Common.{◌≡◌, ℕ, zero, suc, ◌<◌, ◌≤◌, true, List, [], ◌∷◌, length, map, min, replicate, None, refl, sym, ◌∙◌, ap, subst, arith, true≢false}
use Rattle.std.specs.Prelude.{slice_index_or}
use Rattle.std.proofs.lemmas.List.{length-map}
use Rattle.jack_types.specs.declared.kinds.Kind.{Kind}
use Rattle.jack_types.specs.declared.kinds.Kind.TheVariants.{Pass}
use Rattle.jack_types.specs.declared.moments.TransportState.TheVariants.{Stopped}
use Rattle.session_model.specs.Activation.{no_link}
use Rattle.session_model.specs.Commands.{replay}
use Rattle.port_registry.specs.Registered.{open_client, open_clients}
use Rattle.cycle_plan.specs.Plans.{IsPlanned, Planned, nodes_of, opening_of, state_of_plan}
use Rattle.client_benches.specs.Seen.{Seen, cleared, new_bench}
use Rattle.client_wiring.specs.Wirings.{Wired, wired, wired_of}
use Rattle.bench_rack.specs.Racks.{bench_at}
use Rattle.client_tasks.specs.Fillings.{AreJoints}
use Rattle.client_seats.specs.Seatings.{IsSeating}
use Rattle.stage_laws.specs.Known.{AreKnown}
use Rattle.stage_laws.specs.Stages.{Staged}
use Rattle.stage_laws.specs.Standing.{EnoughLinks, StandsOn}
use Rattle.client_stage.proofs.CastLemmas.{first-unfed}

none_below : {n : ℕ} → n < 0 → ⊥
none_below p = omega arith

-- a list of one value has it everywhere
pub all-the-same : {X : Type 0} (x : X) (n p : ℕ) → slice_index_or (replicate n x) p x ≡ x
all-the-same x zero p = refl
all-the-same x (suc n) zero = refl
all-the-same x (suc n) (suc p) = all-the-same x n p

pub each-new : (P : Seen → Type 0) → ((kind : Kind) (period : ℕ) → P (new_bench kind period)) → (period : ℕ) (kinds : List Kind) (p : ℕ) → P (slice_index_or (map (λ kind. new_bench kind period) kinds) p (new_bench Pass 0))
each-new P holds period [] p = holds Pass 0
each-new P holds period (kind ∷ kinds) zero = holds kind period
each-new P holds period (kind ∷ kinds) (suc p) = each-new P holds period kinds p

period-new : (period : ℕ) (kinds : List Kind) (p : ℕ) → p < length kinds → (slice_index_or (map (λ kind. new_bench kind period) kinds) p (new_bench Pass 0)).kept.standing.period ≡ period
period-new period [] p h = absurd (none_below h)
period-new period (kind ∷ kinds) zero h = refl
period-new period (kind ∷ kinds) (suc p) h = period-new period kinds p (omega (arith, h))

module _ (opening : Planned) (planned : IsPlanned opening) (none : opening.changes ≡ []) where
  is-opening : state_of_plan opening ≡ opening_of opening.base
  is-opening = ap (λ changes. replay (opening_of opening.base) changes) none

  pub nobody-plays : length opening.nodes ≡ 0
  nobody-plays = sym (length-map opening.nodes open_client) ∙ ap length (planned.nodes ∙ ap nodes_of is-opening)

  no-node : {X : Type 0} (n : ℕ) → n < length opening.nodes → X
  no-node n h = absurd (none_below (subst (λ k. n < k) nobody-plays h))

  no-links : {X : Type 0} (l : ℕ) → l < length opening.links → X
  no-links l h =
      let within = planned.is_plan.upward.within l no_link h in
      no-node 0 (omega (arith, within, length-map opening.nodes open_client))

  no-joints : (wired_of opening).joints ≡ []
  no-joints = ap (λ state. (wired state (open_clients opening.nodes) opening.links).joints) is-opening

  joints-new : AreJoints (length opening.nodes) (wired_of opening).joints
  joints-new = subst (AreJoints (length opening.nodes)) (sym no-joints) (record {
    few_nodes = omega (arith, nobody-plays);
    few = omega arith;
    placed = λ i d h. absurd (none_below h);
    kept = λ i d h. absurd (none_below h);
  })

  pub stands-new : (staged : Staged) (kinds : List Kind) (period : ℕ) → staged.racked.benches ≡ map (λ kind. new_bench kind period) kinds → IsSeating staged.racked staged.owned → AreKnown opening staged.racked staged.owned
      → staged.wiring ≡ wired_of opening → staged.nodes ≡ opening.nodes → staged.room ≡ period → period ≤ 4096 → staged.crew ≡ min (length kinds) 64 → EnoughLinks staged.crew staged.racked.links → staged.is_staffed ≡ true → StandsOn staged opening
  stands-new staged kinds period benches seating known wiring nodes room few crew links is_staffed = record {
    stands = record {
      planned = planned;
      wiring = wiring;
      nodes = nodes;
      seating = seating;
      known = known;
      periods = λ p h. ap (λ bs. (slice_index_or bs p (new_bench Pass 0)).kept.standing.period) benches ∙ period-new period kinds p (subst (λ k. p < k) (ap length benches ∙ length-map kinds (λ kind. new_bench kind period)) h) ∙ sym room;
      unfed = λ p. each (λ (b : Seen). b.kept.standing.memory.fed ≡ []) (λ kind frames. first-unfed [] kind) p;
      unused = λ p h. each (λ (b : Seen). b.kept.turn ≡ None) (λ kind frames. refl) p;
      idle = λ p h. each (λ (b : Seen). cleared b ≡ b) (λ kind frames. refl) p;
      crew = crew ∙ ap (λ n. min n 64) (sym (ap length benches ∙ length-map kinds (λ kind. new_bench kind period)));
      links = links;
      room = subst (λ n. n ≤ 4096) (sym room) few;
      refused = λ e. absurd (true≢false (sym is_staffed ∙ e));
    };
    staffed = λ e. record {
      nodes = ap open_clients nodes;
      has = λ n h. no-node n h;
      moment = record { cycle = 0; state = Stopped; frame = 0; rate = 0; bbt = None };
      sources = λ i. [];
      set = λ n h. no-node n h;
      rooms = λ l h. no-links l h;
      joints = subst (λ (w : Wired). AreJoints (length opening.nodes) w.joints) (sym wiring) joints-new;
      sounded = λ n h. no-node n h;
    };
  }
    where
      each : (P : Seen → Type 0) → ((kind : Kind) (frames : ℕ) → P (new_bench kind frames)) → (p : ℕ) → P (bench_at staged.racked p)
      each P holds p = subst (λ bs. P (slice_index_or bs p (new_bench Pass 0))) (sym benches) (each-new P holds period kinds p)
