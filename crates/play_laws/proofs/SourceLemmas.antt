-- What the wires of the clients are filled with is what the cycle settles.
--     source      of each joint of a plan's wiring
use Rattle.std.proofs.Common.{◌≡◌, ◌≢◌, ℕ, ◌<◌, Bool, true, false, cond, ◌==◌, ◌⊎◌, inl, inr, List, [], ◌∷◌, zero, suc, length, get_or, find, Option, Some, None, option_map, refl, sym, ◌∙◌, ap, subst, arith}
use Rattle.std.specs.Prelude.{ℤ, slice_index_or, if◌then◌else◌}
use Rattle.std.specs.List.{Contains}
use Rattle.std.proofs.lemmas.Bool.{eq-eqb, eqb-true}
use Rattle.std.proofs.lemmas.Bool.Decides.{eqb_tells}
use Rattle.jack_types.specs.declared.moments.Moment.{Moment}
use Rattle.session_model.specs.Benches.{Known, node_at}
use Rattle.session_model.specs.Benches.{outputs_of}
use Rattle.session_model.specs.Cycles.{Settled}
use Rattle.session_model.specs.Driving.{kept_from}
use Rattle.session_model.specs.Samples.{silence}
use Rattle.session_model.specs.Kinds.{Sound}
use Rattle.client_kinds.specs.Scores.{Score}
use Rattle.session_laws.proofs.CycleLemmas.{find-contains}
use Rattle.port_registry.proofs.RegisteredLemmas.{find_none-fresh}
use Rattle.port_registry.specs.Registered.{open_clients}
use Rattle.event_laws.specs.cycle_plan.specs.Plans.{Planned, state_of_plan}
use Rattle.event_laws.specs.client_wiring.specs.declared.joints.Given.{Given}
use Rattle.event_laws.specs.client_wiring.specs.declared.joints.Joint.{Joint}
use Rattle.event_laws.specs.client_wiring.specs.declared.joints.Origin.{Origin}
use Rattle.event_laws.specs.client_wiring.specs.declared.joints.Origin.TheVariants.{Handed, Kept, Captured}
use Rattle.event_laws.specs.client_wiring.specs.Keeping.{SetsFeedback, kept_audio}
use Rattle.event_laws.specs.client_wiring.specs.Wirings.{output_name, wired_of}
use Rattle.bench_rack.specs.Racks.{bench_at}
use Rattle.client_seats.specs.Owners.{owner_at}
use Rattle.client_tasks.specs.Fillings.{kept_at, known_by, last_from}
use Rattle.client_tasks.specs.Tasks.{widths_at}
use Rattle.driver_words.specs.Feeding.{Fed}
use Rattle.driver_words.specs.Hearings.{Heard}
use Rattle.stage_laws.specs.Casts.{Casts}
use Rattle.stage_laws.specs.Stages.{IsStaffed, Staged, bench_of}
use Rattle.play_laws.specs.Plays.{IsSettledOn}
use Rattle.play_laws.specs.Sources.{HasSource}

some_is : {X : Type 0} {a b : X} → Some a ≡ Some b → a ≡ b
some_is e = cc

pass_by : {X : Type 0} (test : X → Bool) (y x : X) (rest : Option X) (b : Bool) → test y ≡ b → (rest ≡ Some x → test x ≡ true) → cond b (Some y) rest ≡ Some x → test x ≡ true
pass_by test y x rest true t later e = subst (λ z. test z ≡ true) (some_is e) t
pass_by test y x rest false t later e = later e

find_passes : {X : Type 0} (test : X → Bool) (xs : List X) (x : X) → find test xs ≡ Some x → test x ≡ true
find_passes test [] x e = cc
find_passes test (y ∷ xs) x e = pass_by test y x (find test xs) (test y) refl (find_passes test xs x) e

-- within a list it does not matter what is read past its end
read_within : {X : Type 0} (xs : List X) (k : ℕ) (a b : X) → k < length xs → get_or xs k a ≡ get_or xs k b
read_within [] k a b h = absurd (omega (arith, h))
read_within (x ∷ xs) zero a b h = refl
read_within (x ∷ xs) (suc k) a b h = read_within xs k a b (omega (arith, h))

module _ (sounding : Score → Sound) (old : Staged) (last plan : Planned) (moment : Moment) (period : ℕ) (channels : List (List ℤ)) (logs now : Heard) (disks : Fed) (at : Settled)
    (feedback : SetsFeedback last plan) (staffed : IsStaffed old last) (wired : old.wiring ≡ wired_of last)
    (settled : IsSettledOn sounding old last plan moment period channels logs now disks at) (cast : Staged) (casts : Casts sounding old last plan moment period cast)
    (captured : (joint : Joint) (channel : ℕ) → Contains (wired_of plan).joints joint → joint.origin ≡ Captured channel → channel < length channels)
    (given_within : (given : Given) → Contains (wired_of last).given given → given.output < (widths_at (wired_of last) given.node).outputs) where
  -- the samples of a kept output, as the definitions say
  abbrev before : ℕ → ℕ → List ℤ
  before n output = kept_audio last plan old.period settled.at_last (bench_of sounding old) period n output

  is_before : (n output : ℕ) → at.before.audio (output_name at.graph (open_clients plan.nodes) n output) ≡ before n output
  is_before n output =
      ap (λ graph. at.before.audio (output_name graph (open_clients plan.nodes) n output)) settled.graph
      ∙ settled.before (output_name (state_of_plan plan) (open_clients plan.nodes) n output)
      ∙ ap (λ nodes. (kept_from old.period (state_of_plan last) (outputs_of settled.at_last nodes (bench_of sounding old)) (state_of_plan plan) period).audio (output_name (state_of_plan plan) (open_clients plan.nodes) n output)) staffed.nodes

  abbrev born : ℕ → Given → Bool
  born birth given = given.birth == birth

  -- where no output of the last plan has the birth
  none_born : (joint : Joint) (n output birth : ℕ) → Contains (wired_of plan).joints joint → joint.origin ≡ Kept n output birth
      → find (born birth) (wired_of last).given ≡ None → before n output ≡ silence period
  none_born joint n output birth m o none =
      feedback.silent joint n output birth m o (λ given c e. find_none-fresh (born birth) (wired_of last).given given none c (same given e)) old.period period settled.at_last (bench_of sounding old) settled.graph_last
    where
      same : (given : Given) → given.birth ≡ birth → born birth given ≡ true
      same given e = eq-eqb given.birth birth e

  -- and where one has it
  one_born : (joint : Joint) (n output birth : ℕ) → Contains (wired_of plan).joints joint → joint.origin ≡ Kept n output birth
      → (given : Given) → find (born birth) (wired_of last).given ≡ Some given → (old.period == period) ≡ true
      → before n output ≡ slice_index_or (bench_at cast.racked n).kept.audio given.output []
  one_born joint n output birth m o given found same_period =
      feedback.kept joint n output birth m o given inside is_birth old.period period settled.at_last (bench_of sounding old) settled.graph_last
      ∙ ap (λ c. if c then slice_index_or (bench_of sounding old given.node).audio given.output (silence settled.at_last.frames) else silence period) same_period
      ∙ read_within (bench_of sounding old given.node).audio given.output (silence settled.at_last.frames) [] (subst (λ k. given.output < k) (sym sounded) (given_within given inside))
      ∙ ap (λ audio. slice_index_or audio given.output []) (sym same_audio)
    where
      inside : Contains (wired_of last).given given
      inside = find-contains (born birth) (wired_of last).given given found

      is_birth : given.birth ≡ birth
      is_birth = eqb-true given.birth birth (find_passes (born birth) (wired_of last).given given found)

      of_client : (given.node < length last.nodes) × (n < length plan.nodes) × ((node_at (open_clients last.nodes) given.node).birth ≡ (node_at (open_clients plan.nodes) n).birth)
      of_client = feedback.client joint n output birth m o given inside is_birth

      sounded : length (bench_of sounding old given.node).audio ≡ (widths_at (wired_of last) given.node).outputs
      sounded = staffed.sounded given.node of_client.0 ∙ ap (λ wiring. (widths_at wiring given.node).outputs) wired

      owner : owner_at old.owned given.node ≡ Some (node_at (open_clients plan.nodes) n).birth
      owner = (staffed.has given.node of_client.0).owner ∙ ap (λ b. Some b) of_client.2

      same_audio : (bench_at cast.racked n).kept.audio ≡ (bench_at old.racked given.node).kept.audio
      same_audio = casts.audio n given.node of_client.1 owner

  -- the place is that of the last plan's output, or none where the period is another
  abbrev pub IsPlaceOf : Option ℕ → Origin → Type 0
  IsPlaceOf place origin = ((old.period ≡ period) → place ≡ last_from (wired_of last).given origin) × ((old.period ≢ period) → place ≡ None)

  kept_source : (joint : Joint) (n output birth : ℕ) → Contains (wired_of plan).joints joint → joint.origin ≡ Kept n output birth → (place : Option ℕ) → IsPlaceOf place (Kept n output birth)
      → before n output ≡ kept_at (bench_at cast.racked n).kept.audio (silence period) place
  kept_source joint n output birth m o place is_place = by_period (eqb_tells old.period period) (find (born birth) (wired_of last).given) refl
    where
      by_period : (((old.period == period) ≡ true) × (old.period ≡ period)) ⊎ (((old.period == period) ≡ false) × (old.period ≢ period))
          → (found : Option Given) → find (born birth) (wired_of last).given ≡ found → before n output ≡ kept_at (bench_at cast.racked n).kept.audio (silence period) place
      by_period (inl t) None e =
          none_born joint n output birth m o e
          ∙ ap (kept_at (bench_at cast.racked n).kept.audio (silence period)) (sym (is_place.0 t.1 ∙ ap (option_map (λ (one : Given). one.output)) e))
      by_period (inl t) (Some given) e =
          one_born joint n output birth m o given e t.0
          ∙ ap (kept_at (bench_at cast.racked n).kept.audio (silence period)) (sym (is_place.0 t.1 ∙ ap (option_map (λ (one : Given). one.output)) e))
      by_period (inr f) None e =
          none_born joint n output birth m o e ∙ ap (kept_at (bench_at cast.racked n).kept.audio (silence period)) (sym (is_place.1 f.1))
      by_period (inr f) (Some given) e =
          feedback.kept joint n output birth m o given (find-contains (born birth) (wired_of last).given given e) (eqb-true given.birth birth (find_passes (born birth) (wired_of last).given given e)) old.period period settled.at_last (bench_of sounding old) settled.graph_last
          ∙ ap (λ c. if c then slice_index_or (bench_of sounding old given.node).audio given.output (silence settled.at_last.frames) else silence period) f.0
          ∙ ap (kept_at (bench_at cast.racked n).kept.audio (silence period)) (sym (is_place.1 f.1))

  pub source : (joint : Joint) (origin : Origin) → Contains (wired_of plan).joints joint → joint.origin ≡ origin → (place : Option ℕ) → IsPlaceOf place origin
      → HasSource at (open_clients plan.nodes) origin (known_by cast.racked channels (silence period) place origin)
  source joint (Handed link connection) m o place is_place = tt
  source joint (Captured channel) m o place is_place = ap (λ samples. Known samples) (settled.capture channel (captured joint channel m o))
  source joint (Kept n output birth) m o place is_place = ap (λ samples. Known samples) (is_before n output ∙ kept_source joint n output birth m o place is_place)
