-- A stage of MIDI clients hears its plan.
--     owner-decided      who owns a bench, if somebody does
--     quiet      other kinds play no event
--     HearsPlan-stage      where each MIDI client has its bench and played on it
use Rattle.std.proofs.Common.{◌≡◌, ℕ, zero, suc, ◌<◌, Bool, true, false, cond, ◌==◌, ◌⊎◌, inl, inr, List, [], ◌∷◌, find, filter_map, get_or, length, map, replicate, Contains, Option, Some, None, nat_lt, refl, sym, ◌∙◌, ap, ap₂, arith, eq-eqb, eqb-true, ltb-false, ltb-true}
use Rattle.std.specs.List.{cons_option}
use Rattle.std.specs.Option.{option_map}
use Rattle.std.proofs.lemmas.List.{get_or-map, length-map}
use Rattle.jack_types.specs.declared.events.Event.{Event}
use Rattle.jack_types.specs.declared.events.Logged.{Logged}
use Rattle.jack_types.specs.declared.kinds.Kind.{Kind}
use Rattle.jack_types.specs.declared.kinds.Kind.TheVariants.{Pass, Gain, Mix, Delay, Tone, Click, Meter, Tape, Guest, Midiplay, Midithru, Midilog, Disk}
use Rattle.jack_types.specs.declared.moments.Moment.{Moment}
use Rattle.session_model.specs.Benches.{node_at, place_in}
use Rattle.session_model.specs.Cycles.{player_born}
use Rattle.session_model.specs.Events.{merge}
use Rattle.session_model.specs.Kinds.{Memory, MidiPlayed, midi_play}
use Rattle.session_model.specs.State.{OpenClient, system_client}
use Rattle.session_laws.proofs.LoopLemmas.{Contains-cases, Contains-first, Contains-later}
use Rattle.port_registry.specs.Registered.{open_client, open_clients, system_entry}
use Rattle.midi_wiring.specs.cycle_plan.specs.Plans.{IsPlanned, Planned, state_of_plan}
use Rattle.midi_player.specs.Standings.{IsMidi, Standing}
use Rattle.midi_wiring.specs.declared.joints.MidiGiven.{MidiGiven}
use Rattle.midi_wiring.specs.Hearings.{AreCarried, HearsPlan, PlaysHeard, heard_by}
use Rattle.driver_words.specs.Hearings.{Carried, carried_at, listed_for, log_at, played_at}
use Rattle.midi_wiring.specs.Wirings.{midi_wired_of}
use Rattle.midi_stage.specs.declared.sounds.Output.{Output}
use Rattle.midi_stage.specs.Sounding.{Sounded, bench_born, events_at, output_on, seat_at}
use Rattle.midi_stage.specs.Stages.{IsSeating, MidiStaged, PlaysMidi, carried_by, heard_in, output_of, owner_at, standing_at}
use Rattle.midi_stage.proofs.ViewLemmas.{carried-is, heard-is, log-none, log-some, played-is}

nothing-some : {X : Type 0} (x : X) → None ≡ Some x → ⊥
nothing-some x e = cc

one : {X : Type 0} (x y : X) → Some x ≡ Some y → x ≡ y
one x y e = cc

-- other kinds play no event and remember what they did
pub quiet : (list : List (ℕ × Event)) (kind : Kind) (memory : Memory) (outputs : ℕ) (moment : Moment) (period : ℕ) (inputs : List (List Event)) → (IsMidi kind → ⊥)
    → midi_play list kind memory outputs moment period inputs ≡ (let played : MidiPlayed = record { outputs = replicate outputs []; memory = memory } in played)
quiet list (Midiplay _) memory outputs moment period inputs other = absurd (other tt)
quiet list Midithru memory outputs moment period inputs other = absurd (other tt)
quiet list Midilog memory outputs moment period inputs other = absurd (other tt)
quiet list Pass memory outputs moment period inputs other = refl
quiet list (Gain _ _) memory outputs moment period inputs other = refl
quiet list Mix memory outputs moment period inputs other = refl
quiet list (Delay _) memory outputs moment period inputs other = refl
quiet list (Tone _ _) memory outputs moment period inputs other = refl
quiet list (Click _) memory outputs moment period inputs other = refl
quiet list Meter memory outputs moment period inputs other = refl
quiet list (Tape _) memory outputs moment period inputs other = refl
quiet list (Guest _) memory outputs moment period inputs other = refl
quiet list (Disk _) memory outputs moment period inputs other = refl

-- who owns a bench, if somebody does
pub owner-decided : (owners : List (Option ℕ)) (birth : ℕ) → ((b : ℕ) × (get_or owners b None ≡ Some birth)) ⊎ ((b : ℕ) → get_or owners b None ≡ Some birth → ⊥)
owner-decided [] birth = inr (λ b e. nothing-some birth e)
owner-decided (owner ∷ owners) birth = first owner refl (owner-decided owners birth)
  where
    later : ((b : ℕ) × (get_or owners b None ≡ Some birth)) ⊎ ((b : ℕ) → get_or owners b None ≡ Some birth → ⊥) → (owner ≡ Some birth → ⊥)
        → ((b : ℕ) × (get_or (owner ∷ owners) b None ≡ Some birth)) ⊎ ((b : ℕ) → get_or (owner ∷ owners) b None ≡ Some birth → ⊥)
    later (inl w) other = inl (suc w.0, w.1)
    later (inr none) other = inr (λ b. at b)
      where
        at : (b : ℕ) → get_or (owner ∷ owners) b None ≡ Some birth → ⊥
        at zero e = other e
        at (suc b) e = none b e

    compared : (other : ℕ) → owner ≡ Some other → (t : Bool) → (other == birth) ≡ t → ((b : ℕ) × (get_or owners b None ≡ Some birth)) ⊎ ((b : ℕ) → get_or owners b None ≡ Some birth → ⊥)
        → ((b : ℕ) × (get_or (owner ∷ owners) b None ≡ Some birth)) ⊎ ((b : ℕ) → get_or (owner ∷ owners) b None ≡ Some birth → ⊥)
    compared other f true e rest = inl (0, f ∙ ap Some (eqb-true other birth e))
    compared other f false e rest = later rest (λ g. untrue (other == birth) (eq-eqb other birth (one other birth (sym f ∙ g))) e)
      where
        untrue : (b : Bool) → b ≡ true → b ≡ false → ⊥
        untrue b g h = cc

    first : (o : Option ℕ) → owner ≡ o → ((b : ℕ) × (get_or owners b None ≡ Some birth)) ⊎ ((b : ℕ) → get_or owners b None ≡ Some birth → ⊥)
        → ((b : ℕ) × (get_or (owner ∷ owners) b None ≡ Some birth)) ⊎ ((b : ℕ) → get_or (owner ∷ owners) b None ≡ Some birth → ⊥)
    first None e rest = later rest (λ f. nothing-some birth (sym e ∙ f))
    first (Some other) e rest = compared other e (other == birth) refl rest

-- ---- what a birth carries

none_below : {n : ℕ} → n < 0 → ⊥
none_below p = omega arith

module _ (sounds : Sounded) (birth : ℕ) where
  abbrev bench : Option Output → Option ℕ
  bench o = option_map (λ (x : Output). x.bench) o

  born-none : (xs : List MidiGiven) → ((given : MidiGiven) → Contains xs given → given.birth ≡ birth → seat_at sounds given.node ≡ None) → bench_born (filter_map (output_of sounds) xs) birth ≡ None
  born-none [] h = refl
  born-none (x ∷ xs) h = go (seat_at sounds x.node) refl (born-none xs (λ given m. h given (Contains-later x given xs m)))
    where
      go : (o : Option ℕ) → seat_at sounds x.node ≡ o → bench_born (filter_map (output_of sounds) xs) birth ≡ None → bench_born (cons_option (option_map (output_on x) o) (filter_map (output_of sounds) xs)) birth ≡ None
      go None e rest = rest
      go (Some b) e rest = test (x.birth == birth) refl
        where
          test : (t : Bool) → (x.birth == birth) ≡ t → bench (cond t (Some (output_on x b)) (find (λ (output : Output). output.birth == birth) (filter_map (output_of sounds) xs))) ≡ None
          test true f = absurd (nothing-some b (sym (h x (Contains-first x xs) (eqb-true x.birth birth f)) ∙ e))
          test false f = rest

  born-some : (xs : List MidiGiven) (b : ℕ) → ((given : MidiGiven) → Contains xs given → given.birth ≡ birth → seat_at sounds given.node ≡ Some b) → (its : MidiGiven) → Contains xs its → its.birth ≡ birth
      → bench_born (filter_map (output_of sounds) xs) birth ≡ Some b
  born-some [] b h its m e = absurd (none_below m.1)
  born-some (x ∷ xs) b h its m e = go (seat_at sounds x.node) refl (Contains-cases x its xs m) (λ k. born-some xs b (λ given n. h given (Contains-later x given xs n)) its k e)
    where
      go : (o : Option ℕ) → seat_at sounds x.node ≡ o → (x ≡ its) ⊎ Contains xs its → (Contains xs its → bench_born (filter_map (output_of sounds) xs) birth ≡ Some b)
          → bench_born (cons_option (option_map (output_on x) o) (filter_map (output_of sounds) xs)) birth ≡ Some b
      go None f (inl same) rest = absurd (nothing-some b (sym f ∙ h x (Contains-first x xs) (ap (λ (given : MidiGiven). given.birth) same ∙ e)))
      go None f (inr k) rest = rest k
      go (Some c) f place rest = test (x.birth == birth) refl
        where
          test : (t : Bool) → (x.birth == birth) ≡ t → bench (cond t (Some (output_on x c)) (find (λ (output : Output). output.birth == birth) (filter_map (output_of sounds) xs))) ≡ Some b
          test true g = sym f ∙ h x (Contains-first x xs) (eqb-true x.birth birth g)
          test false g = past place
            where
              past : (x ≡ its) ⊎ Contains xs its → bench (find (λ (output : Output). output.birth == birth) (filter_map (output_of sounds) xs)) ≡ Some b
              past (inl same) = absurd (untrue (x.birth == birth) (eq-eqb x.birth birth (ap (λ (given : MidiGiven). given.birth) same ∙ e)) g)
                where
                  untrue : (t : Bool) → t ≡ true → t ≡ false → ⊥
                  untrue t u v = cc
              past (inr k) = rest k

-- ---- the stage

module _ (old new : MidiStaged) (plan : Planned) (moment : Moment) (period : ℕ) (p : IsPlanned plan) (before : IsSeating old) (h : PlaysMidi old plan moment period new)
    (births : (a b : MidiGiven) → Contains (midi_wired_of plan).given a → Contains (midi_wired_of plan).given b → a.birth ≡ b.birth → a ≡ b) where
  abbrev client : ℕ → OpenClient
  client n = node_at (open_clients plan.nodes) n

  inside : (n : ℕ) → n < length plan.nodes → n < length (open_clients plan.nodes)
  inside n low = let same : length (open_clients plan.nodes) ≡ length plan.nodes = length-map plan.nodes open_client in omega (arith, low, same)

  kind-is : (n : ℕ) → n < length plan.nodes → (node_at (open_clients plan.nodes) n).kind ≡ (get_or plan.nodes n system_entry).kind
  kind-is n low = ap (λ (c : OpenClient). c.kind) (get_or-map open_client plan.nodes n system_entry system_client low)

  -- births tell nodes apart
  nodes-apart : (n m : ℕ) → n < length plan.nodes → m < length plan.nodes → (node_at (open_clients plan.nodes) n).birth ≡ (node_at (open_clients plan.nodes) m).birth → n ≡ m
  nodes-apart n m low less e =
      let same : client n ≡ client m = one (client n) (client m) (sym ((p.is_plan).born n (inside n low)) ∙ ap (λ birth. player_born (state_of_plan plan) birth) e ∙ (p.is_plan).born m (inside m less)) in
      one n m (sym ((p.is_plan).placed n (inside n low)) ∙ ap (λ (c : OpenClient). place_in (open_clients plan.nodes) c.name) same ∙ (p.is_plan).placed m (inside m less))

  within : (n b : ℕ) → seat_at new.sounds n ≡ Some b → n < length plan.nodes
  within n b e = go (nat_lt n (length plan.nodes)) refl
    where
      go : (t : Bool) → nat_lt n (length plan.nodes) ≡ t → n < length plan.nodes
      go true f = ltb-true n (length plan.nodes) f
      go false f = absurd (nothing-some b (sym (h.past n (ltb-false n (length plan.nodes) f)) ∙ e))

  log-new : (birth b : ℕ) → owner_at new b ≡ Some birth → log_at (heard_in new) birth ≡ (standing_at new b).log
  log-new birth b e = log-some new.owners new.benches birth b (h.seating).as_many e (λ c f. (h.seating).apart c b birth f e)

  log-old : (birth b : ℕ) → owner_at old b ≡ Some birth → log_at (heard_in old) birth ≡ (standing_at old b).log
  log-old birth b e = log-some old.owners old.benches birth b before.as_many e (λ c f. before.apart c b birth f e)

  -- the log of a client that has no seat
  log-same : (birth : ℕ) → ((c m : ℕ) → owner_at new c ≡ Some birth → seat_at new.sounds m ≡ Some c → ⊥) → log_at (heard_in new) birth ≡ log_at (heard_in old) birth
  log-same birth unseated = go (owner-decided new.owners birth)
    where
      found : (b : ℕ) → owner_at new b ≡ Some birth → (owner_at old b ≡ Some birth) ⊎ ((owner_at old b ≡ None) × (n : ℕ) × (seat_at new.sounds n ≡ Some b)) → log_at (heard_in new) birth ≡ log_at (heard_in old) birth
      found b e (inl f) = log-new birth b e ∙ ap (λ (s : Standing). s.log) (h.others b (λ n g. unseated b n e g)) ∙ sym (log-old birth b f)
      found b e (inr f) = absurd (unseated b f.1 e f.2)

      go : ((b : ℕ) × (owner_at new b ≡ Some birth)) ⊎ ((b : ℕ) → owner_at new b ≡ Some birth → ⊥) → log_at (heard_in new) birth ≡ log_at (heard_in old) birth
      go (inl w) = found w.0 w.1 (h.seated w.0 birth w.1)
      go (inr none) = log-none new.owners new.benches birth none ∙ sym (log-none old.owners old.benches birth (λ b e. none b (h.owned b birth e)))

  -- the log that a seated client had
  log-had : (n b : ℕ) → n < length plan.nodes → seat_at new.sounds n ≡ Some b → log_at (heard_in old) (node_at (open_clients plan.nodes) n).birth ≡ (standing_at old b).log
  log-had n b low e = go (h.seated b (client n).birth (h.has n b low e))
    where
      go : (owner_at old b ≡ Some (client n).birth) ⊎ ((owner_at old b ≡ None) × (m : ℕ) × (seat_at new.sounds m ≡ Some b)) → log_at (heard_in old) (node_at (open_clients plan.nodes) n).birth ≡ (standing_at old b).log
      go (inl f) = log-old (client n).birth b f
      go (inr f) = log-none old.owners old.benches (client n).birth nobody ∙ sym (before.free b f.0)
        where
          nobody : (c : ℕ) → owner_at old c ≡ Some (client n).birth → ⊥
          nobody c g =
              let same : c ≡ b = (h.seating).apart c b (client n).birth (h.owned c (client n).birth g) (h.has n b low e) in
              nothing-some (client n).birth (sym f.0 ∙ ap (owner_at old) (sym same) ∙ g)

  plays : (n : ℕ) → n < length plan.nodes → PlaysHeard (heard_in old) plan moment period (heard_in new) n (node_at (open_clients plan.nodes) n)
  plays n low outputs memory e = go (seat_at new.sounds n) refl
    where
      inputs : List (List Event)
      inputs = heard_by (midi_wired_of plan) (heard_in new) n

      made : List Event → Memory → MidiPlayed
      made events m = record { outputs = replicate outputs events; memory = m }

      with_log : List Logged → Memory
      with_log log = record memory { log = log }

      unseated : seat_at new.sounds n ≡ None → (c m : ℕ) → owner_at new c ≡ Some (client n).birth → seat_at new.sounds m ≡ Some c → ⊥
      unseated f c m owns g =
          let low_m : m < length plan.nodes = within m c g in
          let same : m ≡ n = nodes-apart m n low_m low (one (client m).birth (client n).birth (sym (h.has m c low_m g) ∙ owns)) in
          nothing-some c (sym f ∙ ap (seat_at new.sounds) (sym same) ∙ g)

      go : (seat : Option ℕ) → seat_at new.sounds n ≡ seat
          → midi_play (listed_for old.lists (node_at (open_clients plan.nodes) n).kind) (node_at (open_clients plan.nodes) n).kind memory outputs moment period (heard_by (midi_wired_of plan) (heard_in new) n)
          ≡ made (played_at (heard_in new) n) (with_log (log_at (heard_in new) (node_at (open_clients plan.nodes) n).birth))
      go (Some b) f =
          ap₂ (λ listed kind. midi_play (listed_for old.lists listed) kind memory outputs moment period inputs) (kind-is n low) (sym (h.kinds n b low f))
          ∙ h.played n b low f outputs memory inputs (e ∙ log-had n b low f) (ap merge (heard-is new (midi_wired_of plan) n))
          ∙ ap₂ made (sym (played-is new n ∙ ap (events_at new.sounds.gives) f)) (ap with_log (sym (log-new (client n).birth b (h.has n b low f))))
      go None f =
          quiet (listed_for old.lists (client n).kind) (client n).kind memory outputs moment period inputs (h.none n low f)
          ∙ ap₂ made (sym (played-is new n ∙ ap (events_at new.sounds.gives) f)) (ap with_log (e ∙ sym (log-same (client n).birth (unseated f))))

  abbrev carried : List Carried
  carried = map (carried_by new.sounds.gives) new.sounds.outputs

  born : (birth : ℕ) → carried_at (map (carried_by new.sounds.gives) new.sounds.outputs) birth ≡ events_at new.sounds.gives (bench_born (filter_map (output_of new.sounds) (midi_wired_of plan).given) birth)
  born birth = carried-is new.sounds.gives new.sounds.outputs birth ∙ ap (λ outputs. events_at new.sounds.gives (bench_born outputs birth)) h.outputs

  are-carried : AreCarried plan (heard_in new)
  are-carried = record {
    given = λ given m. born given.birth ∙ ap (events_at new.sounds.gives) (its given m (seat_at new.sounds given.node) refl) ∙ sym (played-is new given.node);
    others = λ birth none. born birth ∙ ap (events_at new.sounds.gives) (born-none new.sounds birth (midi_wired_of plan).given (λ given m e. absurd (none given m e)));
  }
    where
      its : (given : MidiGiven) → Contains (midi_wired_of plan).given given → (seat : Option ℕ) → seat_at new.sounds given.node ≡ seat
          → bench_born (filter_map (output_of new.sounds) (midi_wired_of plan).given) given.birth ≡ seat_at new.sounds given.node
      its given m None f =
          born-none new.sounds given.birth (midi_wired_of plan).given (λ other k e. ap (λ (x : MidiGiven). seat_at new.sounds x.node) (births other given k m e) ∙ f) ∙ sym f
      its given m (Some b) f =
          born-some new.sounds given.birth (midi_wired_of plan).given b (λ other k e. ap (λ (x : MidiGiven). seat_at new.sounds x.node) (births other given k m e) ∙ f) given m refl ∙ sym f

  kept : map (carried_by new.sounds.gave) new.sounds.earlier ≡ cond (old.period == period) (map (carried_by old.sounds.gives) old.sounds.outputs) []
  kept = ap₂ (λ events outputs. map (carried_by events) outputs) h.gave h.earlier ∙ go (old.period == period)
    where
      go : (t : Bool) → map (carried_by old.sounds.gives) (cond t old.sounds.outputs []) ≡ cond t (map (carried_by old.sounds.gives) old.sounds.outputs) []
      go true = refl
      go false = refl

  pub HearsPlan-stage : HearsPlan (heard_in old) plan moment period (heard_in new)
  HearsPlan-stage = record {
    lists = h.lists;
    period_is = h.period_is;
    before = kept;
    plays = plays;
    past = λ n far. played-is new n ∙ ap (events_at new.sounds.gives) (h.past n far);
    carried = are-carried;
    others = λ birth no_node. log-same birth (λ c m owns g. let low : m < length plan.nodes = within m c g in no_node m low (one (client m).birth birth (sym (h.has m c low g) ∙ owns)));
  }
