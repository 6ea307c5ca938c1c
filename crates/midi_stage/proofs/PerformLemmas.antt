-- What a cycle of the parts leaves.
--     PlaysMidi-performed      each MIDI client has its bench and played on it
--     HearsNobody-performed      nobody played, and all logs stay
--     log-owned, log-nobodys      the log of a birth, read from the benches
use Rattle.std.proofs.Common.{◌≡◌, ℕ, ◌+◌, ◌==◌, ◌⊎◌, inl, inr, Bool, true, false, cond, [], filter_map, get_or, length, map, Option, Some, None, refl, sym, ◌∙◌, ap, ap₂, subst, arith}
use Rattle.std.proofs.Math.ListN.{get_or-map}
use Rattle.std.proofs.lemmas.List.{get_or_past, length-map}
use Rattle.jack_types.specs.declared.kinds.Kind.{Kind}
use Rattle.jack_types.specs.declared.kinds.Kind.TheVariants.{Pass, Gain, Mix, Delay, Tone, Click, Meter, Tape, Guest, Midiplay, Midithru, Midilog, Disk}
use Rattle.jack_types.specs.declared.moments.Moment.{Moment}
use Rattle.session_model.specs.Benches.{node_at}
use Rattle.port_registry.specs.Registered.{open_client, open_clients}
use Rattle.midi_wiring.specs.cycle_plan.specs.Plans.{Planned}
use Rattle.midi_player.specs.Standings.{IsMidi, Standing}
use Rattle.driver_words.specs.Hearings.{log_at}
use Rattle.midi_wiring.specs.Wirings.{midi_wired_of}
use Rattle.midi_seats.specs.Owning.{HaveSeats, code_at, kind_at}
use Rattle.midi_seats.specs.Seating.{midi_code, owner_of}
use Rattle.midi_seats.proofs.KnownLemmas.{code-one}
use Rattle.midi_stage.specs.Insides.{Exchanges, PlaysAll, Stands, TurnsTo, kinds_in, staged_by}
use Rattle.midi_stage.specs.Sounding.{HavePlayed, events_at, no_standing, output_from, seat_at, sounded}
use Rattle.midi_stage.specs.Stages.{PlaysMidi, carried_by, heard_in, owner_at}
use Rattle.midi_stage.specs.Standing.{HearsNobody}
use Rattle.midi_stage.specs.declared.parts.Parts.{Parts}
use Rattle.midi_stage.specs.declared.sounds.Sounds.{Sounds}
use Rattle.midi_stage.proofs.HeardLemmas.{owner-decided}
use Rattle.midi_stage.proofs.PartLemmas.{benches-cleared, benches-turned, earlier-cleared, earlier-played, earlier-turned, gave-cleared, gave-played, gave-turned, kinds-turned, known-turned, lists-cleared, lists-played, lists-turned, owner-is, owners-cleared, owners-played, seating-of, seats-cleared, seats-played}
use Rattle.midi_stage.proofs.ViewLemmas.{log-none, log-some}

nothing-some : {X : Type 0} (x : X) → None ≡ Some x → ⊥
nothing-some x e = cc

-- a kind without a number is no MIDI kind
pub no-midi : (kind : Kind) → midi_code kind ≡ None → IsMidi kind → ⊥
no-midi Midithru e is = nothing-some 0 (sym e)
no-midi Midilog e is = nothing-some 1 (sym e)
no-midi (Midiplay list) e is = nothing-some (list + 2) (sym e)
no-midi Pass e is = is
no-midi (Gain _ _) e is = is
no-midi Mix e is = is
no-midi (Delay _) e is = is
no-midi (Tone _ _) e is = is
no-midi (Click _) e is = is
no-midi Meter e is = is
no-midi (Tape _) e is = is
no-midi (Guest _) e is = is
no-midi (Disk _) e is = is

kind-there : (parts : Parts) (b : ℕ) → kind_at (kinds_in parts) b ≡ (get_or parts.benches.items b no_standing).kind
kind-there parts b = get_or-map (λ (bench : Standing). bench.kind) parts.benches.items b no_standing

-- ---- logs

module _ (last : Planned) (period : ℕ) (parts : Parts) (stands : Stands last parts) (birth : ℕ) where
  pub log-owned : (b : ℕ) → owner_of parts.owners.items b ≡ Some birth → log_at (heard_in (staged_by period parts)) birth ≡ (get_or parts.benches.items b no_standing).log
  log-owned b e =
      log-some (staged_by period parts).owners (staged_by period parts).benches birth b (seating-of last period parts stands).as_many (owner-is period parts b ∙ e)
      (λ c f. stands.known.apart c b birth (sym (owner-is period parts c) ∙ f) e)

  pub log-nobodys : ((b : ℕ) → owner_of parts.owners.items b ≡ Some birth → ⊥) → log_at (heard_in (staged_by period parts)) birth ≡ []
  log-nobodys none = log-none (staged_by period parts).owners (staged_by period parts).benches birth (λ b e. none b (sym (owner-is period parts b) ∙ e))

  pub decided : ((b : ℕ) × (owner_of parts.owners.items b ≡ Some birth)) ⊎ ((b : ℕ) → owner_of parts.owners.items b ≡ Some birth → ⊥)
  decided = go (owner-decided (staged_by period parts).owners birth)
    where
      go : ((b : ℕ) × (get_or (staged_by period parts).owners b None ≡ Some birth)) ⊎ ((b : ℕ) → get_or (staged_by period parts).owners b None ≡ Some birth → ⊥)
          → ((b : ℕ) × (owner_of parts.owners.items b ≡ Some birth)) ⊎ ((b : ℕ) → owner_of parts.owners.items b ≡ Some birth → ⊥)
      go (inl w) = inl (w.0, sym (owner-is period parts w.0) ∙ w.1)
      go (inr none) = inr (λ b e. none b (owner-is period parts b ∙ e))

-- ---- a cycle: the exchange, the turn, and what follows

module _ (last plan : Planned) (moment : Moment) (before period : ℕ) (k : Bool) (k_is : k ≡ (before == period)) (p0 p2 : Parts) (s1 : Sounds)
    (stands : Stands last p0) (x : Exchanges k p0.sounds s1) (t : TurnsTo plan (record p0 { sounds = s1 }) p2) where
  earlier-is : p2.sounds.earlier.items ≡ cond (before == period) p0.sounds.outputs.items []
  earlier-is = ap (λ earlier. earlier.items) (earlier-turned plan (record p0 { sounds = s1 }) p2 t) ∙ x.earlier ∙ ap (λ b. cond b p0.sounds.outputs.items []) k_is

  gave-is : p2.sounds.gave ≡ p0.sounds.gives
  gave-is = gave-turned plan (record p0 { sounds = s1 }) p2 t ∙ x.gave

  kinds-agree : kinds_in p2 ≡ kinds_in p0
  kinds-agree = kinds-turned plan (record p0 { sounds = s1 }) p2 t

  -- who owns a bench owned it, or nobody did
  was : (b birth : ℕ) → owner_of p2.owners.items b ≡ Some birth → (owner_of p0.owners.items b ≡ Some birth) ⊎ (owner_of p0.owners.items b ≡ None)
  was b birth e = go (owner_of p0.owners.items b) refl
    where
      go : (owner : Option ℕ) → owner_of p0.owners.items b ≡ owner → (owner_of p0.owners.items b ≡ Some birth) ⊎ (owner_of p0.owners.items b ≡ None)
      go None f = inr f
      go (Some other) f = inl (f ∙ sym (t.owned b other f) ∙ e)

  module _ (p3 : Parts) (after : Stands plan p3) (staffed : p2.is_staffed ≡ true) (p : PlaysAll plan moment period p2 p3) where
    seats : HaveSeats (open_clients plan.nodes) p2.sounds.seats.items p2.owners.items
    seats = t.turned.seats staffed

    many : length p2.sounds.seats.items ≡ length plan.nodes
    many = seats.as_many ∙ length-map plan.nodes open_client

    seat-is : (n : ℕ) → get_or p3.sounds.seats.items n None ≡ get_or p2.sounds.seats.items n None
    seat-is n = ap (λ all. get_or all.items n None) (seats-played plan moment period p2 p3 p)

    owner-new : (b : ℕ) → owner_at (staged_by period p3) b ≡ owner_of p2.owners.items b
    owner-new b = owner-is period p3 b ∙ ap (λ owners. owner_of owners.items b) (owners-played plan moment period p2 p3 p)

    bench-is : (b : ℕ) → get_or p2.benches.items b no_standing ≡ get_or p0.benches.items b no_standing
    bench-is b = ap (λ benches. get_or benches.items b no_standing) (benches-turned plan (record p0 { sounds = s1 }) p2 t)

    kind-is : (n b : ℕ) → get_or p2.sounds.seats.items n None ≡ Some b → (get_or p0.benches.items b no_standing).kind ≡ (node_at (open_clients plan.nodes) n).kind
    kind-is n b e =
        sym (kind-there p0 b) ∙ ap (λ kinds. kind_at kinds b) (sym kinds-agree)
        ∙ code-one (kind_at (kinds_in p2) b) (node_at (open_clients plan.nodes) n).kind (code_at p2.owners.items b) ((known-turned plan (record p0 { sounds = s1 }) p2 t).made.codes b) (seats.kinds n b e)

    played : HavePlayed p0.lists.items plan.nodes (midi_wired_of plan) moment period (length plan.nodes) p0.benches.items p3.benches.items (sounded p3.sounds)
    played =
        subst (λ count. HavePlayed p0.lists.items plan.nodes (midi_wired_of plan) moment period count p0.benches.items p3.benches.items (sounded p3.sounds)) many
        (subst (λ benches. HavePlayed p0.lists.items plan.nodes (midi_wired_of plan) moment period (length p2.sounds.seats.items) benches.items p3.benches.items (sounded p3.sounds)) (benches-turned plan (record p0 { sounds = s1 }) p2 t)
        (subst (λ lists. HavePlayed lists.items plan.nodes (midi_wired_of plan) moment period (length p2.sounds.seats.items) p2.benches.items p3.benches.items (sounded p3.sounds)) (lists-turned plan (record p0 { sounds = s1 }) p2 t) p.played))

    pub PlaysMidi-performed : PlaysMidi (staged_by before p0) plan moment period (staged_by period p3)
    PlaysMidi-performed = record {
      lists = ap (λ lists. lists.items) (lists-played plan moment period p2 p3 p ∙ lists-turned plan (record p0 { sounds = s1 }) p2 t);
      period_is = refl;
      seating = seating-of plan period p3 after;
      owned = λ b birth e. owner-new b ∙ t.owned b birth (sym (owner-is before p0 b) ∙ e);
      seated = λ b birth e. seated b birth (t.seated staffed b birth (sym (owner-new b) ∙ e));
      has = λ n b low e. owner-new b ∙ seats.owns n b (sym (seat-is n) ∙ e);
      kinds = λ n b low e. kind-is n b (sym (seat-is n) ∙ e);
      none = λ n low e. no-midi (node_at (open_clients plan.nodes) n).kind (seats.none n (let same : length (open_clients plan.nodes) ≡ length plan.nodes = length-map plan.nodes open_client in omega (arith, low, same)) (sym (seat-is n) ∙ e));
      past = λ n far. seat-is n ∙ get_or_past p2.sounds.seats.items n None (let all : length p2.sounds.seats.items ≡ length plan.nodes = many in omega (arith, far, all));
      played = played;
      others = λ b none. p.others b (λ n e. none n (seat-is n ∙ e)) ∙ bench-is b;
      outputs = p.outputs ∙ ap (λ seats. filter_map (output_from seats.items) (midi_wired_of plan).given) (sym (seats-played plan moment period p2 p3 p));
      earlier = ap (λ earlier. earlier.items) (earlier-played plan moment period p2 p3 p) ∙ earlier-is;
      gave = ap (λ gave. gave.items) (gave-played plan moment period p2 p3 p ∙ gave-is);
    }
      where
        seated : (b birth : ℕ) → (owner_of p0.owners.items b ≡ Some birth) ⊎ ((owner_of p0.owners.items b ≡ None) × (n : ℕ) × (get_or p2.sounds.seats.items n None ≡ Some b))
            → (owner_at (staged_by before p0) b ≡ Some birth) ⊎ ((owner_at (staged_by before p0) b ≡ None) × (n : ℕ) × (seat_at (sounded p3.sounds) n ≡ Some b))
        seated b birth (inl e) = inl (owner-is before p0 b ∙ e)
        seated b birth (inr w) = inr (owner-is before p0 b ∙ w.0, w.1, seat-is w.1 ∙ w.2)

  module _ (p3 : Parts) (after : Stands plan p3) (refused : p2.is_staffed ≡ false) (same : p3 ≡ record p2 { sounds = record p2.sounds { outputs = p3.sounds.outputs } }) (outputs : p3.sounds.outputs.items ≡ []) where
    bench-kept : (b : ℕ) → get_or p3.benches.items b no_standing ≡ get_or p0.benches.items b no_standing
    bench-kept b = ap (λ benches. get_or benches.items b no_standing) (benches-cleared p2 p3 same ∙ benches-turned plan (record p0 { sounds = s1 }) p2 t)

    owner-kept : (b : ℕ) → owner_of p3.owners.items b ≡ owner_of p2.owners.items b
    owner-kept b = ap (λ owners. owner_of owners.items b) (owners-cleared p2 p3 same)

    kept : (b : Bool) → map (carried_by p0.sounds.gives.items) (cond b p0.sounds.outputs.items []) ≡ cond b (map (carried_by p0.sounds.gives.items) p0.sounds.outputs.items) []
    kept true = refl
    kept false = refl

    log-kept : (birth : ℕ) → log_at (heard_in (staged_by period p3)) birth ≡ log_at (heard_in (staged_by before p0)) birth
    log-kept birth = go (decided plan period p3 after birth)
      where
        found : (b : ℕ) → owner_of p3.owners.items b ≡ Some birth → (owner_of p0.owners.items b ≡ Some birth) ⊎ (owner_of p0.owners.items b ≡ None) → log_at (heard_in (staged_by period p3)) birth ≡ log_at (heard_in (staged_by before p0)) birth
        found b e (inl f) = log-owned plan period p3 after birth b e ∙ ap (λ (s : Standing). s.log) (bench-kept b) ∙ sym (log-owned last before p0 stands birth b f)
        found b e (inr f) = log-owned plan period p3 after birth b e ∙ ap (λ (s : Standing). s.log) (bench-kept b) ∙ stands.free b f ∙ sym (log-nobodys last before p0 stands birth nobody)
          where
            nobody : (c : ℕ) → owner_of p0.owners.items c ≡ Some birth → ⊥
            nobody c g =
                let at : c ≡ b = after.known.apart c b birth (owner-kept c ∙ t.owned c birth g) e in
                nothing-some birth (sym f ∙ ap (λ d. owner_of p0.owners.items d) (sym at) ∙ g)

        go : ((b : ℕ) × (owner_of p3.owners.items b ≡ Some birth)) ⊎ ((b : ℕ) → owner_of p3.owners.items b ≡ Some birth → ⊥) → log_at (heard_in (staged_by period p3)) birth ≡ log_at (heard_in (staged_by before p0)) birth
        go (inl w) = found w.0 w.1 (was w.0 birth (sym (owner-kept w.0) ∙ w.1))
        go (inr none) = log-nobodys plan period p3 after birth none ∙ sym (log-nobodys last before p0 stands birth (λ b e. none b (owner-kept b ∙ t.owned b birth e)))

    pub HearsNobody-performed : HearsNobody (heard_in (staged_by before p0)) period (heard_in (staged_by period p3))
    HearsNobody-performed = record {
      lists = ap (λ lists. lists.items) (lists-cleared p2 p3 same ∙ lists-turned plan (record p0 { sounds = s1 }) p2 t);
      period_is = refl;
      before = ap₂ (λ gave earlier. map (carried_by gave) earlier) (ap (λ gave. gave.items) (gave-cleared p2 p3 same ∙ gave-is)) (ap (λ earlier. earlier.items) (earlier-cleared p2 p3 same) ∙ earlier-is) ∙ kept (before == period);
      played = ap (λ seats. map (events_at p3.sounds.gives.items) seats) (ap (λ seats. seats.items) (seats-cleared p2 p3 same) ∙ t.turned.unseated refused);
      carried = ap (λ outputs. map (carried_by p3.sounds.gives.items) outputs) outputs;
      logs = log-kept;
    }
