-- Benches made for a script's `open` calls are enough for the MIDI clients of its plans.
--     enough      no client of a plan of its calls can have none
use Rattle.std.proofs.Common.{◌≡◌, ℕ, zero, suc, ◌<◌, Bool, true, false, cond, not, ◌&&◌, ◌==◌, ◌⊎◌, inl, inr, List, [], ◌∷◌, ◌++◌, filter, get_or, length, map, nat_lt, position, slice_get, Contains, Option, Some, None, is_none, is_some, refl, sym, ◌∙◌, ap, subst, arith, eq-eqb, true≢false, ltb-false, ltb-true}
use Rattle.std.specs.List.{position_or_len}
use Rattle.std.specs.List.Sorted.{IsPermutation}
use Rattle.std.proofs.Math.ListN.{get_or-map}
use Rattle.std.proofs.lemmas.List.{get_or_default}
use Rattle.std.proofs.lemmas.List.Quantifiers.{position-Some}
use Rattle.std.proofs.lemmas.List.Sorted.{IsPermutation-filter_both}
use Rattle.jack_types.specs.declared.kinds.Kind.{Kind}
use Rattle.jack_types.specs.declared.kinds.Kind.TheVariants.{Midithru}
use Rattle.session_model.specs.Benches.{node_at}
use Rattle.session_model.specs.Scripts.{Script}
use Rattle.session_model.specs.State.{OpenClient}
use Rattle.session_laws.proofs.CycleLemmas.{filter-passes}
use Rattle.session_laws.proofs.LoopLemmas.{Contains-first, Contains-later}
use Rattle.session_laws.proofs.PlaceLemmas.{position-found}
use Rattle.port_registry.specs.Registered.{open_clients}
use Rattle.task_laws.specs.cycle_plan.specs.Plans.{IsPlanned, Planned, opening_of}
use Rattle.task_laws.specs.driver_laws.specs.Keeping.{AreOfCalls}
use Rattle.task_laws.specs.Calls.{AreOwners, HasOpened, open_kinds}
use Rattle.task_laws.proofs.EnoughLemmas.{free-bench}
use Rattle.midi_seats.specs.declared.seating.Owned.{Owned}
use Rattle.midi_seats.specs.Owning.{AreKnown, IsShort, code_at, kind_at, midi_kinds}
use Rattle.midi_seats.specs.Seating.{is_free, is_owned_by, midi_code, no_owned, owner_of, seat_from}
use Rattle.midi_seats.proofs.KnownLemmas.{node-opened, opened-once}
use Rattle.midi_seats.proofs.SeatLemmas.{nobodys, own-is, past}

one : {X : Type 0} (x y : X) → Some x ≡ Some y → x ≡ y
one x y e = cc

nothing-some : {X : Type 0} (x : X) → None ≡ Some x → ⊥
nothing-some x e = cc

-- what stands in two lists one behind the other
there : (xs ys : List Kind) (p : ℕ) (kind : Kind) → slice_get (xs ++ ys) p ≡ Some kind → ((p < length xs) × (get_or xs p Midithru ≡ kind)) ⊎ Contains ys kind
there [] ys p kind e = inr (contained ys p e)
  where
    contained : (zs : List Kind) (q : ℕ) → slice_get zs q ≡ Some kind → Contains zs kind
    contained [] q f = absurd (nothing-some kind f)
    contained (z ∷ zs) zero f = subst (Contains (z ∷ zs)) (one z kind f) (Contains-first z zs)
    contained (z ∷ zs) (suc q) f = Contains-later z kind zs (contained zs q f)
there (x ∷ xs) ys zero kind e = inl (omega arith, one x kind e)
there (x ∷ xs) ys (suc p) kind e = go (there xs ys p kind e)
  where
    go : ((p < length xs) × (get_or xs p Midithru ≡ kind)) ⊎ Contains ys kind → ((suc p < length (x ∷ xs)) × (get_or (x ∷ xs) (suc p) Midithru ≡ kind)) ⊎ Contains ys kind
    go (inl w) = inl ((let low : p < length xs = w.0 in omega (arith, low)), w.1)
    go (inr m) = inr m

in-front : (xs ys : List Kind) (p : ℕ) (kind : Kind) → p < length xs → slice_get (xs ++ ys) p ≡ Some kind → get_or xs p Midithru ≡ kind
in-front [] ys p kind low e = absurd (omega (arith, low))
in-front (x ∷ xs) ys zero kind low e = one x kind e
in-front (x ∷ xs) ys (suc p) kind low e = in-front xs ys p kind (omega (arith, low)) e

module _ (script : Script) (plan : Planned) (benches : List Owned) (of : AreOfCalls script plan.changes) (planned : IsPlanned plan) (known : AreKnown plan.changes (midi_kinds script) benches) where
  abbrev is_midi : Kind → Bool
  is_midi kind = is_some (midi_code kind)

  abbrev is_other : Kind → Bool
  is_other kind = not (is_some (midi_code kind))

  abbrev others : List Kind
  others = filter (λ kind. not (is_some (midi_code kind))) (open_kinds script)

  owners : List (Option ℕ)
  owners = map (λ (bench : Owned). bench.owner) benches

  owner-is : (p : ℕ) → get_or (map (λ (bench : Owned). bench.owner) benches) p None ≡ owner_of benches p
  owner-is p = get_or-map (λ (bench : Owned). bench.owner) benches p no_owned

  within : (p birth : ℕ) → owner_of benches p ≡ Some birth → p < length benches
  within p birth e = go (nat_lt p (length benches)) refl
    where
      go : (t : Bool) → nat_lt p (length benches) ≡ t → p < length benches
      go true f = ltb-true p (length benches) f
      go false f = absurd (nothing-some birth (sym (ap (λ (bench : Owned). bench.owner) (past benches p (ltb-false p (length benches) f))) ∙ e))

  made : IsPermutation (open_kinds script) (midi_kinds script ++ others)
  made = IsPermutation-filter_both is_midi is_other (λ kind. refl) (open_kinds script)

  are : AreOwners plan.changes (midi_kinds script ++ others) (map (λ (bench : Owned). bench.owner) benches)
  are = record {
    apart = λ p q birth e f. known.apart p q birth (sym (owner-is p) ∙ e) (sym (owner-is q) ∙ f);
    opened = λ p birth kind e f. opened p birth kind (sym (owner-is p) ∙ e) f;
  }
    where
      opened : (p birth : ℕ) (kind : Kind) → owner_of benches p ≡ Some birth → slice_get (midi_kinds script ++ others) p ≡ Some kind → HasOpened plan.changes birth kind
      opened p birth kind e f =
          let low : p < length benches = within p birth e in
          let many : length benches ≡ length (midi_kinds script) = known.made.as_many in
          subst (HasOpened plan.changes birth) (in-front (midi_kinds script) others p kind (omega (arith, low, many)) f) (known.opened p birth e)

  module _ (s : IsShort (open_clients plan.nodes) benches) where
    abbrev client : OpenClient
    client = node_at (open_clients plan.nodes) s.n

    opened : HasOpened plan.changes (node_at (open_clients plan.nodes) s.n).birth (node_at (open_clients plan.nodes) s.n).kind
    opened = node-opened plan planned s.n s.within

    -- nobody's bench for the kind is found
    found : (p : ℕ) → p < length benches → owner_of benches p ≡ None → code_at benches p ≡ s.code → position (is_free s.code) benches ≡ None → ⊥
    found p low none code missing =
        let bench : Owned = get_or benches p no_owned in
        nothing-some (position_or_len (is_free s.code) benches)
        (sym missing ∙ position-found (is_free s.code) benches bench (p, low, get_or_default benches p bench no_owned low) (both bench.owner none (bench.code == s.code) (eq-eqb bench.code s.code code)))
      where
        both : (owner : Option ℕ) → owner ≡ None → (t : Bool) → t ≡ true → (is_none owner && t) ≡ true
        both None e true f = refl
        both None e false f = f
        both (Some other) e t f = absurd (nothing-some other (sym e))

    free : ((b : ℕ) → owner_of benches b ≡ Some (node_at (open_clients plan.nodes) s.n).birth → ⊥) → position (is_free s.code) benches ≡ None → ⊥
    free nobody missing =
        at (free-bench script plan.changes (midi_kinds script ++ others) (map (λ (bench : Owned). bench.owner) benches) client.kind client.birth of made are opened (λ p e. nobody p (sym (owner-is p) ∙ e)))
      where
        not-true : (t : Bool) → t ≡ true → not t ≡ true → ⊥
        not-true true e f = true≢false (sym f)
        not-true false e f = true≢false (sym e)

        here : (p : ℕ) → owner_of benches p ≡ None → ((p < length (midi_kinds script)) × (get_or (midi_kinds script) p Midithru ≡ client.kind)) ⊎ Contains others client.kind → ⊥
        here p none (inr m) = not-true (is_some (midi_code client.kind)) (ap is_some s.kind) (filter-passes is_other (open_kinds script) client.kind m)
        here p none (inl w) =
            let low : p < length (midi_kinds script) = w.0 in
            let many : length benches ≡ length (midi_kinds script) = known.made.as_many in
            found p (omega (arith, low, many)) none (one (code_at benches p) s.code (sym (known.made.codes p) ∙ ap midi_code w.1 ∙ s.kind)) missing

        at : (p : ℕ) × (slice_get (midi_kinds script ++ others) p ≡ Some client.kind) × (get_or (map (λ (bench : Owned). bench.owner) benches) p None ≡ None) → ⊥
        at w = here w.0 (sym (owner-is w.0) ∙ w.2) (there (midi_kinds script) others w.0 client.kind w.1)

    -- its own bench is for its kind
    own : (p : ℕ) → owner_of benches p ≡ Some (node_at (open_clients plan.nodes) s.n).birth → code_at benches p ≡ s.code
    own p e =
        let same : kind_at (midi_kinds script) p ≡ client.kind =
        opened-once (opening_of plan.base) plan.changes planned.lawful client.birth (kind_at (midi_kinds script) p) client.kind (known.opened p client.birth e) opened in
        one (code_at benches p) s.code (sym (known.made.codes p) ∙ ap midi_code same ∙ s.kind)

    pub enough : ⊥
    enough = go (position (is_owned_by client.birth) benches) refl s.none
      where
        taken : (p : ℕ) (t : Bool) → (code_at benches p == s.code) ≡ t → code_at benches p ≡ s.code → cond t (Some p) None ≡ None → ⊥
        taken p true e same f = nothing-some p (sym f)
        taken p false e same f = true≢false (sym (eq-eqb (code_at benches p) s.code same) ∙ e)

        go : (o : Option ℕ) → position (is_owned_by (node_at (open_clients plan.nodes) s.n).birth) benches ≡ o → seat_from s.code benches o ≡ None → ⊥
        go None e f = free (nobodys benches client.birth e) f
        go (Some p) e f = taken p (code_at benches p == s.code) refl (own p (own-is client.birth (get_or benches p no_owned).owner (position-Some (is_owned_by client.birth) benches p no_owned e).1)) f
