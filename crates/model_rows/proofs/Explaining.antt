-- A small session is explained by what one thread prints of it: the definitions can be met.
use Rattle.std.proofs.Common.{◌≡◌, ℕ, zero, suc, ◌<◌, ◌≤◌, ◌⊎◌, inl, inr, List, [], ◌∷◌, ◌++◌, pos, refl, codes, take, false, length, slice_get, slice_index, Some, None, Contains, subst, sym, arith, lit≤}
use Rattle.std.specs.Fmt.{digits}
use Rattle.std.specs.List.Sorted.{IsNonDecreasing}
use Rattle.jack_types.specs.declared.commands.Command.TheVariants.{Connect, Stop}
use Rattle.jack_types.specs.declared.commands.Call.{Call}
use Rattle.jack_types.specs.declared.replies.Entry.{Entry}
use Rattle.jack_types.specs.declared.replies.Reply.TheVariants.{Accepted}
use Rattle.jack_types.specs.declared.scripts.Body.TheVariants.{Run, Lane}
use Rattle.session_model.specs.Explanations.{Given, Printed, Written, Explained, playback_text, course_of}
use Rattle.session_model.specs.Histories.{LegalSoFar, Cycles, IsWithinPhase, calls_of, plan_of, accepted}
use Rattle.session_model.specs.Reports.{report_text}
use Rattle.session_model.specs.Scripts.{Planned, ScriptCycle, planned, turns}
use Rattle.session_model.specs.Serial.{serial}
use Rattle.session_laws.proofs.HistoryLemmas.{LegalSoFar-none, LegalSoFar-next, IsNextCall}
use Rattle.session_laws.proofs.LoopLemmas.{Contains-cases, Contains-first}
use Rattle.model_rows.specs.Given.{header, given, joins}

abbrev small : Given
small = given (header 48000 4 1 1 16) (joins (codes "system:capture_1") (codes "system:playback_1") ++ Run 2 ∷ Lane 1 1 Stop ∷ []) (pos 1 ∷ pos 2 ∷ pos 3 ∷ pos 4 ∷ pos 5 ∷ [])

abbrev printed : Printed
printed = serial small.script

abbrev first_plan : Planned
first_plan = record { call = record { lane = 0; index = 1; command = Connect (codes "system:capture_1") (codes "system:playback_1") }; stage = 0; asked = 0 }

abbrev second_plan : Planned
second_plan = record { call = record { lane = 1; index = 1; command = Stop }; stage = 1; asked = 1 }

plans_are : planned small.script ≡ first_plan ∷ second_plan ∷ []
plans_are = refl

not-below_zero : {n : ℕ} → n < 0 → ⊥
not-below_zero p = omega arith

-- the planned calls are these two
plan_cases : (plan : Planned) → Contains (planned small.script) plan → (first_plan ≡ plan) ⊎ (second_plan ≡ plan)
plan_cases plan h = go (Contains-cases first_plan plan (second_plan ∷ []) h)
  where
    last : (second_plan ≡ plan) ⊎ Contains [] plan → second_plan ≡ plan
    last (inl e) = e
    last (inr m) = absurd (not-below_zero m.1)

    go : (first_plan ≡ plan) ⊎ Contains (second_plan ∷ []) plan → (first_plan ≡ plan) ⊎ (second_plan ≡ plan)
    go (inl e) = inl e
    go (inr m) = inr (last (Contains-cases second_plan plan [] m))

-- nothing has a lower stage than the first call
first_stage : (plan earlier : Planned) → Contains (planned small.script) plan → plan.call ≡ first_plan.call → Contains (planned small.script) earlier → earlier.stage < plan.stage → Contains (calls_of []) earlier.call
first_stage plan earlier h e k lower = go (plan_cases plan h)
  where
    lanes_differ : second_plan ≡ plan → ⊥
    lanes_differ p =
        let lanes : 1 ≡ 0 = subst (λ (q : Planned). q.call.lane ≡ 0) (sym p) (subst (λ (c : Call). c.lane ≡ 0) (sym e) refl) in
        omega (arith, lanes)

    go : (first_plan ≡ plan) ⊎ (second_plan ≡ plan) → Contains (calls_of []) earlier.call
    go (inl p) = absurd (not-below_zero (subst (λ (q : Planned). earlier.stage < q.stage) (sym p) lower))
    go (inr p) = absurd (lanes_differ p)

abbrev history_one : List Entry
history_one = record { call = first_plan.call; reply = Accepted 1 } ∷ []

-- only the first call has a lower stage than the second
second_stage : (plan earlier : Planned) → Contains (planned small.script) plan → plan.call ≡ second_plan.call → Contains (planned small.script) earlier → earlier.stage < plan.stage → Contains (calls_of history_one) earlier.call
second_stage plan earlier h e k lower = go (plan_cases earlier k) (plan_cases plan h)
  where
    here : first_plan ≡ earlier → Contains (calls_of history_one) earlier.call
    here p = subst (λ (q : Planned). Contains (calls_of history_one) q.call) p (Contains-first first_plan.call [])

    too_high : second_plan ≡ earlier → (first_plan ≡ plan) ⊎ (second_plan ≡ plan) → ⊥
    too_high p (inl q) = omega (arith, subst (λ (a : Planned). a.stage < plan.stage) (sym p) lower, subst (λ (b : Planned). b.stage ≡ 0) q refl)
    too_high p (inr q) = omega (arith, subst (λ (a : Planned). a.stage < plan.stage) (sym p) lower, subst (λ (b : Planned). b.stage ≡ 1) q refl)

    go : (first_plan ≡ earlier) ⊎ (second_plan ≡ earlier) → (first_plan ≡ plan) ⊎ (second_plan ≡ plan) → Contains (calls_of history_one) earlier.call
    go (inl p) q = here p
    go (inr p) q = absurd (too_high p q)

first_next : IsNextCall small.script [] first_plan.call
first_next = record { lane = omega arith; made = 0; so_far = refl; next = refl; stages = first_stage }

second_next : IsNextCall small.script history_one second_plan.call
second_next = record { lane = omega arith; made = 0; so_far = refl; next = refl; stages = second_stage }

small_legal : LegalSoFar small.script printed.history
unfolding digits
small_legal =
    let one : LegalSoFar small.script history_one = LegalSoFar-next small.script [] first_plan.call (LegalSoFar-none small.script) first_next in
    LegalSoFar-next small.script history_one second_plan.call one second_next

some-same : {X : Type 0} (x y : X) → Some x ≡ Some y → x ≡ y
some-same x y e = cc

none-some : {X : Type 0} (x : X) → None ≡ Some x → ⊥
none-some x e = cc

rising : IsNonDecreasing (1 ∷ 2 ∷ [])
rising zero zero d low high = omega arith
rising zero (suc zero) d low high = omega arith
rising zero (suc (suc j)) d low high = absurd (not-below_zero (let p : j < 0 = omega (arith, high) in p))
rising (suc i) zero d low high = absurd (not-below_zero (let p : i < 0 = omega (arith, low) in p))
rising (suc zero) (suc zero) d low high = omega arith
rising (suc zero) (suc (suc j)) d low high = absurd (not-below_zero (let p : j < 0 = omega (arith, high) in p))
rising (suc (suc i)) (suc zero) d low high = absurd (not-below_zero (let p : i < 0 = omega (arith, low) in p))
rising (suc (suc i)) (suc (suc j)) d low high = absurd (not-below_zero (let p : j < 0 = omega (arith, high) in p))

abbrev only_turn : ScriptCycle
only_turn = record { period = 4; is_freewheel = false; phase = 0 }

turns_are : turns small.script ≡ only_turn ∷ only_turn ∷ []
turns_are = refl

numbers_are : printed.numbers ≡ 1 ∷ 2 ∷ []
unfolding digits
numbers_are = refl

first_bounds : IsWithinPhase small.script printed.history only_turn 1
unfolding digits
first_bounds = (lit≤ tt, lit≤ tt)

second_bounds : IsWithinPhase small.script printed.history only_turn 2
unfolding digits
second_bounds = (lit≤ tt, lit≤ tt)

bounds : (k number : ℕ) (turn : ScriptCycle) → slice_get (1 ∷ 2 ∷ []) k ≡ Some number → slice_get (only_turn ∷ only_turn ∷ []) k ≡ Some turn → IsWithinPhase small.script printed.history turn number
bounds zero number turn n t =
    subst (λ m. IsWithinPhase small.script printed.history turn m) (some-same 1 number n)
    (subst (λ u. IsWithinPhase small.script printed.history u 1) (some-same only_turn turn t) first_bounds)
bounds (suc zero) number turn n t =
    subst (λ m. IsWithinPhase small.script printed.history turn m) (some-same 2 number n)
    (subst (λ u. IsWithinPhase small.script printed.history u 2) (some-same only_turn turn t) second_bounds)
bounds (suc (suc k)) number turn n t = absurd (none-some number n)

-- the second call asked for cycle 1, and stands behind the one change that it took
asked_second : slice_index (0 ∷ printed.numbers) 1 ≤ length (accepted (take 1 printed.history))
unfolding digits
asked_second = lit≤ tt

second_entry : Entry
second_entry = record { call = second_plan.call; reply = Accepted 2 }

asked_at : (i : ℕ) (entry : Entry) (plan : Planned) → slice_get (record { call = first_plan.call; reply = Accepted 1 } ∷ record { call = second_plan.call; reply = Accepted 2 } ∷ []) i ≡ Some entry
    → plan_of small.script entry.call ≡ Some plan → 1 ≤ plan.asked → slice_index (0 ∷ printed.numbers) plan.asked ≤ length (accepted (take i printed.history))
asked_at zero entry plan here found asks =
    let of_first : Some first_plan ≡ Some plan = subst (λ (e : Entry). plan_of small.script e.call ≡ Some plan) (sym (some-same _ entry here)) found in
    absurd (not-below_zero (subst (λ (p : Planned). 1 ≤ p.asked) (sym (some-same first_plan plan of_first)) asks))
asked_at (suc zero) entry plan here found asks =
    let of_second : Some second_plan ≡ Some plan = subst (λ (e : Entry). plan_of small.script e.call ≡ Some plan) (sym (some-same _ entry here)) found in
    subst (λ (p : Planned). slice_index (0 ∷ printed.numbers) p.asked ≤ length (accepted (take 1 printed.history))) (some-same second_plan plan of_second) asked_second
asked_at (suc (suc i)) entry plan here found asks = absurd (none-some entry here)

small_cycles : Cycles small.script printed.history printed.numbers
unfolding digits
small_cycles = record { each = refl; rising = rising; bounds = bounds; asked = asked_at }

abbrev written : Written
written = record {
  playback = playback_text small printed;
  records = [];
  report = report_text (course_of small printed) printed.history printed.overruns;
}

small_explained : Explained small printed written
unfolding digits
small_explained = record {
  legal = record { so_far = small_legal; every_call = refl };
  cycles = small_cycles;
  overruns = refl;
  records = refl;
  recorders = λ recorder below. absurd (not-below_zero below);
  underruns = refl;
  disks = λ disk below. absurd (not-below_zero below);
  playback = refl;
  report = refl;
}
