-- Benches made for each `open` call of a script are enough for the clients that its calls open.
--     opened-few      changes open no more clients of kinds that pass a test than the script has calls that do
--     free-bench      a client that owns no bench finds one of its kind
use Rattle.std.proofs.Common.{◌≡◌, ◌≢◌, ℕ, zero, suc, ◌+◌, ◌≤◌, Bool, true, false, cond, List, [], ◌∷◌, length, map, filter, filter_map, count_by, slice_get, slice_index_or, Contains, Option, Some, None, unwrap_or, inl, inr, ◌⊎◌, refl, sym, ◌∙◌, ap, subst, arith, true≢false}
use Rattle.std.specs.List.{cons_option}
use Rattle.std.specs.List.Sorted.{IsPermutation}
use Rattle.std.specs.Option.{option_map_or}
use Rattle.std.proofs.lemmas.List.{length-map}
use Rattle.std.proofs.lemmas.List.Elements.{All-contains}
use Rattle.std.proofs.lemmas.List.Sorted.{sum_by-IsPermutation}
use Rattle.std.proofs.lemmas.List.Sums.{length-filter}
use Rattle.jack_types.specs.declared.commands.Call.{Call}
use Rattle.jack_types.specs.declared.commands.Change.{Change}
use Rattle.jack_types.specs.declared.commands.Command.{Command}
use Rattle.jack_types.specs.declared.kinds.Kind.{Kind}
use Rattle.driver_laws.specs.session_model.specs.Scripts.{Script, Planned, planned}
use Rattle.driver_laws.specs.session_model.specs.Soundness.{Apart}
use Rattle.driver_laws.specs.session_laws.proofs.CycleLemmas.{filter-passes}
use Rattle.driver_laws.specs.session_laws.proofs.ListLemmas.{Each, Each-from_contains, Each-weaker, Ordered, Ordered-filter}
use Rattle.driver_laws.specs.session_laws.proofs.PlaceLemmas.{filter-contains, filter-keeps}
use Rattle.driver_laws.specs.session_laws.proofs.SoundLemmas.{map-contains}
use Rattle.driver_laws.specs.session_laws.proofs.FilterLemmas.{count-cons, count-map_after}
use Rattle.driver_laws.specs.Keeping.{AreOfCalls}
use Rattle.task_laws.specs.Calls.{AreOwners, HasOpened, kind_opened, open_kinds, opens}
use Rattle.task_laws.proofs.PigeonLemmas.{pigeon, same_kind, same_kind-is, same_kind-itself}

ordered-apart : {X : Type 0} (xs : List X) → Apart (λ x. x) xs → Ordered (λ a b. a ≢ b) xs
ordered-apart [] h = tt
ordered-apart (x ∷ xs) h = (Each-from_contains (λ y. x ≢ y) xs (λ y m e. h.0 y m e), ordered-apart xs h.1)

count-filter_map : {X Y : Type 0} (test : Y → Bool) (f : X → Option Y) (xs : List X) → count_by test (filter_map f xs) ≡ count_by (λ x. option_map_or test (f x) false) xs
count-filter_map test f [] = refl
count-filter_map {X} {Y} test f (x ∷ xs) = go (f x) (count-filter_map test f xs) ∙ sym (count-cons (λ z. option_map_or test (f z) false) x xs)
  where
    go : (o : Option Y) → count_by test (filter_map f xs) ≡ count_by (λ z. option_map_or test (f z) false) xs
        → count_by test (cons_option o (filter_map f xs)) ≡ cond (option_map_or test o false) 1 0 + count_by (λ z. option_map_or test (f z) false) xs
    go None rest = omega (arith, rest)
    go (Some y) rest = count-cons test y (filter_map f xs) ∙ ap (λ n. cond (test y) 1 0 + n) rest

abbrev command_opens : (Kind → Bool) → Command → Bool
command_opens test command = option_map_or test (kind_opened command) false

abbrev call_opens : (Kind → Bool) → Call → Bool
call_opens test call = command_opens test call.command

pub opened-few : (script : Script) (changes : List Change) (test : Kind → Bool) → AreOfCalls script changes → count_by (opens test) changes ≤ count_by test (open_kinds script)
opened-few script changes test of =
    let by_command : count_by (command_opens test) (map (λ (change : Change). change.command) changes) ≡ count_by (opens test) changes = count-map_after (λ (change : Change). change.command) (command_opens test) changes in
    let by_call : count_by (command_opens test) (map (λ (call : Call). call.command) of.calls) ≡ count_by (call_opens test) of.calls = count-map_after (λ (call : Call). call.command) (command_opens test) of.calls in
    let same : count_by (command_opens test) (map (λ (call : Call). call.command) of.calls) ≡ count_by (command_opens test) (map (λ (change : Change). change.command) changes) = ap (count_by (command_opens test)) of.commands in
    let made : length (filter (call_opens test) of.calls) ≡ count_by (call_opens test) of.calls = length-filter (call_opens test) of.calls in
    let all : length (filter (call_opens test) calls) ≡ count_by (call_opens test) calls = length-filter (call_opens test) calls in
    let in_plan : count_by (call_opens test) calls ≡ count_by (λ (plan : Planned). call_opens test plan.call) (planned script) = count-map_after (λ (plan : Planned). plan.call) (call_opens test) (planned script) in
    let in_kinds : count_by test (open_kinds script) ≡ count_by (λ (plan : Planned). call_opens test plan.call) (planned script) = count-filter_map test (λ (plan : Planned). kind_opened plan.call.command) (planned script) in
    let fewer : length (filter (call_opens test) of.calls) ≤ length (filter (call_opens test) calls) =
    pigeon (filter (call_opens test) calls) (filter (call_opens test) of.calls) among (Ordered-filter (λ a b. a ≢ b) (call_opens test) of.calls (ordered-apart of.calls of.once)) in
    omega (arith, by_command, by_call, same, made, all, in_plan, in_kinds, fewer)
  where
    calls : List Call
    calls = map (λ (plan : Planned). plan.call) (planned script)

    among : Each (Contains (filter (call_opens test) calls)) (filter (call_opens test) of.calls)
    among = Each-from_contains (Contains (filter (call_opens test) calls)) (filter (call_opens test) of.calls)
        (λ call m. filter-keeps (call_opens test) calls call (All-contains (Contains calls) of.calls call of.planned_ones (filter-contains (call_opens test) of.calls call m)) (filter-passes (call_opens test) of.calls call m))

module _ (test : Kind → Bool) where
  abbrev births_on : List Kind → (ℕ → Option ℕ) → List ℕ
  births_on [] own = []
  births_on (kind ∷ kinds) own = cond (test kind) (unwrap_or (own 0) 0 ∷ births_on kinds (λ p. own (suc p))) (births_on kinds (λ p. own (suc p)))

  abbrev IsTaken : List Kind → (ℕ → Option ℕ) → Type 0
  IsTaken kinds own = (p : ℕ) (kind : Kind) → slice_get kinds p ≡ Some kind → test kind ≡ true → (birth : ℕ) × (own p ≡ Some birth)

  abbrev IsFree : List Kind → (ℕ → Option ℕ) → Type 0
  IsFree kinds own = (p : ℕ) × (kind : Kind) × (slice_get kinds p ≡ Some kind) × (test kind ≡ true) × (own p ≡ None)

  abbrev HasPlace : List Kind → (ℕ → Option ℕ) → ℕ → Type 0
  HasPlace kinds own birth = (p : ℕ) × (kind : Kind) × (slice_get kinds p ≡ Some kind) × (test kind ≡ true) × (own p ≡ Some birth)

  length-births : (kinds : List Kind) (own : ℕ → Option ℕ) → length (births_on kinds own) ≡ count_by test kinds
  length-births [] own = refl
  length-births (kind ∷ kinds) own = go (test kind) refl (length-births kinds (λ p. own (suc p)))
    where
      go : (b : Bool) → test kind ≡ b → length (births_on kinds (λ p. own (suc p))) ≡ count_by test kinds
          → length (cond b (unwrap_or (own 0) 0 ∷ births_on kinds (λ p. own (suc p))) (births_on kinds (λ p. own (suc p)))) ≡ count_by test (kind ∷ kinds)
      go true t rest = rw (count-cons test kind kinds, t) (omega (arith, rest))
      go false t rest = rw (count-cons test kind kinds, t) (omega (arith, rest))

  some-kind : (a b : Kind) → Some a ≡ Some b → a ≡ b
  some-kind a b e = cc

  none-kind : (a : Kind) → None ≡ Some a → ⊥
  none-kind a e = cc

  free-later : (kind : Kind) (kinds : List Kind) (own : ℕ → Option ℕ) → IsFree kinds (λ p. own (suc p)) → IsFree (kind ∷ kinds) own
  free-later kind kinds own w = (suc w.0, w.1, w.2, w.3, w.4)

  search-free : (kinds : List Kind) (own : ℕ → Option ℕ) → IsFree kinds own ⊎ IsTaken kinds own
  search-free [] own = inr (λ p kind e t. absurd (none-kind kind e))
  search-free (kind ∷ kinds) own = go (test kind) refl (own 0) refl (search-free kinds (λ p. own (suc p)))
    where
      go : (b : Bool) → test kind ≡ b → (o : Option ℕ) → own 0 ≡ o → IsFree kinds (λ p. own (suc p)) ⊎ IsTaken kinds (λ p. own (suc p)) → IsFree (kind ∷ kinds) own ⊎ IsTaken (kind ∷ kinds) own
      go true t None n rest = inl (0, kind, refl, t, n)
      go b t o n (inl w) = inl (free-later kind kinds own w)
      go true t (Some birth) n (inr h) = inr taken
        where
          taken : IsTaken (kind ∷ kinds) own
          taken zero other e f = (birth, n)
          taken (suc p) other e f = h p other e f
      go false t o n (inr h) = inr taken
        where
          taken : IsTaken (kind ∷ kinds) own
          taken zero other e f = absurd (true≢false (sym f ∙ ap test (sym (some-kind kind other e)) ∙ t))
          taken (suc p) other e f = h p other e f

  placed-later : (kind : Kind) (kinds : List Kind) (own : ℕ → Option ℕ) (birth : ℕ) → HasPlace kinds (λ p. own (suc p)) birth → HasPlace (kind ∷ kinds) own birth
  placed-later kind kinds own birth w = (suc w.0, w.1, w.2, w.3, w.4)

  its-birth : (o : Option ℕ) (birth : ℕ) → o ≡ Some birth → o ≡ Some (unwrap_or o 0)
  its-birth o birth e = e ∙ ap (λ p. Some (unwrap_or p 0)) (sym e)

  placed : (kinds : List Kind) (own : ℕ → Option ℕ) → IsTaken kinds own → Each (HasPlace kinds own) (births_on kinds own)
  placed [] own h = tt
  placed (kind ∷ kinds) own h = go (test kind) refl (Each-weaker (HasPlace kinds (λ p. own (suc p))) (HasPlace (kind ∷ kinds) own) (placed-later kind kinds own) (births_on kinds (λ p. own (suc p))) (placed kinds (λ p. own (suc p)) (λ p other e f. h (suc p) other e f)))
    where
      go : (b : Bool) → test kind ≡ b → Each (HasPlace (kind ∷ kinds) own) (births_on kinds (λ p. own (suc p)))
          → Each (HasPlace (kind ∷ kinds) own) (cond b (unwrap_or (own 0) 0 ∷ births_on kinds (λ p. own (suc p))) (births_on kinds (λ p. own (suc p))))
      go true t rest = let first = h 0 kind refl t in ((0, kind, refl, t, its-birth (own 0) first.0 first.1), rest)
      go false t rest = rest

  distinct-births : (kinds : List Kind) (own : ℕ → Option ℕ) → IsTaken kinds own → ((p q birth : ℕ) → own p ≡ Some birth → own q ≡ Some birth → p ≡ q) → Ordered (λ a b. a ≢ b) (births_on kinds own)
  distinct-births [] own h apart = tt
  distinct-births (kind ∷ kinds) own h apart =
      go (test kind) refl (placed kinds (λ p. own (suc p)) later) (distinct-births kinds (λ p. own (suc p)) later (λ p q birth e f. one-less p q (apart (suc p) (suc q) birth e f)))
    where
      later : IsTaken kinds (λ p. own (suc p))
      later p other e f = h (suc p) other e f

      one-less : (p q : ℕ) → suc p ≡ suc q → p ≡ q
      one-less p q e = omega (arith, e)

      not-first : (p : ℕ) → 0 ≡ suc p → ⊥
      not-first p e = omega (arith, e)

      go : (b : Bool) → test kind ≡ b → Each (HasPlace kinds (λ p. own (suc p))) (births_on kinds (λ p. own (suc p))) → Ordered (λ a b. a ≢ b) (births_on kinds (λ p. own (suc p)))
          → Ordered (λ a b. a ≢ b) (cond b (unwrap_or (own 0) 0 ∷ births_on kinds (λ p. own (suc p))) (births_on kinds (λ p. own (suc p))))
      go true t each rest =
          let first = h 0 kind refl t in (
            Each-weaker (HasPlace kinds (λ p. own (suc p))) (λ birth. unwrap_or (own 0) 0 ≢ birth)
                (λ birth w e. not-first w.0 (apart 0 (suc w.0) birth (its-birth (own 0) first.0 first.1 ∙ ap Some e) w.4)) (births_on kinds (λ p. own (suc p))) each,
            rest,
          )
      go false t each rest = rest

pub free-bench : (script : Script) (changes : List Change) (kinds : List Kind) (owners : List (Option ℕ)) (kind : Kind) (birth : ℕ) → AreOfCalls script changes → IsPermutation (open_kinds script) kinds
    → AreOwners changes kinds owners → HasOpened changes birth kind → ((p : ℕ) → slice_index_or owners p None ≡ Some birth → ⊥)
    → (p : ℕ) × (slice_get kinds p ≡ Some kind) × (slice_index_or owners p None ≡ None)
free-bench script changes kinds owners kind birth of moved are opened fresh = go (search-free test kinds own)
  where
    test : Kind → Bool
    test = same_kind kind

    own : ℕ → Option ℕ
    own p = slice_index_or owners p None

    numbers : List ℕ
    numbers = map (λ (change : Change). change.number) (filter (opens test) changes)

    numbered : (one : ℕ) (other : Kind) → HasOpened changes one other → test other ≡ true → Contains numbers one
    numbered one other w t = subst (Contains numbers) w.2 (map-contains (λ (change : Change). change.number) (filter (opens test) changes) w.0
        (filter-keeps (opens test) changes w.0 w.1 (ap (λ (o : Option Kind). option_map_or test o false) w.3 ∙ t)))

    go : IsFree test kinds own ⊎ IsTaken test kinds own → (p : ℕ) × (slice_get kinds p ≡ Some kind) × (slice_index_or owners p None ≡ None)
    go (inl w) = (w.0, w.2 ∙ ap Some (sym (same_kind-is kind w.1 w.3)), w.4)
    go (inr h) =
        let each : Each (HasPlace test kinds own) (births_on test kinds own) = placed test kinds own h in
        let among : Each (Contains numbers) (births_on test kinds own) = Each-weaker (HasPlace test kinds own) (Contains numbers) (λ one w. numbered one w.1 (are.opened w.0 one w.1 w.4 w.2) w.3) (births_on test kinds own) each in
        let others : Each (λ one. birth ≢ one) (births_on test kinds own) = Each-weaker (HasPlace test kinds own) (λ one. birth ≢ one) (λ one w e. fresh w.0 (w.4 ∙ ap Some (sym e))) (births_on test kinds own) each in
        let more : length (birth ∷ births_on test kinds own) ≤ length numbers =
        pigeon numbers (birth ∷ births_on test kinds own) (numbered birth kind opened (same_kind-itself kind), among) (others, distinct-births test kinds own h are.apart) in
        let all : length (births_on test kinds own) ≡ count_by test kinds = length-births test kinds own in
        let in_changes : length numbers ≡ length (filter (opens test) changes) = length-map (filter (opens test) changes) (λ (change : Change). change.number) in
        let counted : length (filter (opens test) changes) ≡ count_by (opens test) changes = length-filter (opens test) changes in
        let few : count_by (opens test) changes ≤ count_by test (open_kinds script) = opened-few script changes test of in
        let same : count_by test kinds ≡ count_by test (open_kinds script) = sum_by-IsPermutation (λ one. cond (test one) 1 0) (open_kinds script) kinds moved in
        absurd (omega (arith, more, all, in_changes, counted, few, same))
