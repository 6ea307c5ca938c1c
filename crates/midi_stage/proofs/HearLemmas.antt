-- Merging one by one is what an input hears.
--     find-first, find-none      the first that passes, and none
--     heard-step      one connection more, into this input or not
--     inputs-more      one input more
--     filter-more      one element more, that passes or not
--     made-more      one element more that is made into another, or into none
use Rattle.std.proofs.Common.{◌≡◌, ℕ, zero, suc, ◌+◌, ◌<◌, Bool, true, false, cond, List, [], ◌∷◌, ◌++◌, length, map, filter, filter_map, take, get_or, find, Option, Some, None, refl, sym, ◌∙◌, ap, arith}
use Rattle.std.proofs.lemmas.List.{append-nil, map-append, take_more}
use Rattle.std.specs.List.{cons_option}
use Rattle.std.proofs.lemmas.List.Elements.{filter-append, filter_map-append}
use Rattle.jack_types.specs.declared.events.Event.{Event}
use Rattle.session_model.specs.Events.{merge}
use Rattle.session_model.specs.Samples.{below}
use Rattle.midi_ports.proofs.MergeLemmas.{merge-merge}

none_below : {n : ℕ} → n < 0 → ⊥
none_below p = omega arith

pub find-first : {X : Type 0} (p : X → Bool) (xs : List X) (i : ℕ) (d : X) → i < length xs → ((k : ℕ) → k < i → p (get_or xs k d) ≡ false) → p (get_or xs i d) ≡ true → find p xs ≡ Some (get_or xs i d)
find-first p [] i d h others here = absurd (none_below h)
find-first p (x ∷ xs) zero d h others here = ap (λ b. cond b (Some x) (find p xs)) here
find-first p (x ∷ xs) (suc i) d h others here =
    ap (λ b. cond b (Some x) (find p xs)) (others 0 (omega arith)) ∙ find-first p xs i d (omega (arith, h)) (λ k l. others (suc k) (omega (arith, l))) here

pub find-none : {X : Type 0} (p : X → Bool) (xs : List X) (d : X) → ((k : ℕ) → k < length xs → p (get_or xs k d) ≡ false) → find p xs ≡ None
find-none p [] d others = refl
find-none p (x ∷ xs) d others = ap (λ b. cond b (Some x) (find p xs)) (others 0 (omega arith)) ∙ find-none p xs d (λ k l. others (suc k) (omega (arith, l)))

-- one element more of those that pass
pub filter-more : {X : Type 0} (test : X → Bool) (xs : List X) (i : ℕ) (d : X) → i < length xs → filter test (take (i + 1) xs) ≡ filter test (take i xs) ++ cond (test (get_or xs i d)) (get_or xs i d ∷ []) []
filter-more test xs i d h = ap (filter test) (take_more xs i d h) ∙ filter-append test (take i xs) (get_or xs i d ∷ [])

module _ {X : Type 0} (test : X → Bool) (brought : X → List Event) (xs : List X) (i : ℕ) (d : X) (h : i < length xs) where
  heard-more : test (get_or xs i d) ≡ true → merge (merge (map brought (filter test (take i xs))) ∷ brought (get_or xs i d) ∷ []) ≡ merge (map brought (filter test (take (i + 1) xs)))
  heard-more t =
      merge-merge (map brought (filter test (take i xs))) (brought (get_or xs i d) ∷ [])
      ∙ ap merge (sym (map-append brought (filter test (take i xs)) (get_or xs i d ∷ [])))
      ∙ ap (λ (b : Bool). merge (map brought (filter test (take i xs) ++ cond b (get_or xs i d ∷ []) []))) (sym t)
      ∙ ap (λ (ys : List X). merge (map brought ys)) (sym (filter-more test xs i d h))

  heard-same : test (get_or xs i d) ≡ false → merge (map brought (filter test (take i xs))) ≡ merge (map brought (filter test (take (i + 1) xs)))
  heard-same t =
      ap (λ (ys : List X). merge (map brought ys))
      (sym (append-nil (filter test (take i xs)))
      ∙ ap (λ (b : Bool). filter test (take i xs) ++ cond b (get_or xs i d ∷ []) []) (sym t)
      ∙ sym (filter-more test xs i d h))

  pub heard-step : (out : List Event) → out ≡ merge (map brought (filter test (take i xs))) → cond (test (get_or xs i d)) (merge (out ∷ brought (get_or xs i d) ∷ [])) out ≡ merge (map brought (filter test (take (i + 1) xs)))
  heard-step out so_far = go (test (get_or xs i d)) refl
    where
      go : (b : Bool) → test (get_or xs i d) ≡ b → cond b (merge (out ∷ brought (get_or xs i d) ∷ [])) out ≡ merge (map brought (filter test (take (i + 1) xs)))
      go true t = ap (λ (events : List Event). merge (events ∷ brought (get_or xs i d) ∷ [])) so_far ∙ heard-more t
      go false t = so_far ∙ heard-same t

pub inputs-more : (heard : ℕ → List Event) (n : ℕ) → merge (merge (map heard (below n)) ∷ heard n ∷ []) ≡ merge (map heard (below (n + 1)))
inputs-more heard n =
    merge-merge (map heard (below n)) (heard n ∷ [])
    ∙ ap merge (sym (map-append heard (below n) (n ∷ [])))
    ∙ ap (λ k. merge (map heard (below k))) (let next : suc n ≡ n + 1 = omega arith in next)

-- one element more of those that are made into others, where that makes something
pub made-more : {X Y : Type 0} (f : X → Option Y) (xs : List X) (i : ℕ) (d : X) → i < length xs → filter_map f (take (i + 1) xs) ≡ filter_map f (take i xs) ++ cons_option (f (get_or xs i d)) []
made-more f xs i d h = ap (filter_map f) (take_more xs i d h) ∙ filter_map-append f (take i xs) (get_or xs i d ∷ [])
