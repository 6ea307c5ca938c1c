-- Joins, range by range.
--     joined_step, joined_skip      one element more of those that are gone over
--     joined_or_none      the join of the ranges, (0, 0) of none
--     find-first, find-not_yet      the first that passes, or none so far
--     joined-most      a join is no later than the latest
use Rattle.std.proofs.Common.{append-nil, get_or, find, ◌≡◌, ℕ, zero, suc, ◌+◌, ◌<◌, ◌≤◌, min, max, Bool, true, false, cond, List, [], ◌∷◌, ◌++◌, length, map, filter, take, Some, None, refl, ◌∙◌, ap, arith}
use Rattle.std.proofs.lemmas.List.{map-append, take_more}
use Rattle.std.proofs.lemmas.List.Elements.{filter-append}
use Rattle.jack_types.specs.declared.ports.Delay.{Delay}
use Rattle.jack_types.specs.declared.ports.Edge.{Edge}
use Rattle.jack_types.specs.declared.ports.Mark.TheVariants.{Direct}
use Rattle.jack_types.specs.declared.ports.Node.TheVariants.{Capture}
use Rattle.jack_types.specs.declared.ports.Range.{Range}
use Rattle.session_model.specs.Latencies.{joined}
use Rattle.session_laws.proofs.ListLemmas.{Each}
use Rattle.latency_ranges.specs.Tables.{join_of, join_with, or_none}

min-min : (a b c : ℕ) → min a (min b c) ≡ min (min a b) c
min-min a b c = omega arith

max-max : (a b c : ℕ) → max a (max b c) ≡ max (max a b) c
max-max a b c = omega arith

joined-more : (range : Range) (ranges : List Range) (next : Range) → joined (range ∷ (ranges ++ next ∷ [])) ≡ join_with (Some (joined (range ∷ ranges))) next
joined-more range [] next = refl
joined-more range (other ∷ ranges) next =
    ap (λ (others : Range). record { min = min range.min others.min; max = max range.max others.max }) (joined-more other ranges next)
    ∙ (λ i. record { min = min-min range.min (joined (other ∷ ranges)).min next.min i; max = max-max range.max (joined (other ∷ ranges)).max next.max i })

join_of-more : (ranges : List Range) (next : Range) → join_of (ranges ++ next ∷ []) ≡ Some (join_with (join_of ranges) next)
join_of-more [] next = refl
join_of-more (range ∷ ranges) next = ap Some (joined-more range ranges next)

pub joined_or_none : (ranges : List Range) → or_none (join_of ranges) ≡ joined ranges
joined_or_none [] = refl
joined_or_none (range ∷ ranges) = refl

module _ {X : Type 0} (range : X → Range) (test : X → Bool) (xs : List X) (i : ℕ) (d : X) (within : i < length xs) where
  gone_over : filter test (take (i + 1) xs) ≡ filter test (take i xs) ++ filter test (get_or xs i d ∷ [])
  gone_over = ap (filter test) (take_more xs i d within) ∙ filter-append test (take i xs) (get_or xs i d ∷ [])

  pub joined_step : test (get_or xs i d) ≡ true → join_of (map range (filter test (take (i + 1) xs))) ≡ Some (join_with (join_of (map range (filter test (take i xs)))) (range (get_or xs i d)))
  joined_step t =
      ap (λ ys. join_of (map range ys)) (gone_over ∙ ap (λ b. filter test (take i xs) ++ cond b (get_or xs i d ∷ []) []) t)
      ∙ ap join_of (map-append range (filter test (take i xs)) (get_or xs i d ∷ []))
      ∙ join_of-more (map range (filter test (take i xs))) (range (get_or xs i d))

  pub joined_skip : test (get_or xs i d) ≡ false → join_of (map range (filter test (take (i + 1) xs))) ≡ join_of (map range (filter test (take i xs)))
  joined_skip t =
      ap (λ ys. join_of (map range ys)) (gone_over ∙ ap (λ b. filter test (take i xs) ++ cond b (get_or xs i d ∷ []) []) t ∙ append-nil (filter test (take i xs)))

-- an edge for the places past the end
abbrev pub no_edge : Edge
no_edge = record { source = record { 0 = 0 }; destination = record { 0 = 0 }; mark = Direct }

module _ {X : Type 0} (test : X → Bool) where
  some_none : (x : X) → Some x ≡ None → ⊥
  some_none x e = cc

  find-behind : (xs ys : List X) → find test xs ≡ None → find test (xs ++ ys) ≡ find test ys
  find-behind [] ys h = refl
  find-behind (x ∷ xs) ys h = go (test x) h (find-behind xs ys)
    where
      go : (b : Bool) → cond b (Some x) (find test xs) ≡ None → (find test xs ≡ None → find test (xs ++ ys) ≡ find test ys) → cond b (Some x) (find test (xs ++ ys)) ≡ find test ys
      go true e rest = absurd (some_none x e)
      go false e rest = rest e

  pub find-first : (xs : List X) (i : ℕ) (d : X) → i < length xs → find test (take i xs) ≡ None → test (get_or xs i d) ≡ true → find test xs ≡ Some (get_or xs i d)
  find-first [] i d h none t = absurd (omega (arith, h))
  find-first (x ∷ xs) zero d h none t = ap (λ b. cond b (Some x) (find test xs)) t
  find-first (x ∷ xs) (suc i) d h none t = go (test x) none (λ n. find-first xs i d (omega (arith, h)) n t)
    where
      go : (b : Bool) → cond b (Some x) (find test (take i xs)) ≡ None → (find test (take i xs) ≡ None → find test xs ≡ Some (get_or xs i d)) → cond b (Some x) (find test xs) ≡ Some (get_or xs i d)
      go true e rest = absurd (some_none x e)
      go false e rest = rest e

  pub find-not_yet : (xs : List X) (i : ℕ) (d : X) → i < length xs → find test (take i xs) ≡ None → test (get_or xs i d) ≡ false → find test (take (i + 1) xs) ≡ None
  find-not_yet xs i d h none f =
      ap (find test) (take_more xs i d h) ∙ find-behind (take i xs) (get_or xs i d ∷ []) none ∙ ap (λ b. cond b (Some (get_or xs i d)) None) f

-- a delay for the places past the end
abbrev pub no_delay : Delay
no_delay = record { node = Capture; frames = 0 }

-- no later than so many frames
pub record IsUpTo (limit : ℕ) (range : Range) : Type 0 where
  pub least : range.min ≤ limit
  pub most : range.max ≤ limit

pub joined-most : (limit : ℕ) (ranges : List Range) → Each (IsUpTo limit) ranges → IsUpTo limit (joined ranges)
joined-most limit [] h = record { least = omega arith; most = omega arith }
joined-most limit (range ∷ []) h = h.0
joined-most limit (range ∷ next ∷ ranges) h =
    let others : IsUpTo limit (joined (next ∷ ranges)) = joined-most limit (next ∷ ranges) h.1 in
    record { least = omega (arith, h.0.least, others.least); most = omega (arith, h.0.most, others.most) }
