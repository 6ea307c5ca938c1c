-- How many calls are accepted, and how many each lane has.
use Rattle.std.proofs.Common.{◌≡◌, ℕ, zero, suc, ◌+◌, ◌≤◌, cond, ◌==◌, count_by, List, [], ◌∷◌, ◌++◌, length, length-append, take, Option, Some, None, ne_eqb, refl, ◌∙◌, ap, arith}
use Rattle.std.proofs.lemmas.List.Elements.{filter_map-append}
use Rattle.std.proofs.lemmas.List.Sums.{sum_by-cons}
use Rattle.jack_types.specs.declared.commands.Change.{Change}
use Rattle.jack_types.specs.declared.replies.Entry.{Entry}
use Rattle.session_model.specs.Histories.{accepted, change_of}
use Rattle.session_laws.proofs.ListLemmas.{Each}

pub accepted-push : (history : List Entry) (entry : Entry) → accepted (history ++ entry ∷ []) ≡ accepted history ++ accepted (entry ∷ [])
accepted-push history entry = filter_map-append change_of history (entry ∷ [])

abbrev pub five : (ℕ → ℕ) → ℕ
five count = count 0 + count 1 + count 2 + count 3 + count 4

pub one-of_five : (lane : ℕ) → lane ≤ 4 → five (λ k. cond (lane == k) 1 0) ≡ 1
one-of_five zero h = refl
one-of_five (suc zero) h = refl
one-of_five (suc (suc zero)) h = refl
one-of_five (suc (suc (suc zero))) h = refl
one-of_five (suc (suc (suc (suc zero)))) h = refl
one-of_five (suc (suc (suc (suc (suc lane))))) h = absurd (omega (arith, h))

pub lanes-length : {X : Type 0} (lane : X → ℕ) (xs : List X) → Each (λ x. lane x ≤ 4) xs → length xs ≡ five (λ k. count_by (λ x. lane x == k) xs)
lanes-length lane [] h = refl
lanes-length {X} lane (x ∷ xs) h =
    let rest : length xs ≡ five (λ k. count_by (λ y. lane y == k) xs) = lanes-length lane xs h.1 in
    let one : five (λ k. cond (lane x == k) 1 0) ≡ 1 = one-of_five (lane x) h.0 in
    let c0 = more 0 in let c1 = more 1 in let c2 = more 2 in let c3 = more 3 in let c4 = more 4 in
    omega (arith, rest, one, c0, c1, c2, c3, c4)
  where
    more : (k : ℕ) → count_by (λ y. lane y == k) (x ∷ xs) ≡ cond (lane x == k) 1 0 + count_by (λ y. lane y == k) xs
    more k = sum_by-cons (λ y. cond (lane y == k) 1 0) x xs

pub count-lanes : {X : Type 0} (lane : X → ℕ) (xs : List X) → five (λ k. count_by (λ x. lane x == k) xs) ≤ length xs
count-lanes lane [] = omega arith
count-lanes {X} lane (x ∷ xs) =
    let rest = count-lanes lane xs in
    let c0 = more 0 in let c1 = more 1 in let c2 = more 2 in let c3 = more 3 in let c4 = more 4 in
    omega (arith, rest, small (lane x), c0, c1, c2, c3, c4)
  where
    more : (k : ℕ) → count_by (λ y. lane y == k) (x ∷ xs) ≡ cond (lane x == k) 1 0 + count_by (λ y. lane y == k) xs
    more k = sum_by-cons (λ y. cond (lane y == k) 1 0) x xs

    small : (l : ℕ) → five (λ k. cond (l == k) 1 0) ≤ 1
    small zero = omega arith
    small (suc zero) = omega arith
    small (suc (suc zero)) = omega arith
    small (suc (suc (suc zero))) = omega arith
    small (suc (suc (suc (suc zero)))) = omega arith
    small (suc (suc (suc (suc (suc l))))) =
        let n0 = none 0 (omega arith) in let n1 = none 1 (omega arith) in let n2 = none 2 (omega arith) in let n3 = none 3 (omega arith) in let n4 = none 4 (omega arith) in
        omega (arith, n0, n1, n2, n3, n4)
      where
        none : (k : ℕ) → k ≤ 4 → ◌≡◌ {A = ℕ} (cond (suc (suc (suc (suc (suc l)))) == k) 1 0) 0
        none k low = ap (λ b. cond b 1 0) (ne_eqb (suc (suc (suc (suc (suc l))))) k (λ e. above k low e))
          where
            above : (k : ℕ) → k ≤ 4 → suc (suc (suc (suc (suc l)))) ≡ k → ⊥
            above k low e = omega (arith, low, e)

pub take-short : {X : Type 0} (n : ℕ) (xs : List X) → length (take n xs) ≤ length xs
take-short zero xs = omega arith
take-short (suc n) [] = omega arith
take-short (suc n) (x ∷ xs) = let rest = take-short n xs in omega (arith, rest)

pub accepted-length : (history : List Entry) → length (accepted history) ≤ length history
accepted-length [] = omega arith
accepted-length (entry ∷ history) =
    let whole : length (accepted (entry ∷ history)) ≡ length (accepted (entry ∷ [])) + length (accepted history) = ap length (filter_map-append change_of (entry ∷ []) history) ∙ length-append (accepted (entry ∷ [])) (accepted history) in
    let rest = accepted-length history in
    let small = one (change_of entry) refl in
    omega (arith, whole, rest, small)
  where
    one : (o : Option Change) → change_of entry ≡ o → length (accepted (entry ∷ [])) ≤ 1
    one None e = rw e (omega arith)
    one (Some change) e = rw e (omega arith)
