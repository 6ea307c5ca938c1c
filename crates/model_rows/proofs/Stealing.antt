-- What a deque holds where its holders pushed and took these numbers.
use Rattle.std.proofs.Common.{◌≡◌, ℕ, List, [], ◌∷◌, ◌++◌, length, drop, cond, nat_eq, sum_by, refl, sym, ap, ◌∙◌, arith}
use Rattle.std.proofs.lemmas.List.Sums.{sum_by-cons, sum_by-append}
use mathlib.Core.Option.{some-injective}
use lib.Seq.{drop-append_seam}
use Rattle.steal_workers.specs.declared.tallies.Tally.{Tally}
use Rattle.steal_workers.specs.Tallies.{IsDeque, HasAll, IsEven, every_part, tally, with_pushed, with_taken, without_part, with_part}
use Rattle.model_rows.proofs.Pairs.{each_of_two}

ones : (xs : List ℕ) → sum_by (λ (x : ℕ). 1) xs ≡ length xs
ones [] = refl
ones (x ∷ xs) = omega (arith, sum_by-cons (λ (x : ℕ). 1) x xs, ones xs)

-- where so many are gone, the deque holds the others
the_others : (n : ℕ) (pushed gone items : List ℕ) → length gone ≡ n → pushed ≡ gone ++ items → items ≡ drop n pushed
the_others n pushed gone items long order = sym (ap (λ (k : ℕ). drop k pushed) (sym long) ∙ ap (drop (length gone)) order ∙ drop-append_seam gone items)

-- the owner pushed 7, 8 and 9, and gave a part away
abbrev pushing : Tally
pushing = without_part (with_pushed (tally every_part [] []) (7 ∷ 8 ∷ 9 ∷ []))

-- then it popped 8
abbrev owner : Tally
owner = with_taken pushing (8 ∷ [])

-- the thief, with the part, stole 7
abbrev thief : Tally
thief = with_taken (tally 1 [] []) (7 ∷ [])

-- what the owner then knows
owner_is : owner ≡ tally 31 (7 ∷ 8 ∷ 9 ∷ []) (8 ∷ [])
owner_is = refl

-- 9 is left
holds_nine : IsDeque (9 ∷ []) (owner ∷ thief ∷ [])
holds_nine = record {
  gone = 7 ∷ 8 ∷ [];
  in_order = λ first at. ap (λ (v : Tally). v.pushed) (sym (some-injective owner first at));
  taken = λ weight. omega arith;
  parts = refl;
  partless = each_of_two (λ j (v : Tally). v.parts ≡ 0 → v.taken ≡ []) owner thief (λ none. absurd (omega (arith, none))) (λ none. absurd (omega (arith, none)));
}

-- and nothing else can be
only_nine : (items : List ℕ) → IsDeque items (owner ∷ thief ∷ []) → items ≡ 9 ∷ []
only_nine items h =
    let two : 2 ≡ sum_by (λ (x : ℕ). 1) h.gone = h.taken (λ (x : ℕ). 1) in
    the_others 2 (7 ∷ 8 ∷ 9 ∷ []) h.gone items (omega (arith, two, ones h.gone)) (h.in_order owner refl)

-- 8, which was popped, is no longer in it
not_eight_and_nine : IsDeque (8 ∷ 9 ∷ []) (owner ∷ thief ∷ []) → ⊥
not_eight_and_nine h = let long = ap length (only_nine (8 ∷ 9 ∷ []) h) in omega (arith, long)

-- nor is 7, which was stolen
not_nine_and_seven : IsDeque (9 ∷ 7 ∷ []) (owner ∷ thief ∷ []) → ⊥
not_nine_and_seven h = let long = ap length (only_nine (9 ∷ 7 ∷ []) h) in omega (arith, long)

-- how often 8 is in a list, as a weight
abbrev eight : ℕ → ℕ
eight x = cond (nat_eq x 8) 1 0

-- 8 was pushed once, and both took it
taken_twice : (items : List ℕ) → IsDeque items (owner ∷ with_taken (tally 1 [] []) (8 ∷ []) ∷ []) → ⊥
taken_twice items h =
    let pushed : 1 ≡ sum_by eight (h.gone ++ items) = ap (sum_by eight) (h.in_order owner refl) in
    let taken : 2 ≡ sum_by eight h.gone = h.taken eight in
    omega (arith, pushed, taken, sum_by-append eight h.gone items)

-- 7 was taken by a holder that has no part
taken_without_part : (items : List ℕ) → IsDeque items (tally every_part (7 ∷ 8 ∷ 9 ∷ []) (8 ∷ []) ∷ tally 0 [] (7 ∷ []) ∷ []) → ⊥
taken_without_part items h = let long = ap length (h.partless 1 (tally 0 [] (7 ∷ [])) refl refl) in omega (arith, long)

-- the owner popped 8 and 9, and got the thief's part back
abbrev whole : Tally
whole = with_part (with_taken pushing (8 ∷ 9 ∷ [])) thief

-- what it then knows
whole_is : whole ≡ tally 32 (7 ∷ 8 ∷ 9 ∷ []) (8 ∷ 9 ∷ 7 ∷ [])
whole_is = refl

-- that is all, and each number was taken as often as it was pushed
has_all : HasAll whole
has_all = refl

is_even : IsEven whole
is_even weight = omega arith

-- the thief, whose part is gone
abbrev spent : Tally
spent = tally 0 [] []

-- nothing is left
holds_nothing : IsDeque [] (whole ∷ spent ∷ [])
holds_nothing = record {
  gone = 7 ∷ 8 ∷ 9 ∷ [];
  in_order = λ first at. ap (λ (v : Tally). v.pushed) (sym (some-injective whole first at));
  taken = λ weight. omega arith;
  parts = refl;
  partless = each_of_two (λ j (v : Tally). v.parts ≡ 0 → v.taken ≡ []) whole spent (λ none. absurd (omega (arith, none))) (λ none. refl);
}

-- and nothing can be
only_nothing : (items : List ℕ) → IsDeque items (whole ∷ spent ∷ []) → items ≡ []
only_nothing items h =
    let three : 3 ≡ sum_by (λ (x : ℕ). 1) h.gone = h.taken (λ (x : ℕ). 1) in
    the_others 3 (7 ∷ 8 ∷ 9 ∷ []) h.gone items (omega (arith, three, ones h.gone)) (h.in_order whole refl)
