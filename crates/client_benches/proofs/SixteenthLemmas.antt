-- Sums of no more than eight samples, clamped by what is left of them in 32 bits and the sum of their sixteenths.
--     sixteenths-near      sixteen times the sixteenths is the sum, but for less than 16 a number
--     clamped-sixteenths      the clamp of the sum
--     wrapped-turns      what is left of a number in 32 bits
--     clamp-of-over      the three outcomes of a test
--     wrapped-alone, wrapped-more      what is left of a sum of one number, and with one more
use Rattle.std.proofs.Common.{◌≡◌, ℕ, ◌+◌, ◌*◌, ◌-◌, ◌/◌, ◌%◌, ◌<◌, ◌≤◌, Bool, true, false, List, [], ◌∷◌, ◌++◌, length, map, fold, ℤ, pos, negsuc, ◌+ℤ◌, ◌-ℤ◌, ◌*ℤ◌, ◌≤ℤ◌, ◌<ℤ◌, refl, sym, ap, subst, ◌∙◌, arith, to_z}
use Rattle.std.specs.Int.{w32, int_shr, int_wrap}
use Rattle.std.specs.Prelude.{FitsSigned, if◌then◌else◌, int_lt, nat_lt}
use Rattle.std.proofs.lemmas.Bool.{ltb-false, ltb-true}
use Rattle.std.proofs.lemmas.Int.{ints, int_wrap_fits, int_wrap-add_left}
use Rattle.std.proofs.lemmas.List.Sums.{fold-append}
use Rattle.activation.specs.session_model.specs.Samples.{clamp, total}
use Rattle.client_benches.specs.Sixteenths.{IsNear, settled_by, sixteenths}

-- ---- sixteenths

-- a sixteenth, rounded down
pub sixteenth-near : (x : ℤ) → IsNear (int_shr x 4) x 15
sixteenth-near (pos n) = record { least = omega (arith, ints); most = omega (arith, ints) }
sixteenth-near (negsuc n) = record { least = omega (arith, ints); most = omega (arith, ints) }

near-more : (a b x q : ℤ) (m n : ℕ) → IsNear a b m → IsNear q x 15 → n ≡ m + 15 → IsNear (a +ℤ q) (b +ℤ x) n
near-more a b x q m n before one is = record { least = omega (arith, ints); most = omega (arith, ints) }

near : (a b : ℤ) (m n : ℕ) (xs : List ℤ) → IsNear a b m → n ≡ m + 15 * length xs → IsNear (fold ◌+ℤ◌ a (map (λ x. int_shr x 4) xs)) (fold ◌+ℤ◌ b xs) n
near a b m n [] before is = record { least = omega (arith, ints); most = omega (arith, ints) }
near a b m n (x ∷ xs) before is = near (a +ℤ int_shr x 4) (b +ℤ x) (m + 15) n xs (near-more a b x (int_shr x 4) m (m + 15) before (sixteenth-near x) refl) (omega arith)

near-wider : (a b : ℤ) (m n : ℕ) → IsNear a b m → m ≤ n → IsNear a b n
near-wider a b m n h le = record { least = omega (arith, ints); most = omega (arith, ints) }

pub sixteenths-near : (xs : List ℤ) → length xs ≤ 8 → IsNear (sixteenths xs) (total xs) 120
sixteenths-near xs few =
    near-wider (sixteenths xs) (total xs) (15 * length xs) 120
    (near (pos 0) (pos 0) 0 (15 * length xs) xs (record { least = omega (arith, ints); most = omega (arith, ints) }) (omega arith)) (omega arith)

-- ---- the clamp of a number by its size

clamp-most : (x : ℤ) → pos 2147483647 ≤ℤ x → clamp x ≡ pos 2147483647
clamp-most (pos n) h = grind (arith, ints)
clamp-most (negsuc n) h = absurd (omega (arith, ints))

clamp-least : (x : ℤ) → x ≤ℤ negsuc 2147483647 → clamp x ≡ negsuc 2147483647
clamp-least (pos n) h = absurd (omega (arith, ints))
clamp-least (negsuc n) h = grind (arith, ints)

clamp-within : (x : ℤ) → FitsSigned w32 x → clamp x ≡ x
clamp-within (pos n) fits = grind (arith, ints)
clamp-within (negsuc n) fits = grind (arith, ints)

-- ---- a number that is so many turns away from a rest in 32 bits: how far that rest's sixteenths are above those of the number

module _ (x low high turns q : ℤ) (fits : FitsSigned w32 low) (is : x ≡ low +ℤ (turns *ℤ pos 4294967296)) (whole : IsNear high x 120) (rest : IsNear q low 15) where
  over-least : pos 7 <ℤ (q -ℤ high) → clamp x ≡ negsuc 2147483647
  over-least above =
      let far : turns ≤ℤ negsuc 0 = omega (arith, ints) in
      clamp-least x (omega (arith, ints))

  over-most : (q -ℤ high) <ℤ pos 0 → clamp x ≡ pos 2147483647
  over-most below =
      let far : pos 1 ≤ℤ turns = omega (arith, ints) in
      clamp-most x (omega (arith, ints))

  over-none : (q -ℤ high) ≤ℤ pos 7 → pos 0 ≤ℤ (q -ℤ high) → clamp x ≡ low
  over-none most least =
      let same : x ≡ low = omega (arith, ints) in
      ap clamp same ∙ clamp-within low fits

-- ---- what wraps away are turns

upper : (n : ℕ) → 2147483648 ≤ n → n < 4294967296 → to_z w32 n ≡ negsuc (4294967295 - n)
upper n above below = grind (arith, ints)

wrapped-pos : (n : ℕ) → (turns : ℤ) × (pos n ≡ to_z w32 (n % 4294967296) +ℤ (turns *ℤ pos 4294967296))
wrapped-pos n = at (nat_lt (n % 4294967296) 2147483648) refl
  where
    at : (b : Bool) → nat_lt (n % 4294967296) 2147483648 ≡ b → (turns : ℤ) × (pos n ≡ to_z w32 (n % 4294967296) +ℤ (turns *ℤ pos 4294967296))
    at true e = (pos (n / 4294967296), let low : n % 4294967296 < 2147483648 = ltb-true (n % 4294967296) 2147483648 e in omega (arith, ints))
    at false e = (pos (n / 4294967296 + 1), let high : 2147483648 ≤ n % 4294967296 = ltb-false (n % 4294967296) 2147483648 e in let is : to_z w32 (n % 4294967296) ≡ negsuc (4294967295 - n % 4294967296) = upper (n % 4294967296) high (omega arith) in omega (arith, ints))

wrapped-negsuc : (n : ℕ) → (turns : ℤ) × (negsuc n ≡ to_z w32 (4294967295 - n % 4294967296) +ℤ (turns *ℤ pos 4294967296))
wrapped-negsuc n = at (nat_lt (4294967295 - n % 4294967296) 2147483648) refl
  where
    at : (b : Bool) → nat_lt (4294967295 - n % 4294967296) 2147483648 ≡ b → (turns : ℤ) × (negsuc n ≡ to_z w32 (4294967295 - n % 4294967296) +ℤ (turns *ℤ pos 4294967296))
    at true e = (negsuc (n / 4294967296), let low : 4294967295 - n % 4294967296 < 2147483648 = ltb-true (4294967295 - n % 4294967296) 2147483648 e in omega (arith, ints))
    at false e = (pos 0 -ℤ pos (n / 4294967296), let high : 2147483648 ≤ 4294967295 - n % 4294967296 = ltb-false (4294967295 - n % 4294967296) 2147483648 e in let is : to_z w32 (4294967295 - n % 4294967296) ≡ negsuc (4294967295 - (4294967295 - n % 4294967296)) = upper (4294967295 - n % 4294967296) high (omega arith) in omega (arith, ints))

pub wrapped-turns : (x : ℤ) → (turns : ℤ) × (x ≡ int_wrap w32 x +ℤ (turns *ℤ pos 4294967296))
unfolding int_wrap
wrapped-turns (pos n) = wrapped-pos n
wrapped-turns (negsuc n) = wrapped-negsuc n

zero-first : (x : ℤ) → pos 0 +ℤ x ≡ x
zero-first x = omega (arith, ints)

pub wrapped-alone : (x : ℤ) → FitsSigned w32 x → x ≡ int_wrap w32 (total (x ∷ []))
wrapped-alone x fits = sym (ap (int_wrap w32) (zero-first x) ∙ int_wrap_fits w32 x fits)

pub wrapped-more : (xs : List ℤ) (x low : ℤ) → low ≡ int_wrap w32 (total xs) → int_wrap w32 (low +ℤ x) ≡ int_wrap w32 (total (xs ++ x ∷ []))
wrapped-more xs x low is =
    ap (λ y. int_wrap w32 (y +ℤ x)) is
    ∙ int_wrap-add_left w32 (total xs) x
    ∙ ap (int_wrap w32) (sym (fold-append ◌+ℤ◌ (pos 0) xs (x ∷ [])))

-- ---- the sum of no more than eight samples

module _ (xs : List ℤ) (low : ℤ) (few : length xs ≤ 8) (fits : FitsSigned w32 low) (is : low ≡ int_wrap w32 (total xs)) (q high : ℤ) (q_is : q ≡ int_shr low 4) (high_is : high ≡ sixteenths xs) where
  turns : (turns : ℤ) × (total xs ≡ low +ℤ (turns *ℤ pos 4294967296))
  turns = let wrapped = wrapped-turns (total xs) in (wrapped.0, wrapped.1 ∙ ap (λ y. y +ℤ (wrapped.0 *ℤ pos 4294967296)) (sym is))

  whole : IsNear high (total xs) 120
  whole = subst (λ y. IsNear y (total xs) 120) (sym high_is) (sixteenths-near xs few)

  rest : IsNear q low 15
  rest = subst (λ y. IsNear y low 15) (sym q_is) (sixteenth-near low)

  pub sum-least : pos 7 <ℤ (q -ℤ high) → negsuc 2147483647 ≡ clamp (total xs)
  sum-least above = sym (over-least (total xs) low high turns.0 q fits turns.1 whole rest above)

  pub sum-most : (q -ℤ high) <ℤ pos 0 → pos 2147483647 ≡ clamp (total xs)
  sum-most below = sym (over-most (total xs) low high turns.0 q fits turns.1 whole rest below)

  pub sum-within : (q -ℤ high) ≤ℤ pos 7 → pos 0 ≤ℤ (q -ℤ high) → low ≡ clamp (total xs)
  sum-within most least = sym (over-none (total xs) low high turns.0 q fits turns.1 whole rest most least)

-- the law, as a definition: what the code tests
pub clamped-sixteenths : (xs : List ℤ) (low turns : ℤ) → length xs ≤ 8 → FitsSigned w32 low → total xs ≡ low +ℤ (turns *ℤ pos 4294967296)
    → clamp (total xs) ≡ settled_by (int_shr low 4 -ℤ sixteenths xs) low
clamped-sixteenths xs low turns few fits is = at (int_lt (pos 7) (int_shr low 4 -ℤ sixteenths xs)) (int_lt (int_shr low 4 -ℤ sixteenths xs) (pos 0)) refl refl
  where
    at : (above below : Bool) → int_lt (pos 7) (int_shr low 4 -ℤ sixteenths xs) ≡ above → int_lt (int_shr low 4 -ℤ sixteenths xs) (pos 0) ≡ below
        → clamp (total xs) ≡ (if above then negsuc 2147483647 else if below then pos 2147483647 else low)
    at true below a b = over-least (total xs) low (sixteenths xs) turns (int_shr low 4) fits is (sixteenths-near xs few) (sixteenth-near low) (grind (arith, ints))
    at false true a b = over-most (total xs) low (sixteenths xs) turns (int_shr low 4) fits is (sixteenths-near xs few) (sixteenth-near low) (grind (arith, ints))
    at false false a b = over-none (total xs) low (sixteenths xs) turns (int_shr low 4) fits is (sixteenths-near xs few) (sixteenth-near low) (grind (arith, ints)) (grind (arith, ints))
