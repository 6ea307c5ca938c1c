-- What holds of all that is drawn.
--     all-append      of two lists
--     drawn-each      what holds of each turn's items holds of all
--     drawn-count      so many pass a test in each turn
--     drawn-length      so many are drawn in each turn
use Rattle.std.proofs.Common.{◌≡◌, ℕ, zero, suc, ◌+◌, ◌*◌, ◌<◌, ◌≤◌, Bool, cond, List, [], ◌∷◌, ◌++◌, length, sym, ◌∙◌, arith}
use Rattle.std.specs.Prelude.{count_by}
use Rattle.std.specs.List.{AllByRecursion}
use Rattle.std.proofs.Math.Nat.{suc-mul}
use Rattle.std.proofs.lemmas.List.{length-append}
use Rattle.std.proofs.lemmas.List.Sums.{sum_by-append}
use Rattle.rand_pcg.specs.Lcg.{Lcg}
use Rattle.rehearsal_model.specs.Rehearsals.{Drawn, drawn}

module _ {X : Type 0} where
  pub all-append : (P : X → Type 0) (xs ys : List X) → AllByRecursion P xs → AllByRecursion P ys → AllByRecursion P (xs ++ ys)
  all-append P [] ys one other = other
  all-append P (x ∷ xs) ys one other = (one.0, all-append P xs ys one.1 other)

  pub drawn-each : (P : X → Type 0) (turn : ℕ → Lcg → Drawn (List X)) (n i : ℕ) (g : Lcg) → ((k : ℕ) (h : Lcg) → i ≤ k → k < i + n → AllByRecursion P (turn k h).0) → AllByRecursion P (drawn turn n i g).0
  drawn-each P turn zero i g each = tt
  drawn-each P turn (suc n) i g each =
      all-append P (turn i g).0 (drawn turn n (i + 1) (turn i g).1).0 (each i g (omega arith) (omega arith))
      (drawn-each P turn n (i + 1) (turn i g).1 (λ k h low high. each k h (omega (arith, low)) (omega (arith, high))))

  pub drawn-count : (p : X → Bool) (m : ℕ) (turn : ℕ → Lcg → Drawn (List X)) (n i : ℕ) (g : Lcg) → ((k : ℕ) (h : Lcg) → count_by p (turn k h).0 ≡ m) → count_by p (drawn turn n i g).0 ≡ n * m
  drawn-count p m turn zero i g each = omega arith
  drawn-count p m turn (suc n) i g each =
      sum_by-append (λ x. cond (p x) 1 0) (turn i g).0 (drawn turn n (i + 1) (turn i g).1).0
      ∙ add (count_by p (turn i g).0) (count_by p (drawn turn n (i + 1) (turn i g).1).0) (n * m) (each i g) (drawn-count p m turn n (i + 1) (turn i g).1 each)
      ∙ sym (suc-mul n m)
    where
      add : (a b c : ℕ) → a ≡ m → b ≡ c → a + b ≡ c + m
      add a b c one others = omega (arith, one, others)

  pub drawn-length : (m : ℕ) (turn : ℕ → Lcg → Drawn (List X)) (n i : ℕ) (g : Lcg) → ((k : ℕ) (h : Lcg) → length (turn k h).0 ≡ m) → length (drawn turn n i g).0 ≡ n * m
  drawn-length m turn zero i g each = omega arith
  drawn-length m turn (suc n) i g each =
      length-append (turn i g).0 (drawn turn n (i + 1) (turn i g).1).0
      ∙ add (length (turn i g).0) (length (drawn turn n (i + 1) (turn i g).1).0) (n * m) (each i g) (drawn-length m turn n (i + 1) (turn i g).1 each)
      ∙ sym (suc-mul n m)
    where
      add : (a b c : ℕ) → a ≡ m → b ≡ c → a + b ≡ c + m
      add a b c one others = omega (arith, one, others)
