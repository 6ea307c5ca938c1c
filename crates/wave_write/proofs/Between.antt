-- Headers of which each byte is that of one of two headers.
use Rattle.std.proofs.Common.{◌≡◌, ℕ, zero, suc, List, [], ◌∷◌, ◌++◌, length, take, drop, ◌⊎◌, inl, inr, Some, refl, ap, arith}
use Rattle.std.specs.Prelude.{slice_get}
use Rattle.driver_words.specs.Tapes.{IsBetween}

abbrev pub AreBetween : List ℕ → List ℕ → List ℕ → Type 0
AreBetween [] [] [] = Unit {0}
AreBetween (o ∷ os) (f ∷ fs) (x ∷ xs) = ((x ≡ o) ⊎ (x ≡ f)) × AreBetween os fs xs
AreBetween _ _ _ = ⊥

pub between : (os fs xs : List ℕ) → AreBetween os fs xs → IsBetween os fs xs
between os fs xs h = (long os fs xs h, each os fs xs h)
  where
    long : (os fs xs : List ℕ) → AreBetween os fs xs → length xs ≡ length os
    long [] [] [] h = refl
    long (o ∷ os) (f ∷ fs) (x ∷ xs) h = ap suc (long os fs xs h.1)
    long [] [] (x ∷ xs) h = absurd h
    long [] (f ∷ fs) xs h = absurd h
    long (o ∷ os) [] xs h = absurd h
    long (o ∷ os) (f ∷ fs) [] h = absurd h

    each : (os fs xs : List ℕ) → AreBetween os fs xs → (i : ℕ) → (slice_get xs i ≡ slice_get os i) ⊎ (slice_get xs i ≡ slice_get fs i)
    each [] [] [] h i = inl refl
    each (o ∷ os) (f ∷ fs) (x ∷ xs) h zero = elim h.0 [ inl e ↦ inl (ap Some e) | inr e ↦ inr (ap Some e) ]
    each (o ∷ os) (f ∷ fs) (x ∷ xs) h (suc i) = each os fs xs h.1 i
    each [] [] (x ∷ xs) h i = absurd h
    each [] (f ∷ fs) xs h i = absurd h
    each (o ∷ os) [] xs h i = absurd h
    each (o ∷ os) (f ∷ fs) [] h i = absurd h

pub between-append : (os fs xs os' fs' xs' : List ℕ) → AreBetween os fs xs → AreBetween os' fs' xs' → AreBetween (os ++ os') (fs ++ fs') (xs ++ xs')
between-append [] [] [] os' fs' xs' h k = k
between-append (o ∷ os) (f ∷ fs) (x ∷ xs) os' fs' xs' h k = (h.0, between-append os fs xs os' fs' xs' h.1 k)
between-append [] [] (x ∷ xs) os' fs' xs' h k = absurd h
between-append [] (f ∷ fs) xs os' fs' xs' h k = absurd h
between-append (o ∷ os) [] xs os' fs' xs' h k = absurd h
between-append (o ∷ os) (f ∷ fs) [] os' fs' xs' h k = absurd h

pub between-same : (os : List ℕ) → AreBetween os os os
between-same [] = tt
between-same (o ∷ os) = (inl refl, between-same os)

-- a front of the one and the rest of the other
pub between-cut : (k : ℕ) (os fs : List ℕ) → length os ≡ length fs → AreBetween os fs (take k fs ++ drop k os)
between-cut zero [] [] e = tt
between-cut zero (o ∷ os) (f ∷ fs) e = (inl refl, between-cut zero os fs (omega (arith, e)))
between-cut (suc k) [] [] e = tt
between-cut (suc k) (o ∷ os) (f ∷ fs) e = (inr refl, between-cut k os fs (omega (arith, e)))
between-cut k [] (f ∷ fs) e = absurd (omega (arith, e))
between-cut k (o ∷ os) [] e = absurd (omega (arith, e))
