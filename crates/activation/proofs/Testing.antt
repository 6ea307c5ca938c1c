-- Tests of what stands in a list of numbers.
use Rattle.std.proofs.Common.{◌≡◌, ◌≢◌, ◌⊎◌, ℕ, Bool, true, false, cond, List, [], ◌∷◌, ◌++◌, refl, sym, ◌∙◌, ap, ⊎_elim, inl, inr, true≢false, eq-eqb, ne_eqb}
use mathlib.Core.Logic.{dite}
use native.Mathlib.Decide.{ℕ_discrete}
use Rattle.activation.specs.Rule.{has}

pub has_here : (x : ℕ) (xs : List ℕ) → has (x ∷ xs) x ≡ true
has_here x xs = ap (λ b. cond b true (has xs x)) (eq-eqb x x refl)

pub has_skip : (x : ℕ) (xs : List ℕ) (n : ℕ) → x ≢ n → has (x ∷ xs) n ≡ has xs n
has_skip x xs n ne = ap (λ b. cond b true (has xs n)) (ne_eqb x n ne)

pub has_there : (x : ℕ) (xs : List ℕ) (n : ℕ) → has xs n ≡ true → has (x ∷ xs) n ≡ true
has_there x xs n h = dite (ℕ_discrete x n) (λ e. ap (λ b. cond b true (has xs n)) (eq-eqb x n e)) (λ ne. has_skip x xs n ne ∙ h)

pub has_append : (xs ys : List ℕ) (n : ℕ) → has (xs ++ ys) n ≡ true → (has xs n ≡ true) ⊎ (has ys n ≡ true)
has_append [] ys n h = inr h
has_append (x ∷ xs) ys n h = dite (ℕ_discrete x n)
    (λ e. inl (ap (has (x ∷ xs)) (sym e) ∙ has_here x xs))
    (λ ne. ⊎_elim (λ (l : has xs n ≡ true). inl (has_there x xs n l)) (λ (r : has ys n ≡ true). inr r) (has_append xs ys n (sym (has_skip x (xs ++ ys) n ne) ∙ h)))

pub has_left : (xs ys : List ℕ) (n : ℕ) → has xs n ≡ true → has (xs ++ ys) n ≡ true
has_left [] ys n h = absurd (true≢false (sym h))
has_left (x ∷ xs) ys n h = dite (ℕ_discrete x n)
    (λ e. ap (has (x ∷ (xs ++ ys))) (sym e) ∙ has_here x (xs ++ ys))
    (λ ne. has_there x (xs ++ ys) n (has_left xs ys n (sym (has_skip x xs n ne) ∙ h)))

pub has_right : (xs ys : List ℕ) (n : ℕ) → has ys n ≡ true → has (xs ++ ys) n ≡ true
has_right [] ys n h = h
has_right (x ∷ xs) ys n h = has_there x (xs ++ ys) n (has_right xs ys n h)

pub either : (b : Bool) → (b ≡ true) ⊎ (b ≡ false)
either true = inl refl
either false = inr refl

-- two tests with the same yes have the same no
pub same_test : (a b : Bool) → (a ≡ true → b ≡ true) → (b ≡ true → a ≡ true) → a ≡ b
same_test true b f g = sym (f refl)
same_test false true f g = g refl
same_test false false f g = refl

pub off_or_on : (b : Bool) → (b ≡ true → ⊥) → b ≡ false
off_or_on true h = absurd (h refl)
off_or_on false h = refl
