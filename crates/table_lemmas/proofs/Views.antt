-- For the proof that a step keeps a rule which says something of each view.
use Rattle.std.proofs.Common.{◌≡◌, ◌≢◌, ◌⊎◌, ℕ, zero, suc, List, [], ◌∷◌, ◌++◌, length, set, sym, refl, subst, ⊎_elim, inl, inr, arith}
use mathlib.Core.Option.{some, some-injective, some-ne-none}
use lib.ListN.{get_elem?}
use Rattle.atomic_table.proofs.Lists.{at_set}

module _ {A : Type 0} where
  -- what holds of the new item at i, and of each other item, holds of each item after
  pub each_set : (Q : ℕ → A → Type 0) (l : List A) (i : ℕ) (w : A) → Q i w → ((j : ℕ) (v : A) → j ≢ i → get_elem? l j ≡ some v → Q j v) → (j : ℕ) (v : A) → get_elem? (set l i w) j ≡ some v → Q j v
  each_set Q l i w mine others j v e = ⊎_elim
      (λ (x : (j ≡ i) × (w ≡ v)). subst (λ (y : ℕ × A). Q y.0 y.1) (λ k. (sym x.0 k, x.1 k)) mine)
      (λ (x : (j ≢ i) × (get_elem? l j ≡ some v)). others j v x.0 x.1)
      (at_set l i j w v e)

  -- an item of a longer list is an old one, or the new one, which is the last
  pub at_snoc_last : (l : List A) (a b : A) (j : ℕ) → get_elem? (l ++ a ∷ []) j ≡ some b → (get_elem? l j ≡ some b) ⊎ ((j ≡ length l) × (a ≡ b))
  at_snoc_last [] a b zero e = inr (refl, some-injective a b e)
  at_snoc_last [] a b (suc j) e = absurd (some-ne-none b (sym e))
  at_snoc_last (x ∷ xs) a b zero e = inl e
  at_snoc_last (x ∷ xs) a b (suc j) e = ⊎_elim (λ h. inl h) (λ (h : (j ≡ length xs) × (a ≡ b)). inr (omega (arith, h.0), h.1)) (at_snoc_last xs a b j e)

  -- what holds of each old item, and of the new last one, holds of each item of the longer list
  pub each_snoc : (Q : ℕ → A → Type 0) (l : List A) (a : A) → ((j : ℕ) (v : A) → get_elem? l j ≡ some v → Q j v) → Q (length l) a → (j : ℕ) (v : A) → get_elem? (l ++ a ∷ []) j ≡ some v → Q j v
  each_snoc Q l a old new j v e = ⊎_elim (λ (h : get_elem? l j ≡ some v). old j v h)
      (λ (h : (j ≡ length l) × (a ≡ v)). subst (λ (y : ℕ × A). Q y.0 y.1) (λ k. (sym h.0 k, h.1 k)) new) (at_snoc_last l a v j e)
