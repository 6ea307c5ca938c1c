-- Fronts of a list.
use Rattle.std.proofs.Common.{◌≡◌, ℕ, zero, suc, ◌+◌, ◌<◌, ◌≤◌, ◌≢◌, min, List, [], ◌∷◌, ◌++◌, length, take, map, set, sym, refl, ap, ◌∙◌, arith}
use Rattle.std.specs.Prelude.{Option, Some, None, slice_get}
use Rattle.std.proofs.lemmas.List.{take-append-le, length-take-le}
use lib.ListN.{length-take, length-map}
use Rattle.session_model.specs.jack_types.specs.declared.commands.Change.{Change}
use Rattle.graph_word.specs.Rule.{fronts}

module _ {A : Type 0} where
  pub take_take : (m n : ℕ) (l : List A) → m ≤ n → take m (take n l) ≡ take m l
  take_take zero n l h = refl
  take_take (suc m) zero l h = absurd (omega arith)
  take_take (suc m) (suc n) [] h = refl
  take_take (suc m) (suc n) (x ∷ xs) h = ap (λ (t : List A). x ∷ t) (take_take m n xs (omega arith))

  pub front_short : (f l : List A) → f ≡ take (length f) l → length f ≤ length l
  front_short f l e = let same : length f ≡ min (length f) (length l) = ap length e ∙ length-take (length f) l in omega arith

  pub front_longer : (f l more : List A) → f ≡ take (length f) l → f ≡ take (length f) (l ++ more)
  front_longer f l more e = e ∙ sym (take-append-le (length f) l more (front_short f l e))

  pub take_front : (n : ℕ) (l : List A) → n ≤ length l → take n l ≡ take (length (take n l)) l
  take_front n l h = ap (λ (q : ℕ). take q l) (sym (length-take-le n l h))

  pub fronts_nest : (m n : ℕ) (l : List A) → m ≤ n → n ≤ length l → take m l ≡ take (length (take m l)) (take n l)
  fronts_nest m n l a b = let h : m ≤ length l = omega arith in sym (ap (λ (q : ℕ). take q (take n l)) (length-take-le m l h) ∙ take_take m n l a)

  pub got_here : (l : List A) (i : ℕ) (a : A) → i < length l → slice_get (set l i a) i ≡ Some a
  got_here [] i a h = absurd (omega arith)
  got_here (x ∷ xs) zero a h = refl
  got_here (x ∷ xs) (suc i) a h = got_here xs i a (omega arith)

  pub got_else : (l : List A) (i j : ℕ) (a : A) → j ≢ i → slice_get (set l i a) j ≡ slice_get l j
  got_else [] i j a n = refl
  got_else (x ∷ xs) zero zero a n = absurd (n refl)
  got_else (x ∷ xs) zero (suc j) a n = refl
  got_else (x ∷ xs) (suc i) zero a n = refl
  got_else (x ∷ xs) (suc i) (suc j) a n = got_else xs i j a (λ e. n (ap suc e))

  abbrev mapped : {B : Type 0} → (A → B) → Option A → Option B
  mapped f None = None
  mapped f (Some a) = Some (f a)

  pub got_map : {B : Type 0} (f : A → B) (l : List A) (n : ℕ) → slice_get (map f l) n ≡ mapped f (slice_get l n)
  got_map f [] n = refl
  got_map f (x ∷ xs) zero = refl
  got_map f (x ∷ xs) (suc n) = got_map f xs n

pub length-fronts : (all : List Change) → length (fronts all) ≡ length all + 1
length-fronts [] = refl
length-fronts (x ∷ xs) = omega (arith, length-map (fronts xs) (λ (front : List Change). x ∷ front), length-fronts xs)

pub fronts_at : (all : List Change) (n : ℕ) → n ≤ length all → slice_get (fronts all) n ≡ Some (take n all)
fronts_at [] zero h = refl
fronts_at [] (suc n) h = absurd (omega arith)
fronts_at (x ∷ xs) zero h = refl
fronts_at (x ∷ xs) (suc n) h = got_map (λ (front : List Change). x ∷ front) (fronts xs) n ∙ ap (mapped (λ (front : List Change). x ∷ front)) (fronts_at xs n (omega arith))
