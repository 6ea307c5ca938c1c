-- Lists that are joined of what each item gives.
--     drop-at, not-none      what stands at a place of a list
--     joined-next      one item more
--     cut-at, same-front, next-in, none-in      another list that is the same so far, what stands next, and that nothing does
--     front-within, next-within      inside what one item gives
use Rattle.std.proofs.Common.{◌≡◌, ℕ, zero, suc, ◌+◌, ◌<◌, ◌≤◌, List, [], ◌∷◌, ◌++◌, length, take, drop, flat_map, slice_get, Some, None, refl, sym, ◌∙◌, ap, arith, append-nil, append_assoc, length-append, length-take-le}
use Rattle.std.proofs.lemmas.List.{take_all, take_at, take_more, take-append-drop}
use Rattle.std.proofs.lemmas.Grind.{flat_map-append}
use Rattle.check_laws.proofs.PlaceLists.{flat-place, get-of, none-some, slice-inside, slice-past, some-same}

pub drop-at : {X : Type 0} (xs : List X) (i : ℕ) (x : X) → slice_get xs i ≡ Some x → (rest : List X) × (drop i xs ≡ x ∷ rest)
drop-at [] i x here = absurd (none-some x here)
drop-at (y ∷ xs) zero x here = (xs, ap (λ z. z ∷ xs) (some-same y x here))
drop-at (y ∷ xs) (suc i) x here = drop-at xs i x here

pub not-none : {X : Type 0} (xs : List X) (i : ℕ) → i < length xs → slice_get xs i ≡ None → ⊥
not-none [] i low e = absurd (omega (arith, low))
not-none (x ∷ xs) zero low e = absurd (none-some x (sym e))
not-none (x ∷ xs) (suc i) low e = not-none xs i (omega (arith, low)) e

behind : {Y : Type 0} (fs bs : List Y) → slice_get (fs ++ bs) (length fs) ≡ slice_get bs 0
behind [] bs = refl
behind (a ∷ fs) bs = behind fs bs

module _ {X Y : Type 0} (f : X → List Y) (xs : List X) where
  pub joined-next : (at : ℕ) (x : X) → slice_get xs at ≡ Some x → flat_map f (take (at + 1) xs) ≡ flat_map f (take at xs) ++ f x
  joined-next at x here =
      ap (flat_map f) (take_more xs at x (slice-inside xs at x here) ∙ ap (λ y. take at xs ++ y ∷ []) (get-of xs at x x here))
      ∙ flat_map-append f (take at xs) (x ∷ []) ∙ ap (λ zs. flat_map f (take at xs) ++ zs) (append-nil (f x))

  pub cut-at : (at : ℕ) → flat_map f xs ≡ flat_map f (take at xs) ++ flat_map f (drop at xs)
  cut-at at = ap (flat_map f) (sym (take-append-drop at xs)) ∙ flat_map-append f (take at xs) (drop at xs)

  module _ (at place : ℕ) (ys : List Y) (low : place ≤ length ys) (same : take place ys ≡ flat_map f (take at xs)) where
    pub long : length (flat_map f (take at xs)) ≡ place
    long = ap length (sym same) ∙ length-take-le place ys low

    -- so far they are the same
    pub same-front : take place ys ≡ take place (flat_map f xs)
    same-front = same ∙ sym (ap (take place) (cut-at at) ∙ take_at (flat_map f (take at xs)) (flat_map f (drop at xs)) place long)

    -- what stands next in the joined list
    pub next-in : (x : X) (y : Y) → slice_get xs at ≡ Some x → f x ≡ y ∷ [] → slice_get (flat_map f xs) place ≡ Some y
    next-in x y here one =
        let rest = drop-at xs at x here in
        ap (λ zs. slice_get zs place) (cut-at at)
        ∙ ap (slice_get (flat_map f (take at xs) ++ flat_map f (drop at xs))) (sym long)
        ∙ behind (flat_map f (take at xs)) (flat_map f (drop at xs))
        ∙ ap (λ zs. slice_get (flat_map f zs) 0) rest.1
        ∙ ap (λ zs. slice_get (zs ++ flat_map f rest.0) 0) one

    -- behind all of them nothing does
    pub none-in : length xs ≤ at → slice_get (flat_map f xs) place ≡ None
    none-in all =
        slice-past (flat_map f xs) place (let whole : length (flat_map f (take at xs)) ≡ length (flat_map f xs) = ap (λ zs. length (flat_map f zs)) (take_all at xs all) in omega (arith, whole, long))

    -- the same within the list of one more
    module _ (x : X) (here : slice_get xs at ≡ Some x) (i next : ℕ) (next_is : next ≡ place + i) where
      pub front-within : i ≤ length (f x) → take next ys ≡ take place ys ++ take i (f x) → take next ys ≡ take next (flat_map f xs)
      front-within few more =
          more ∙ ap (λ zs. zs ++ take i (f x)) same
          ∙ sym (ap (take next) whole ∙ take_at (flat_map f (take at xs) ++ take i (f x)) (drop i (f x) ++ flat_map f rest.0) next as-long)
        where
          rest : (rest : List X) × (drop at xs ≡ x ∷ rest)
          rest = drop-at xs at x here

          whole : flat_map f xs ≡ (flat_map f (take at xs) ++ take i (f x)) ++ (drop i (f x) ++ flat_map f rest.0)
          whole =
              cut-at at
              ∙ ap (λ zs. flat_map f (take at xs) ++ flat_map f zs) rest.1
              ∙ ap (λ zs. flat_map f (take at xs) ++ (zs ++ flat_map f rest.0)) (sym (take-append-drop i (f x)))
              ∙ ap (λ zs. flat_map f (take at xs) ++ zs) (append_assoc (take i (f x)) (drop i (f x)) (flat_map f rest.0))
              ∙ sym (append_assoc (flat_map f (take at xs)) (take i (f x)) (drop i (f x) ++ flat_map f rest.0))

          as-long : length (flat_map f (take at xs) ++ take i (f x)) ≡ next
          as-long =
              let both = length-append (flat_map f (take at xs)) (take i (f x)) in let first = long in let front = length-take-le i (f x) few in
              omega (arith, both, first, front, next_is)

      pub next-within : (y : Y) → slice_get (f x) i ≡ Some y → slice_get (flat_map f xs) next ≡ Some y
      next-within y there = ap (slice_get (flat_map f xs)) (let first = long in omega (arith, first, next_is)) ∙ flat-place f xs at i x y here there
