-- Places in lists, and what holds at each.
--     All-places, at-place      what holds of each item, told by its place
--     map-places, map-places_is      two lists of which each place has the same
use Rattle.std.proofs.Common.{◌≡◌, ℕ, suc, List, [], ◌∷◌, length, map, get_or, slice_get, All, Some, refl, ap₂, subst, arith, pred, ap}
use Rattle.std.proofs.lemmas.Option.{get_or_from_slice_get, slice_get-get_or, slice_get_within}

pub All-places : {X : Type 0} (P : X → Type 0) (xs : List X) → ((k : ℕ) (x : X) → slice_get xs k ≡ Some x → P x) → All P xs
All-places P xs each k d low = each k (get_or xs k d) (slice_get-get_or xs k d low)

pub at-place : {X : Type 0} (P : X → Type 0) (xs : List X) (k : ℕ) (x : X) → All P xs → slice_get xs k ≡ Some x → P x
at-place P xs k x all here = subst P (get_or_from_slice_get xs k x x here) (all k x (slice_get_within xs k x here))

pub map-places : {X Y Z : Type 0} (f : X → Z) (g : Y → Z) (xs : List X) (ys : List Y) → length xs ≡ length ys
    → ((k : ℕ) (x : X) (y : Y) → slice_get xs k ≡ Some x → slice_get ys k ≡ Some y → f x ≡ g y) → map f xs ≡ map g ys
map-places f g [] [] long each = refl
map-places f g [] (y ∷ ys) long each = absurd (omega (arith, long))
map-places f g (x ∷ xs) [] long each = absurd (omega (arith, long))
map-places f g (x ∷ xs) (y ∷ ys) long each =
    ap₂ (λ z zs. z ∷ zs) (each 0 x y refl refl) (map-places f g xs ys (ap pred long) (λ k a b. each (suc k) a b))

pub map-places_is : {X Y : Type 0} (f : X → Y) (xs : List X) (ys : List Y) → length xs ≡ length ys
    → ((k : ℕ) (x : X) (y : Y) → slice_get xs k ≡ Some x → slice_get ys k ≡ Some y → f x ≡ y) → map f xs ≡ ys
map-places_is f [] [] long each = refl
map-places_is f [] (y ∷ ys) long each = absurd (omega (arith, long))
map-places_is f (x ∷ xs) [] long each = absurd (omega (arith, long))
map-places_is f (x ∷ xs) (y ∷ ys) long each =
    ap₂ (λ z zs. z ∷ zs) (each 0 x y refl refl) (map-places_is f xs ys (ap pred long) (λ k a b. each (suc k) a b))
