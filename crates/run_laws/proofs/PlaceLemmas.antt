-- Places in lists.
--     mapped_there      an item of a mapped list is that of the item
--     front_there      an item of a front is one of the whole
--     some_at      there is an item at each place within
--     map-below      two functions that agree below n
use Rattle.std.proofs.Common.{◌≡◌, ℕ, zero, suc, ◌<◌, List, [], ◌∷◌, map, take, slice_get, Some, option_map, length, refl, ◌∙◌, ap, ap₂, arith}
use Rattle.std.proofs.lemmas.Option.{none-some, slice_get-map}
use Rattle.session_model.specs.Samples.{below}
use Rattle.session_laws.proofs.ListLemmas.{Each, Each-below}

pub mapped_there : {X Y : Type 0} (f : X → Y) (xs : List X) (k : ℕ) (x : X) → slice_get xs k ≡ Some x → slice_get (map f xs) k ≡ Some (f x)
mapped_there f xs k x e = slice_get-map f xs k ∙ ap (option_map f) e

pub front_there : {X : Type 0} (m : ℕ) (xs : List X) (i : ℕ) (x : X) → slice_get (take m xs) i ≡ Some x → slice_get xs i ≡ Some x
front_there zero xs i x e = absurd (none-some x e)
front_there (suc m) [] i x e = absurd (none-some x e)
front_there (suc m) (y ∷ xs) zero x e = e
front_there (suc m) (y ∷ xs) (suc i) x e = front_there m xs i x e

pub some_at : {X : Type 0} (xs : List X) (k : ℕ) → k < length xs → (x : X) × (slice_get xs k ≡ Some x)
some_at [] k h = absurd (omega (arith, h))
some_at (x ∷ xs) zero h = (x, refl)
some_at (x ∷ xs) (suc k) h = some_at xs k (omega (arith, h))

map-each : {X Y : Type 0} (f g : X → Y) (xs : List X) → Each (λ x. f x ≡ g x) xs → map f xs ≡ map g xs
map-each f g [] h = refl
map-each f g (x ∷ xs) h = ap₂ (λ a rest. a ∷ rest) h.0 (map-each f g xs h.1)

pub map-below : {X : Type 0} (f g : ℕ → X) (n : ℕ) → ((i : ℕ) → i < n → f i ≡ g i) → map f (below n) ≡ map g (below n)
map-below f g n h = map-each f g (below n) (Each-below (λ i. f i ≡ g i) n h)
