-- Elements of lists that calls are made of.
use Rattle.std.proofs.Common.{◌≡◌, ℕ, zero, suc, List, [], ◌∷◌, length, map, slice_get, Contains, Some, None, refl, ap, arith}

pub none-some : {X : Type 0} (x : X) → None ≡ Some x → ⊥
none-some x e = cc

pub some-same : {X : Type 0} (x y : X) → Some x ≡ Some y → x ≡ y
some-same x y e = cc

pub contained : {X : Type 0} (xs : List X) (i : ℕ) (x : X) → slice_get xs i ≡ Some x → Contains xs x
contained [] i x h = absurd (none-some x h)
contained {X} (y ∷ xs) zero x h = (0, omega arith, some-same y x h)
contained (y ∷ xs) (suc i) x h = let c = contained xs i x h in (suc c.0, omega (arith, c.1), c.2)

pub length-mapped : {X Y : Type 0} (f : X → Y) (xs : List X) → length (map f xs) ≡ length xs
length-mapped f [] = refl
length-mapped f (x ∷ xs) = ap suc (length-mapped f xs)

pub mapped_some : {X Y : Type 0} (f : X → Y) (xs : List X) (k : ℕ) (x : X) → slice_get xs k ≡ Some x → slice_get (map f xs) k ≡ Some (f x)
mapped_some f [] k x e = absurd (none-some x e)
mapped_some f (y ∷ xs) zero x e = ap (λ z. Some (f z)) (some-same y x e)
mapped_some f (y ∷ xs) (suc k) x e = mapped_some f xs k x e
