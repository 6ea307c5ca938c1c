-- Facts on lists: what is made of elements, and maps that agree.
use Rattle.std.proofs.Common.{◌≡◌, ℕ, zero, suc, ◌+◌, ◌<◌, ◌≤◌, Bool, true, false, ◌⊎◌, inl, inr, List, [], ◌∷◌, ◌++◌, length, map, filter_map, find, get_or, Contains, Option, Some, None, is_some, refl, sym, ◌∙◌, ap, ap₂, subst, arith}
use Rattle.std.specs.List.{cons_option}
use Rattle.std.proofs.lemmas.List.{map-append}
use Rattle.session_model.specs.Samples.{below}
use Rattle.session_laws.proofs.LoopLemmas.{Contains-cases, Contains-first, Contains-later}
use Rattle.session_laws.proofs.SoundLemmas.{find-none}
use Rattle.client_wiring.proofs.ListLemmas.{from_places, none_below}

-- what is made is made of an element
pub made-of : {X Y : Type 0} (f : X → Option Y) (xs : List X) (y : Y) → Contains (filter_map f xs) y → (x : X) × Contains xs x × (f x ≡ Some y)
made-of f [] y m = absurd (none_below m.1)
made-of {X} {Y} f (x ∷ xs) y m = go (f x) refl m (made-of f xs y)
  where
    later : (z : X) × Contains xs z × (f z ≡ Some y) → (z : X) × Contains (x ∷ xs) z × (f z ≡ Some y)
    later w = (w.0, Contains-later x w.0 xs w.1, w.2)

    first : (one : Y) → f x ≡ Some one → (one ≡ y) ⊎ Contains (filter_map f xs) y → (Contains (filter_map f xs) y → (z : X) × Contains xs z × (f z ≡ Some y)) → (z : X) × Contains (x ∷ xs) z × (f z ≡ Some y)
    first one e (inl same) rest = (x, Contains-first x xs, e ∙ ap Some same)
    first one e (inr k) rest = later (rest k)

    go : (o : Option Y) → f x ≡ o → Contains (cons_option o (filter_map f xs)) y → (Contains (filter_map f xs) y → (z : X) × Contains xs z × (f z ≡ Some y)) → (z : X) × Contains (x ∷ xs) z × (f z ≡ Some y)
    go None e k rest = later (rest k)
    go (Some one) e k rest = first one e (Contains-cases one y (filter_map f xs) k) rest

pub made-contains : {X Y : Type 0} (f : X → Option Y) (xs : List X) (x : X) (y : Y) → Contains xs x → f x ≡ Some y → Contains (filter_map f xs) y
made-contains f [] x y m e = absurd (none_below m.1)
made-contains {X} {Y} f (z ∷ xs) x y m e = go (f z) refl (Contains-cases z x xs m) (λ k. made-contains f xs x y k e)
  where
    one : (a b : Y) → Some a ≡ Some b → a ≡ b
    one a b p = cc

    nothing : None ≡ Some y → ⊥
    nothing p = cc

    go : (o : Option Y) → f z ≡ o → (z ≡ x) ⊎ Contains xs x → (Contains xs x → Contains (filter_map f xs) y) → Contains (cons_option o (filter_map f xs)) y
    go None g (inl same) rest = absurd (nothing (sym g ∙ ap f same ∙ e))
    go None g (inr k) rest = rest k
    go (Some a) g (inl same) rest = subst (λ b. Contains (a ∷ filter_map f xs) b) (one a y (sym g ∙ ap f same ∙ e)) (Contains-first a (filter_map f xs))
    go (Some a) g (inr k) rest = Contains-later a y (filter_map f xs) (rest k)

pub find-there : {X : Type 0} (test : X → Bool) (xs : List X) (x : X) → Contains xs x → test x ≡ true → is_some (find test xs) ≡ true
find-there test xs x m t = go (is_some (find test xs)) refl
  where
    go : (b : Bool) → is_some (find test xs) ≡ b → b ≡ true
    go true e = refl
    go false e = absurd (find-none test xs x e m t)

-- maps that agree at each place
pub same-places : {X Z : Type 0} (f : X → Z) (g : ℕ → Z) (xs : List X) (d : X) → ((i : ℕ) → i < length xs → f (get_or xs i d) ≡ g i) → map f xs ≡ map g (below (length xs))
same-places f g xs d agree = sym (ap (map f) (from_places xs d)) ∙ front (length xs) (omega arith)
  where
    front : (n : ℕ) → n ≤ length xs → map f (map (λ k. get_or xs k d) (below n)) ≡ map g (below n)
    front zero h = refl
    front (suc n) h =
        ap (map f) (map-append (λ k. get_or xs k d) (below n) (n ∷ []))
        ∙ map-append f (map (λ k. get_or xs k d) (below n)) (get_or xs n d ∷ [])
        ∙ ap₂ (λ ys y. ys ++ y ∷ []) (front n (omega (arith, h))) (agree n (omega (arith, h)))
        ∙ sym (map-append g (below n) (n ∷ []))

pub map-twice : {X Y Z : Type 0} (f : Y → Z) (g : X → Y) (xs : List X) → map f (map g xs) ≡ map (λ x. f (g x)) xs
map-twice f g [] = refl
map-twice f g (x ∷ xs) = ap (λ ys. f (g x) ∷ ys) (map-twice f g xs)
