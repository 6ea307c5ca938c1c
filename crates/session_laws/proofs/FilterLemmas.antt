-- Lists that are filtered, mapped and counted.
use Rattle.std.proofs.Common.{◌≡◌, ℕ, zero, suc, ◌+◌, ◌<◌, ◌≤◌, Bool, true, false, cond, not, ◌&&◌, if◌then◌else◌, List, [], ◌∷◌, ◌++◌, length, map, filter, find, count_by, Contains, Option, Some, None, is_some, refl, sym, ◌∙◌, ap, ap₂, subst, arith, true≢false}
use Rattle.std.specs.Option.{option_map}
use Rattle.std.proofs.lemmas.List.Sums.{sum_by-cons, sum_by-append}
use Rattle.std.proofs.lemmas.List.Elements.{filter-append}
use Rattle.session_laws.proofs.LoopLemmas.{Contains-later, Contains-first}

module _ {X : Type 0} where
  pub count-cons : (p : X → Bool) (x : X) (xs : List X) → count_by p (x ∷ xs) ≡ cond (p x) 1 0 + count_by p xs
  count-cons p x xs = sum_by-cons (λ y. cond (p y) 1 0) x xs

  pub count-append : (p : X → Bool) (xs ys : List X) → count_by p (xs ++ ys) ≡ count_by p xs + count_by p ys
  count-append p xs ys = sum_by-append (λ y. cond (p y) 1 0) xs ys

  count-more : (p : X → Bool) (x : X) (xs : List X) (n : ℕ) → n ≤ count_by p xs → n ≤ count_by p (x ∷ xs)
  count-more p x xs n h = rw (count-cons p x xs) (omega (arith, h))

  count-both : (p : X → Bool) (x : X) (xs ys : List X) → count_by p xs ≤ count_by p ys → count_by p (x ∷ xs) ≤ count_by p (x ∷ ys)
  count-both p x xs ys h = rw (count-cons p x xs, count-cons p x ys) (omega (arith, h))

  pub count-same : (p q : X → Bool) (xs : List X) → ((x : X) → Contains xs x → p x ≡ q x) → count_by p xs ≡ count_by q xs
  count-same p q [] h = refl
  count-same p q (x ∷ xs) h = count-cons p x xs ∙ ap₂ (λ b n. cond b 1 0 + n) (h x (Contains-first x xs)) (count-same p q xs (λ y m. h y (Contains-later x y xs m))) ∙ sym (count-cons q x xs)

  -- fewer items pass where some are taken away before
  pub count-fewer : (p among stays : X → Bool) (xs : List X) → count_by p (filter among (filter stays xs)) ≤ count_by p (filter among xs)
  count-fewer p among stays [] = omega arith
  count-fewer p among stays (x ∷ xs) = go (stays x) (among x) refl (count-fewer p among stays xs)
    where
      go : (s a : Bool) → among x ≡ a → count_by p (filter among (filter stays xs)) ≤ count_by p (filter among xs)
          → count_by p (filter among (cond s (x ∷ filter stays xs) (filter stays xs))) ≤ count_by p (cond a (x ∷ filter among xs) (filter among xs))
      go true true e rest = rw e (count-both p x (filter among (filter stays xs)) (filter among xs) rest)
      go true false e rest = rw e rest
      go false true e rest = count-more p x (filter among xs) (count_by p (filter among (filter stays xs))) rest
      go false false e rest = rest

  -- as many pass where items are changed in nothing that is tested
  pub count-changed : (p among : X → Bool) (change : X → X) → ((x : X) → p (change x) ≡ p x) → ((x : X) → among (change x) ≡ among x) → (xs : List X)
      → count_by p (filter among (map change xs)) ≡ count_by p (filter among xs)
  count-changed p among change same_p same_among [] = refl
  count-changed p among change same_p same_among (x ∷ xs) = go (among x) (same_among x) (count-changed p among change same_p same_among xs)
    where
      go : (a : Bool) → among (change x) ≡ a → count_by p (filter among (map change xs)) ≡ count_by p (filter among xs)
          → count_by p (cond (among (change x)) (change x ∷ filter among (map change xs)) (filter among (map change xs))) ≡ count_by p (cond a (x ∷ filter among xs) (filter among xs))
      go true e rest = rw (e, count-cons p (change x) (filter among (map change xs)), count-cons p x (filter among xs), same_p x, rest) refl
      go false e rest = rw e rest

  pub filter-push : (p : X → Bool) (xs : List X) (x : X) → filter p (xs ++ x ∷ []) ≡ filter p xs ++ cond (p x) (x ∷ []) []
  filter-push p xs x = filter-append p xs (x ∷ [])

  pub find-push_kept : (p : X → Bool) (xs : List X) (x y : X) → find p xs ≡ Some y → find p (xs ++ x ∷ []) ≡ Some y
  find-push_kept p [] x y h = cc
  find-push_kept p (z ∷ zs) x y h = go (p z) h (find-push_kept p zs x y)
    where
      go : (b : Bool) → cond b (Some z) (find p zs) ≡ Some y → (find p zs ≡ Some y → find p (zs ++ x ∷ []) ≡ Some y) → cond b (Some z) (find p (zs ++ x ∷ [])) ≡ Some y
      go true e rest = e
      go false e rest = rest e

  -- what passes stays in
  pub find-filter_kept : (p stays : X → Bool) → ((x : X) → p x ≡ true → stays x ≡ true) → (xs : List X) → find p (filter stays xs) ≡ find p xs
  find-filter_kept p stays kept [] = refl
  find-filter_kept p stays kept (x ∷ xs) = go (stays x) (p x) refl refl (find-filter_kept p stays kept xs)
    where
      go : (s b : Bool) → stays x ≡ s → p x ≡ b → find p (filter stays xs) ≡ find p xs → find p (cond s (x ∷ filter stays xs) (filter stays xs)) ≡ cond b (Some x) (find p xs)
      go true true e f rest = rw f refl
      go true false e f rest = rw f rest
      go false true e f rest = absurd (true≢false (sym (kept x f) ∙ e))
      go false false e f rest = rest

  -- items that are changed in nothing that is tested
  pub find-changed : (p : X → Bool) (change : X → X) → ((x : X) → p (change x) ≡ p x) → (xs : List X) → find p (map change xs) ≡ option_map change (find p xs)
  find-changed p change same [] = refl
  find-changed p change same (x ∷ xs) = go (p x) (same x) (find-changed p change same xs)
    where
      go : (b : Bool) → p (change x) ≡ b → find p (map change xs) ≡ option_map change (find p xs) → cond (p (change x)) (Some (change x)) (find p (map change xs)) ≡ option_map change (cond b (Some x) (find p xs))
      go true e rest = rw e refl
      go false e rest = rw e rest

  pub length-filter_within : (p : X → Bool) (xs : List X) → length (filter p xs) ≤ length xs
  length-filter_within p [] = omega arith
  length-filter_within p (x ∷ xs) = go (p x) (length-filter_within p xs)
    where
      go : (b : Bool) → length (filter p xs) ≤ length xs → length (cond b (x ∷ filter p xs) (filter p xs)) ≤ length (x ∷ xs)
      go true h = omega (arith, h)
      go false h = omega (arith, h)

  pub filter-same_all : (p q : X → Bool) → (xs : List X) → ((x : X) → Contains xs x → p x ≡ q x) → filter p xs ≡ filter q xs
  filter-same_all p q [] h = refl
  filter-same_all p q (x ∷ xs) h = go (q x) (h x (Contains-first x xs)) (filter-same_all p q xs (λ y m. h y (Contains-later x y xs m)))
    where
      go : (b : Bool) → p x ≡ b → filter p xs ≡ filter q xs → cond (p x) (x ∷ filter p xs) (filter p xs) ≡ cond b (x ∷ filter q xs) (filter q xs)
      go true e rest = rw e (ap (λ ys. x ∷ ys) rest)
      go false e rest = rw e rest

module _ {X Y : Type 0} (f : X → Y) where
  pub map-push : (xs : List X) (x : X) → map f (xs ++ x ∷ []) ≡ map f xs ++ f x ∷ []
  map-push [] x = refl
  map-push (y ∷ ys) x = ap (λ zs. f y ∷ zs) (map-push ys x)

  pub map-filter_after : (p : Y → Bool) (xs : List X) → map f (filter (λ x. p (f x)) xs) ≡ filter p (map f xs)
  map-filter_after p [] = refl
  map-filter_after p (x ∷ xs) = go (p (f x)) (map-filter_after p xs)
    where
      go : (b : Bool) → map f (filter (λ y. p (f y)) xs) ≡ filter p (map f xs) → map f (cond b (x ∷ filter (λ y. p (f y)) xs) (filter (λ y. p (f y)) xs)) ≡ cond b (f x ∷ filter p (map f xs)) (filter p (map f xs))
      go true e = ap (λ zs. f x ∷ zs) e
      go false e = e

  pub find-map_after : (p : Y → Bool) (xs : List X) → find p (map f xs) ≡ option_map f (find (λ x. p (f x)) xs)
  find-map_after p [] = refl
  find-map_after p (x ∷ xs) = go (p (f x)) (find-map_after p xs)
    where
      go : (b : Bool) → find p (map f xs) ≡ option_map f (find (λ y. p (f y)) xs) → cond b (Some (f x)) (find p (map f xs)) ≡ option_map f (cond b (Some x) (find (λ y. p (f y)) xs))
      go true e = refl
      go false e = e

  pub count-map_after : (p : Y → Bool) (xs : List X) → count_by p (map f xs) ≡ count_by (λ x. p (f x)) xs
  count-map_after p [] = refl
  count-map_after p (x ∷ xs) = count-cons p (f x) (map f xs) ∙ ap (λ n. cond (p (f x)) 1 0 + n) (count-map_after p xs) ∙ sym (count-cons (λ y. p (f y)) x xs)

  -- a change before is a change after
  pub map-changed : (change : X → X) (later : Y → Y) → ((x : X) → f (change x) ≡ later (f x)) → (xs : List X) → map f (map change xs) ≡ map later (map f xs)
  map-changed change later same [] = refl
  map-changed change later same (x ∷ xs) = rw (same x, map-changed change later same xs) refl

  pub map-unchanged : (change : X → X) → ((x : X) → f (change x) ≡ f x) → (xs : List X) → map f (map change xs) ≡ map f xs
  map-unchanged change same [] = refl
  map-unchanged change same (x ∷ xs) = rw (same x, map-unchanged change same xs) refl

pub some-mapped : {X Y : Type 0} (f : X → Y) (o : Option X) → is_some (option_map f o) ≡ is_some o
some-mapped f None = refl
some-mapped f (Some x) = refl
