-- Lists by recursion: what holds of each item, what rises along a list, and filters.
use Rattle.std.proofs.Common.{◌≡◌, ℕ, zero, suc, ◌+◌, ◌<◌, ◌≤◌, Bool, true, false, cond, not, ◌&&◌, ◌==◌, nat_le, ◌⊎◌, inl, inr, List, [], ◌∷◌, ◌++◌, length, map, filter, flat_map, filter_map, take, drop, slice_get, Option, Some, None, All, Contains, refl, sym, ◌∙◌, ap, ap₂, subst, arith, true≢false, ⊎_elim}
use Rattle.std.specs.List.{cons_option}
use Rattle.std.specs.List.Sorted.{IsNonDecreasing}
use Rattle.std.proofs.lemmas.List.Filters.{length-filter_both}
use Rattle.std.proofs.lemmas.Bool.Decides.{nat_tests}
use Rattle.std.proofs.lemmas.List.Elements.{filter-append, All-get_or}
use Rattle.session_model.specs.Samples.{below}
use Rattle.session_laws.proofs.LoopLemmas.{Contains-cases, Contains-first, Contains-later}

module _ {X : Type 0} where
  abbrev pub Each : (X → Type 0) → List X → Type 0
  Each P [] = Unit {0}
  Each P (x ∷ xs) = P x × Each P xs

  -- each item before each later one
  abbrev pub Ordered : (X → X → Type 0) → List X → Type 0
  Ordered R [] = Unit {0}
  Ordered R (x ∷ xs) = Each (R x) xs × Ordered R xs

  pub Each-weaker : (P Q : X → Type 0) → ((x : X) → P x → Q x) → (xs : List X) → Each P xs → Each Q xs
  Each-weaker P Q f [] h = tt
  Each-weaker P Q f (x ∷ xs) h = (f x h.0, Each-weaker P Q f xs h.1)

  pub Each-all : (P : X → Type 0) → ((x : X) → P x) → (xs : List X) → Each P xs
  Each-all P f [] = tt
  Each-all P f (x ∷ xs) = (f x, Each-all P f xs)

  pub Each-append : (P : X → Type 0) (xs ys : List X) → Each P xs → Each P ys → Each P (xs ++ ys)
  Each-append P [] ys h k = k
  Each-append P (x ∷ xs) ys h k = (h.0, Each-append P xs ys h.1 k)

  pub Each-contains : (P : X → Type 0) (xs : List X) (x : X) → Each P xs → Contains xs x → P x
  Each-contains P [] x h c = absurd (none c.1)
    where
      none : {n : ℕ} → n < 0 → ⊥
      none p = omega arith
  Each-contains P (y ∷ xs) x h c = go (Contains-cases y x xs c) (λ d. Each-contains P xs x h.1 d)
    where
      go : (y ≡ x) ⊎ Contains xs x → (Contains xs x → P x) → P x
      go (inl e) later = subst P e h.0
      go (inr d) later = later d

  pub Each-from_contains : (P : X → Type 0) (xs : List X) → ((x : X) → Contains xs x → P x) → Each P xs
  Each-from_contains P [] f = tt
  Each-from_contains P (x ∷ xs) f = (f x (Contains-first x xs), Each-from_contains P xs (λ y c. f y (Contains-later x y xs c)))

  pub Each-filter : (P : X → Type 0) (p : X → Bool) (xs : List X) → ((x : X) → p x ≡ true → P x) → Each P (filter p xs)
  Each-filter P p [] f = tt
  Each-filter P p (x ∷ xs) f = go (p x) refl (Each-filter P p xs f)
    where
      go : (b : Bool) → p x ≡ b → Each P (filter p xs) → Each P (cond b (x ∷ filter p xs) (filter p xs))
      go true e h = (f x e, h)
      go false e h = h

  pub Each-filter_kept : (P : X → Type 0) (p : X → Bool) (xs : List X) → Each P xs → Each P (filter p xs)
  Each-filter_kept P p [] h = tt
  Each-filter_kept P p (x ∷ xs) h = go (p x) (Each-filter_kept P p xs h.1)
    where
      go : (b : Bool) → Each P (filter p xs) → Each P (cond b (x ∷ filter p xs) (filter p xs))
      go true k = (h.0, k)
      go false k = k

  pub Ordered-weaker : (R S : X → X → Type 0) → ((x y : X) → R x y → S x y) → (xs : List X) → Ordered R xs → Ordered S xs
  Ordered-weaker R S f [] h = tt
  Ordered-weaker R S f (x ∷ xs) h = (Each-weaker (R x) (S x) (f x) xs h.0, Ordered-weaker R S f xs h.1)

  pub Ordered-filter : (R : X → X → Type 0) (p : X → Bool) (xs : List X) → Ordered R xs → Ordered R (filter p xs)
  Ordered-filter R p [] h = tt
  Ordered-filter R p (x ∷ xs) h = go (p x) (Ordered-filter R p xs h.1)
    where
      go : (b : Bool) → Ordered R (filter p xs) → Ordered R (cond b (x ∷ filter p xs) (filter p xs))
      go true k = (Each-filter_kept (R x) p xs h.0, k)
      go false k = k

  -- a list whose items are related whatever they are
  pub Ordered-any : (R : X → X → Type 0) (P : X → Type 0) → ((x y : X) → P x → P y → R x y) → (xs : List X) → Each P xs → Ordered R xs
  Ordered-any R P f [] h = tt
  Ordered-any R P f (x ∷ xs) h = (Each-weaker P (R x) (λ y q. f x y h.0 q) xs h.1, Ordered-any R P f xs h.1)

  pub Ordered-append : (R : X → X → Type 0) (P Q : X → Type 0) → ((x y : X) → P x → Q y → R x y) → (xs ys : List X) → Ordered R xs → Each P xs → Ordered R ys → Each Q ys → Ordered R (xs ++ ys)
  Ordered-append R P Q f [] ys o h o2 k = o2
  Ordered-append R P Q f (x ∷ xs) ys o h o2 k =
      (Each-append (R x) xs ys o.0 (Each-weaker Q (R x) (λ y q. f x y h.0 q) ys k), Ordered-append R P Q f xs ys o.1 h.1 o2 k)

  pub filter-none : (p : X → Bool) (xs : List X) → Each (λ x. p x ≡ false) xs → filter p xs ≡ []
  filter-none p [] h = refl
  filter-none p (x ∷ xs) h = rw h.0 (filter-none p xs h.1)

  pub filter-all : (p : X → Bool) (xs : List X) → Each (λ x. p x ≡ true) xs → filter p xs ≡ xs
  filter-all p [] h = refl
  filter-all p (x ∷ xs) h = rw h.0 (ap (λ ys. x ∷ ys) (filter-all p xs h.1))

  pub filter-same : (p q : X → Bool) (xs : List X) → Each (λ x. p x ≡ q x) xs → filter p xs ≡ filter q xs
  filter-same p q [] h = refl
  filter-same p q (x ∷ xs) h = rw (h.0, filter-same p q xs h.1) refl

  pub filter-twice : (p q : X → Bool) (xs : List X) → filter p (filter q xs) ≡ filter (λ x. q x && p x) xs
  filter-twice p q [] = refl
  filter-twice p q (x ∷ xs) = go (q x) (filter-twice p q xs)
    where
      go : (b : Bool) → filter p (filter q xs) ≡ filter (λ y. q y && p y) xs
          → filter p (cond b (x ∷ filter q xs) (filter q xs)) ≡ cond (b && p x) (x ∷ filter (λ y. q y && p y) xs) (filter (λ y. q y && p y) xs)
      go true e = rw e refl
      go false e = e

  -- along a rising list the items from s on are those at s and then those from s + 1 on
  pub filter-split : (f : X → ℕ) (s : ℕ) (xs : List X) → Ordered (λ a b. f a ≤ f b) xs
      → filter (λ x. nat_le s (f x)) xs ≡ filter (λ x. f x == s) xs ++ filter (λ x. nat_le (suc s) (f x)) xs
  filter-split f s [] o = refl
  filter-split f s (x ∷ xs) o = go (nat_le s (f x)) (f x == s) (nat_le (suc s) (f x)) refl refl refl (filter-split f s xs o.1)
    where
      none : s < f x → filter (λ y. f y == s) xs ≡ []
      none h = filter-none (λ y. f y == s) xs (Each-weaker (λ y. f x ≤ f y) (λ y. (f y == s) ≡ false) (λ y q. grind (arith, nat_tests)) xs o.0)

      go : (a b c : Bool) → nat_le s (f x) ≡ a → (f x == s) ≡ b → nat_le (suc s) (f x) ≡ c
          → filter (λ y. nat_le s (f y)) xs ≡ filter (λ y. f y == s) xs ++ filter (λ y. nat_le (suc s) (f y)) xs
          → cond a (x ∷ filter (λ y. nat_le s (f y)) xs) (filter (λ y. nat_le s (f y)) xs)
          ≡ cond b (x ∷ filter (λ y. f y == s) xs) (filter (λ y. f y == s) xs) ++ cond c (x ∷ filter (λ y. nat_le (suc s) (f y)) xs) (filter (λ y. nat_le (suc s) (f y)) xs)
      go false false false ea eb ec e = e
      go true true false ea eb ec e = ap (λ ys. x ∷ ys) e
      go true false true ea eb ec e =
          let high : s < f x = grind (arith, nat_tests) in
          rw (none high) (ap (λ ys. x ∷ ys) (rw (none high) at e))
      go false true c ea eb ec e = absurd (grind (arith, nat_tests))
      go false false true ea eb ec e = absurd (grind (arith, nat_tests))
      go true false false ea eb ec e = absurd (grind (arith, nat_tests))
      go true true true ea eb ec e = absurd (grind (arith, nat_tests))

pub filter-flat_map : {X Y : Type 0} (p : Y → Bool) (f : X → List Y) (xs : List X) → filter p (flat_map f xs) ≡ flat_map (λ x. filter p (f x)) xs
filter-flat_map p f [] = refl
filter-flat_map p f (x ∷ xs) = filter-append p (f x) (flat_map f xs) ∙ ap (λ ys. filter p (f x) ++ ys) (filter-flat_map p f xs)

pub Each-flat_map : {X Y : Type 0} (P : Y → Type 0) (f : X → List Y) (xs : List X) → Each (λ x. Each P (f x)) xs → Each P (flat_map f xs)
Each-flat_map P f [] h = tt
Each-flat_map P f (x ∷ xs) h = Each-append P (f x) (flat_map f xs) h.0 (Each-flat_map P f xs h.1)

pub Each-map : {X Y : Type 0} (P : Y → Type 0) (f : X → Y) (xs : List X) → Each (λ x. P (f x)) xs → Each P (map f xs)
Each-map P f [] h = tt
Each-map P f (x ∷ xs) h = (h.0, Each-map P f xs h.1)

pub Each-below : (P : ℕ → Type 0) (n : ℕ) → ((i : ℕ) → i < n → P i) → Each P (below n)
Each-below P zero f = tt
Each-below P (suc n) f = Each-append P (below n) (n ∷ []) (Each-below P n (λ i h. f i (omega arith))) (f n (omega arith), tt)

module _ {X : Type 0} where
  pub Each-both : (P Q S : X → Type 0) → ((x : X) → P x → Q x → S x) → (xs : List X) → Each P xs → Each Q xs → Each S xs
  Each-both P Q S f [] h k = tt
  Each-both P Q S f (x ∷ xs) h k = (f x h.0 k.0, Each-both P Q S f xs h.1 k.1)

  -- what holds of each item may be used for the order
  pub Ordered-with : (R S : X → X → Type 0) (P : X → Type 0) → ((x y : X) → P x → P y → R x y → S x y) → (xs : List X) → Each P xs → Ordered R xs → Ordered S xs
  Ordered-with R S P f [] h o = tt
  Ordered-with R S P f (x ∷ xs) h o = (Each-both P (R x) (S x) (λ y q r. f x y h.0 q r) xs h.1 o.0, Ordered-with R S P f xs h.1 o.1)

  pub Contains-kept : (p : X → Bool) (xs : List X) (x : X) → p x ≡ true → Contains xs x → Contains (filter p xs) x
  Contains-kept p [] x e c = absurd (none c.1)
    where
      none : {n : ℕ} → n < 0 → ⊥
      none q = omega arith
  Contains-kept p (y ∷ xs) x e c = go (p y) refl (Contains-cases y x xs c) (λ d. Contains-kept p xs x e d)
    where
      go : (b : Bool) → p y ≡ b → (y ≡ x) ⊎ Contains xs x → (Contains xs x → Contains (filter p xs) x) → Contains (cond b (y ∷ filter p xs) (filter p xs)) x
      go true t (inl q) later = subst (λ z. Contains (z ∷ filter p xs) x) (sym q) (Contains-first x (filter p xs))
      go true t (inr d) later = Contains-later y x (filter p xs) (later d)
      go false t (inl q) later = absurd (true≢false (sym e ∙ ap p (sym q) ∙ t))
      go false t (inr d) later = later d

  pub Contains-filtered : (p : X → Bool) (xs : List X) (x : X) → Contains (filter p xs) x → Contains xs x
  Contains-filtered p xs x c = Each-contains (λ y. Contains xs y) (filter p xs) x (Each-filter_kept (λ y. Contains xs y) p xs (Each-from_contains (λ y. Contains xs y) xs (λ y d. d))) c

  -- lists with the same items of each class have the same length
  pub length-classes : (f : X → ℕ) (n : ℕ) (xs ys : List X) → Each (λ x. f x < n) xs → Each (λ x. f x < n) ys
      → ((c : ℕ) → c < n → filter (λ x. f x == c) xs ≡ filter (λ x. f x == c) ys) → length xs ≡ length ys
  length-classes f zero [] [] h k e = refl
  length-classes f zero [] (y ∷ ys) h k e = absurd (none (f y) k.0)
    where
      none : (n : ℕ) → n < 0 → ⊥
      none n q = omega arith
  length-classes f zero (x ∷ xs) ys h k e = absurd (none (f x) h.0)
    where
      none : (n : ℕ) → n < 0 → ⊥
      none n q = omega arith
  length-classes f (suc n) xs ys h k e =
      let others : X → Bool = λ x. not (f x == n) in
      let below_n : (x : X) → others x ≡ true → f x < suc n → f x < n = λ x t q. grind (arith, nat_tests) in
      let fewer : (zs : List X) → Each (λ x. f x < suc n) zs → Each (λ x. f x < n) (filter others zs) = λ zs q.
      Each-both (λ x. others x ≡ true) (λ x. f x < suc n) (λ x. f x < n) below_n (filter others zs)
      (Each-filter (λ x. others x ≡ true) others zs (λ x t. t)) (Each-filter_kept (λ x. f x < suc n) others zs q) in
      let same : (c : ℕ) → c < n → (zs : List X) → filter (λ x. f x == c) (filter others zs) ≡ filter (λ x. f x == c) zs = λ c q zs.
      filter-twice (λ x. f x == c) others zs
      ∙ filter-same (λ x. others x && f x == c) (λ x. f x == c) zs (Each-all (λ x. (others x && f x == c) ≡ (f x == c)) (λ x. grind (arith, nat_tests)) zs) in
      let rest : length (filter others xs) ≡ length (filter others ys) =
      length-classes f n (filter others xs) (filter others ys) (fewer xs h) (fewer ys k) (λ c q. same c q xs ∙ e c (omega (arith, q)) ∙ sym (same c q ys)) in
      let here : length (filter (λ x. f x == n) xs) ≡ length (filter (λ x. f x == n) ys) = ap length (e n (omega arith)) in
      let first : length (filter (λ x. f x == n) xs) + length (filter others xs) ≡ length xs = length-filter_both (λ x. f x == n) others (λ x. refl) xs in
      let second : length (filter (λ x. f x == n) ys) + length (filter others ys) ≡ length ys = length-filter_both (λ x. f x == n) others (λ x. refl) ys in
      omega arith

pub Ordered-map : {X Y : Type 0} (R : Y → Y → Type 0) (f : X → Y) (xs : List X) → Ordered (λ a b. R (f a) (f b)) xs → Ordered R (map f xs)
Ordered-map R f [] h = tt
Ordered-map R f (x ∷ xs) h = (Each-map (R (f x)) f xs h.0, Ordered-map R f xs h.1)

pub flat_map-same : {X Y : Type 0} (f g : X → List Y) → ((x : X) → f x ≡ g x) → (xs : List X) → flat_map f xs ≡ flat_map g xs
flat_map-same f g e [] = refl
flat_map-same f g e (x ∷ xs) = ap₂ (λ ys zs. ys ++ zs) (e x) (flat_map-same f g e xs)

pub flat_map-none : {X Y : Type 0} (f : X → List Y) → ((x : X) → f x ≡ []) → (xs : List X) → flat_map f xs ≡ []
flat_map-none f e [] = refl
flat_map-none f e (x ∷ xs) = ap₂ (λ ys zs. ys ++ zs) (e x) (flat_map-none f e xs)

-- ---- places

slice-none : {X : Type 0} (x : X) → None ≡ Some x → ⊥
slice-none x e = cc

pub slice-some : {X : Type 0} (x y : X) → Some x ≡ Some y → x ≡ y
slice-some x y e = cc

pub slice_get-map : {X Y : Type 0} (f : X → Y) (xs : List X) (i : ℕ) (y : Y) → slice_get (map f xs) i ≡ Some y → (x : X) × (slice_get xs i ≡ Some x) × (f x ≡ y)
slice_get-map f [] i y h = absurd (slice-none y h)
slice_get-map f (x ∷ xs) zero y h = (x, refl, slice-some (f x) y h)
slice_get-map f (x ∷ xs) (suc i) y h = slice_get-map f xs i y h

pub map-take : {X Y : Type 0} (f : X → Y) (i : ℕ) (xs : List X) → map f (take i xs) ≡ take i (map f xs)
map-take f zero xs = refl
map-take f (suc i) [] = refl
map-take f (suc i) (x ∷ xs) = ap (λ ys. f x ∷ ys) (map-take f i xs)

pub Contains-map : {X Y : Type 0} (f : X → Y) (xs : List X) (x : X) → Contains xs x → Contains (map f xs) (f x)
Contains-map f [] x c = absurd (none c.1)
  where
    none : {n : ℕ} → n < 0 → ⊥
    none q = omega arith
Contains-map f (y ∷ xs) x c = go (Contains-cases y x xs c) (λ d. Contains-map f xs x d)
  where
    go : (y ≡ x) ⊎ Contains xs x → (Contains xs x → Contains (map f xs) (f x)) → Contains (f y ∷ map f xs) (f x)
    go (inl e) later = subst (λ z. Contains (f z ∷ map f xs) (f x)) (sym e) (Contains-first (f x) (map f xs))
    go (inr d) later = Contains-later (f y) (f x) (map f xs) (later d)

pub Each-unmap : {X Y : Type 0} (P : Y → Type 0) (f : X → Y) (xs : List X) → Each P (map f xs) → Each (λ x. P (f x)) xs
Each-unmap P f [] h = tt
Each-unmap P f (x ∷ xs) h = (h.0, Each-unmap P f xs h.1)

module _ {X : Type 0} where
  pub Each-drop : (P : X → Type 0) (i : ℕ) (xs : List X) → Each P xs → Each P (drop i xs)
  Each-drop P zero xs h = h
  Each-drop P (suc i) [] h = tt
  Each-drop P (suc i) (x ∷ xs) h = Each-drop P i xs h.1

  pub Each-at : (P : X → Type 0) (xs : List X) (i : ℕ) (x : X) → Each P xs → slice_get xs i ≡ Some x → P x
  Each-at P [] i x h e = absurd (slice-none x e)
  Each-at P (y ∷ xs) zero x h e = subst P (slice-some y x e) h.0
  Each-at P (y ∷ xs) (suc i) x h e = Each-at P xs i x h.1 e

  pub Contains-at : (xs : List X) (i : ℕ) (x : X) → slice_get xs i ≡ Some x → Contains xs x
  Contains-at xs i x e = Each-at (Contains xs) xs i x (Each-from_contains (Contains xs) xs (λ y c. c)) e

  -- of an ordered list each item is in front of a place or not before the item there
  pub front_or_later : (R : X → X → Type 0) (xs : List X) (i : ℕ) (q y : X) → Ordered R xs → slice_get xs i ≡ Some q → Contains xs y → Contains (take i xs) y ⊎ ((q ≡ y) ⊎ R q y)
  front_or_later R [] i q y o e c = absurd (slice-none q e)
  front_or_later R (x ∷ xs) zero q y o e c = go (Contains-cases x y xs c)
    where
      go : (x ≡ y) ⊎ Contains xs y → Contains [] y ⊎ ((q ≡ y) ⊎ R q y)
      go (inl s) = inr (inl (sym (slice-some x q e) ∙ s))
      go (inr d) = inr (inr (subst (λ z. R z y) (slice-some x q e) (Each-contains (R x) xs y o.0 d)))
  front_or_later R (x ∷ xs) (suc i) q y o e c = go (Contains-cases x y xs c) (λ d. front_or_later R xs i q y o.1 e d)
    where
      go : (x ≡ y) ⊎ Contains xs y → (Contains xs y → Contains (take i xs) y ⊎ ((q ≡ y) ⊎ R q y)) → Contains (x ∷ take i xs) y ⊎ ((q ≡ y) ⊎ R q y)
      go (inl s) later = inl (subst (λ z. Contains (z ∷ take i xs) y) (sym s) (Contains-first y (take i xs)))
      go (inr d) later = ⊎_elim (λ k. inl (Contains-later x y (take i xs) k)) (λ k. inr k) (later d)

  pub later_each : (R : X → X → Type 0) (xs : List X) (i : ℕ) (q : X) → Ordered R xs → slice_get xs i ≡ Some q → Each (λ y. (q ≡ y) ⊎ R q y) (drop i xs)
  later_each R [] i q o e = absurd (slice-none q e)
  later_each R (x ∷ xs) zero q o e =
      (inl (sym (slice-some x q e)), Each-weaker (R x) (λ y. (q ≡ y) ⊎ R q y) (λ y r. inr (subst (λ z. R z y) (slice-some x q e) r)) xs o.0)
  later_each R (x ∷ xs) (suc i) q o e = later_each R xs i q o.1 e

  -- a filter that passes more keeps more
  pub length-kept : {Y : Type 0} (f : X → Option Y) (p q : X → Bool) (xs : List X) → Each (λ x. p x ≡ true → q x ≡ true) xs → length (filter_map f (filter p xs)) ≤ length (filter_map f (filter q xs))
  length-kept {Y = Y} f p q [] h = omega arith
  length-kept {Y = Y} f p q (x ∷ xs) h = go (p x) (q x) (f x) h.0 (length-kept f p q xs h.1)
    where
      go : (a b : Bool) (o : Option Y) → (a ≡ true → b ≡ true) → length (filter_map f (filter p xs)) ≤ length (filter_map f (filter q xs))
          → length (filter_map f (cond a (x ∷ filter p xs) (filter p xs))) ≤ length (filter_map f (cond b (x ∷ filter q xs) (filter q xs)))
      go true false o k m = absurd (true≢false (sym (k refl)))
      go true true o k m = more (f x) m
        where
          more : (r : Option Y) → length (filter_map f (filter p xs)) ≤ length (filter_map f (filter q xs)) → length (cons_option r (filter_map f (filter p xs))) ≤ length (cons_option r (filter_map f (filter q xs)))
          more None n = n
          more (Some y) n = omega (arith, n)
      go false true o k m = more (f x) m
        where
          more : (r : Option Y) → length (filter_map f (filter p xs)) ≤ length (filter_map f (filter q xs)) → length (filter_map f (filter p xs)) ≤ length (cons_option r (filter_map f (filter q xs)))
          more None n = n
          more (Some y) n = omega (arith, n)
      go false false o k m = m

pub IsNonDecreasing-ordered : (xs : List ℕ) → Ordered (λ a b. a ≤ b) xs → IsNonDecreasing xs
IsNonDecreasing-ordered [] o i j d h k = absurd (omega arith)
IsNonDecreasing-ordered (x ∷ xs) o zero zero d h k = omega arith
IsNonDecreasing-ordered (x ∷ xs) o zero (suc j) d h k = All-get_or (λ y. x ≤ y) xs j d (omega (arith, k)) (All-from_each (λ y. x ≤ y) xs o.0)
  where
    All-from_each : (P : ℕ → Type 0) (ys : List ℕ) → Each P ys → All P ys
    All-from_each P [] h k d b = absurd (omega arith)
    All-from_each P (y ∷ ys) h zero d b = h.0
    All-from_each P (y ∷ ys) h (suc k) d b = All-from_each P ys h.1 k d (omega (arith, b))
IsNonDecreasing-ordered (x ∷ xs) o (suc i) zero d h k = absurd (omega (arith, h))
IsNonDecreasing-ordered (x ∷ xs) o (suc i) (suc j) d h k = IsNonDecreasing-ordered xs o.1 i j d (omega (arith, h)) (omega (arith, k))
