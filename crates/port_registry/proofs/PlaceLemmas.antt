-- Lists by place: the only item that passes a test, what is pushed, removed and set.
use Rattle.std.proofs.Common.{◌≡◌, ℕ, zero, suc, ◌+◌, ◌<◌, ◌≤◌, Bool, true, false, cond, not, nat_lt, if◌then◌else◌, List, [], ◌∷◌, ◌++◌, length, map, filter, find, take, drop, remove, slice_get, get_or, set, position, Contains, Option, Some, None, is_some, IfSome, option_copied, Bor, ◌⊎◌, inl, inr, refl, sym, ◌∙◌, ap, ap₂, subst, arith, true≢false}
use Rattle.std.specs.List.{position_or_len}
use Rattle.std.proofs.lemmas.Bool.Decides.{nat_tests}
use Rattle.std.proofs.lemmas.List.Folds.{find_at}
use Rattle.std.proofs.lemmas.List.Quantifiers.{position-Some}
use Rattle.std.proofs.lemmas.Option.{slice_get-get_or}
use Rattle.session_laws.specs.session_model.specs.Soundness.{Apart}
use Rattle.session_laws.proofs.ListLemmas.{Each, filter-all}
use Rattle.session_laws.proofs.LoopLemmas.{Contains-later, Contains-first}

pub some_same : {X : Type 0} {x y : X} → Some x ≡ Some y → x ≡ y
some_same p = cc

pub none_some : {X : Type 0} {x : X} → None ≡ Some x → ⊥
none_some p = cc

nat_lt-self : (n : ℕ) → nat_lt n n ≡ false
nat_lt-self n = grind (arith, nat_tests)

nat_lt-below : (i n : ℕ) → i < n → nat_lt i n ≡ true
nat_lt-below i n h = grind (arith, nat_tests)

nat_lt-above : (i n : ℕ) → nat_lt i n ≡ true → i < n
nat_lt-above i n h = grind (arith, nat_tests)

module _ {X : Type 0} where
  pub slice_get-below : (xs : List X) (k : ℕ) (x : X) → slice_get xs k ≡ Some x → k < length xs
  slice_get-below [] k x h = absurd (none_some h)
  slice_get-below (y ∷ ys) zero x h = omega arith
  slice_get-below (y ∷ ys) (suc k) x h = let r : k < length ys = slice_get-below ys k x h in omega (arith, r)

  pub slice_get-contains : (xs : List X) (k : ℕ) (x : X) → slice_get xs k ≡ Some x → Contains xs x
  slice_get-contains [] k x h = absurd (none_some h)
  slice_get-contains (y ∷ ys) zero x h = subst (λ z. Contains (y ∷ ys) z) (some_same h) (Contains-first y ys)
  slice_get-contains (y ∷ ys) (suc k) x h = Contains-later y x ys (slice_get-contains ys k x h)

  pub contains-slice_get : (xs : List X) (x : X) → Contains xs x → (k : ℕ) × (slice_get xs k ≡ Some x)
  contains-slice_get xs x c = (c.0, slice_get-get_or xs c.0 x c.1 ∙ ap Some c.2)

  -- the test passes nowhere but at place i
  abbrev pub IsOnlyAt : (X → Bool) → List X → ℕ → Type 0
  IsOnlyAt test xs i = (k : ℕ) (y : X) → slice_get xs k ≡ Some y → test y ≡ true → k ≡ i

  IsOnlyAt-later : (test : X → Bool) (y : X) (ys : List X) (i : ℕ) → IsOnlyAt test (y ∷ ys) (suc i) → IsOnlyAt test ys i
  IsOnlyAt-later test y ys i only k z h t = let e : suc k ≡ suc i = only (suc k) z h t in omega (arith, e)

  first_fails : (test : X → Bool) (y : X) (ys : List X) (i : ℕ) → IsOnlyAt test (y ∷ ys) (suc i) → test y ≡ false
  first_fails test y ys i only = go (test y) refl
    where
      clash : 0 ≡ suc i → ⊥
      clash e = omega (arith, e)

      go : (b : Bool) → test y ≡ b → test y ≡ false
      go true e = absurd (clash (only 0 y refl e))
      go false e = e

  place-only : (test : X → Bool) (xs : List X) (i : ℕ) (x : X) → slice_get xs i ≡ Some x → test x ≡ true → IsOnlyAt test xs i → position_or_len test xs ≡ i
  place-only test [] i x h t only = absurd (none_some h)
  place-only test (y ∷ ys) zero x h t only = ap (λ b. cond (not b) (1 + position_or_len test ys) 0) (ap test (some_same h) ∙ t)
  place-only test (y ∷ ys) (suc i) x h t only =
      let rest : position_or_len test ys ≡ i = place-only test ys i x h t (IsOnlyAt-later test y ys i only) in
      ap (λ b. cond (not b) (1 + position_or_len test ys) 0) (first_fails test y ys i only) ∙ omega (arith, rest)

  pub position-only : (test : X → Bool) (xs : List X) (i : ℕ) (x : X) → slice_get xs i ≡ Some x → test x ≡ true → IsOnlyAt test xs i → position test xs ≡ Some i
  position-only test xs i x h t only =
      ap (λ n. cond (nat_lt n (length xs)) (Some n) None) (place-only test xs i x h t only)
      ∙ ap (λ b. cond b (Some i) None) (nat_lt-below i (length xs) (slice_get-below xs i x h))

  place-none : (test : X → Bool) (xs : List X) → ((k : ℕ) (y : X) → slice_get xs k ≡ Some y → test y ≡ true → ⊥) → position_or_len test xs ≡ length xs
  place-none test [] none = refl
  place-none test (y ∷ ys) none = go (test y) refl (place-none test ys (λ k z h t. none (suc k) z h t))
    where
      go : (b : Bool) → test y ≡ b → position_or_len test ys ≡ length ys → cond (not b) (1 + position_or_len test ys) 0 ≡ length (y ∷ ys)
      go true e rest = absurd (none 0 y refl e)
      go false e rest = omega (arith, rest)

  pub position-none : (test : X → Bool) (xs : List X) → ((k : ℕ) (y : X) → slice_get xs k ≡ Some y → test y ≡ true → ⊥) → position test xs ≡ None
  position-none test xs none =
      ap (λ n. cond (nat_lt n (length xs)) (Some n) None) (place-none test xs none)
      ∙ ap (λ b. cond b (Some (length xs)) None) (nat_lt-self (length xs))

  -- what stands at the place of the first item that passes is the first item that passes
  pub position-find : (test : X → Bool) (xs : List X) (i : ℕ) → position test xs ≡ Some i → slice_get xs i ≡ find test xs
  position-find test xs i h = go (nat_lt (position_or_len test xs) (length xs)) h
    where
      go : (b : Bool) → cond b (Some (position_or_len test xs)) None ≡ Some i → slice_get xs i ≡ find test xs
      go true e = ap (slice_get xs) (sym (some_same e)) ∙ sym (find_at test xs)
      go false e = absurd (none_some e)

  -- what stands there passes
  pub position-at : (test : X → Bool) (xs : List X) (i : ℕ) (d : X) → position test xs ≡ Some i → (slice_get xs i ≡ Some (get_or xs i d)) × (test (get_or xs i d) ≡ true)
  position-at test xs i d h = let w = position-Some test xs i d h in (slice_get-get_or xs i d w.0, w.1)

  pub position-at-some : (test : X → Bool) (xs : List X) (i : ℕ) → position test xs ≡ Some i → (x : X) × (slice_get xs i ≡ Some x)
  position-at-some test [] i h = absurd (none_some h)
  position-at-some test (y ∷ ys) i h = (get_or (y ∷ ys) i y, (position-at test (y ∷ ys) i y h).0)

  find-past : (test : X → Bool) (xs : List X) → nat_lt (position_or_len test xs) (length xs) ≡ false → find test xs ≡ None
  find-past test [] h = refl
  find-past test (y ∷ ys) h = go (test y) refl (find-past test ys)
    where
      first : test y ≡ true → ⊥
      first e =
          let here : position_or_len test (y ∷ ys) ≡ 0 = ap (λ b. cond (not b) (1 + position_or_len test ys) 0) e in
          let within : position_or_len test (y ∷ ys) < length (y ∷ ys) = omega (arith, here) in
          true≢false (sym (nat_lt-below (position_or_len test (y ∷ ys)) (length (y ∷ ys)) within) ∙ h)

      later : test y ≡ false → nat_lt (position_or_len test ys) (length ys) ≡ false
      later e =
          let shifted : position_or_len test (y ∷ ys) ≡ 1 + position_or_len test ys = ap (λ b. cond (not b) (1 + position_or_len test ys) 0) e in
          by (nat_lt (position_or_len test ys) (length ys)) refl shifted
        where
          by : (b : Bool) → nat_lt (position_or_len test ys) (length ys) ≡ b → position_or_len test (y ∷ ys) ≡ 1 + position_or_len test ys → nat_lt (position_or_len test ys) (length ys) ≡ false
          by true t s =
              let low : position_or_len test ys < length ys = nat_lt-above (position_or_len test ys) (length ys) t in
              let within : position_or_len test (y ∷ ys) < length (y ∷ ys) = omega (arith, low, s) in
              absurd (true≢false (sym (nat_lt-below (position_or_len test (y ∷ ys)) (length (y ∷ ys)) within) ∙ h))
          by false t s = t

      go : (b : Bool) → test y ≡ b → (nat_lt (position_or_len test ys) (length ys) ≡ false → find test ys ≡ None) → cond b (Some y) (find test ys) ≡ None
      go true e rest = absurd (first e)
      go false e rest = rest (later e)

  pub position-find_none : (test : X → Bool) (xs : List X) → position test xs ≡ None → find test xs ≡ None
  position-find_none test xs h = go (nat_lt (position_or_len test xs) (length xs)) refl h
    where
      go : (b : Bool) → nat_lt (position_or_len test xs) (length xs) ≡ b → cond b (Some (position_or_len test xs)) None ≡ None → find test xs ≡ None
      go true t e = absurd (none_some (sym e))
      go false t e = find-past test xs t

  Each-places : (P : X → Type 0) (xs : List X) → ((k : ℕ) (y : X) → slice_get xs k ≡ Some y → P y) → Each P xs
  Each-places P [] h = tt
  Each-places P (x ∷ xs) h = (h 0 x refl, Each-places P xs (λ k y e. h (suc k) y e))

  -- taking the only item that passes away leaves those that do not pass
  pub remove-filter : (test : X → Bool) (xs : List X) (i : ℕ) (x : X) → slice_get xs i ≡ Some x → test x ≡ true → IsOnlyAt test xs i → remove xs i ≡ filter (λ y. not (test y)) xs
  remove-filter test [] i x h t only = absurd (none_some h)
  remove-filter test (y ∷ ys) zero x h t only =
      sym (filter-all (λ z. not (test z)) ys (Each-places (λ z. not (test z) ≡ true) ys others))
      ∙ ap (λ b. cond b (y ∷ filter (λ z. not (test z)) ys) (filter (λ z. not (test z)) ys)) (sym (ap not (ap test (some_same h) ∙ t)))
    where
      clash : {k : ℕ} → suc k ≡ 0 → ⊥
      clash e = omega (arith, e)

      others : (k : ℕ) (z : X) → slice_get ys k ≡ Some z → not (test z) ≡ true
      others k z e = go (test z) refl
        where
          go : (b : Bool) → test z ≡ b → not b ≡ true
          go true f = absurd (clash (only (suc k) z e f))
          go false f = refl
  remove-filter test (y ∷ ys) (suc i) x h t only =
      ap (λ zs. y ∷ zs) (remove-filter test ys i x h t (IsOnlyAt-later test y ys i only))
      ∙ ap (λ b. cond (not b) (y ∷ filter (λ z. not (test z)) ys) (filter (λ z. not (test z)) ys)) (sym (first_fails test y ys i only))

  find-none_at : (test : X → Bool) (ys : List X) (k : ℕ) (y : X) → slice_get ys k ≡ Some y → test y ≡ true → find test ys ≡ None → ⊥
  find-none_at test [] k y e t f = none_some e
  find-none_at test (z ∷ zs) zero y e t f = none_some (sym f ∙ ap (λ b. cond b (Some z) (find test zs)) (ap test (some_same e) ∙ t))
  find-none_at test (z ∷ zs) (suc k) y e t f = by (test z) f (λ g. find-none_at test zs k y e t g)
    where
      by : (b : Bool) → cond b (Some z) (find test zs) ≡ None → (find test zs ≡ None → ⊥) → ⊥
      by true g rest = none_some (sym g)
      by false g rest = rest g

  -- where nothing passes, nothing is taken away
  pub filter-none_passes : (test : X → Bool) (xs : List X) → position test xs ≡ None → filter (λ y. not (test y)) xs ≡ xs
  filter-none_passes test xs h = filter-all (λ y. not (test y)) xs (Each-places (λ y. not (test y) ≡ true) xs (λ k y e. go k y e (test y) refl))
    where
      go : (k : ℕ) (y : X) → slice_get xs k ≡ Some y → (b : Bool) → test y ≡ b → not b ≡ true
      go k y e true t = absurd (find-none_at test xs k y e t (position-find_none test xs h))
      go k y e false t = refl

  -- setting the only item that passes changes those that pass
  pub set-map : (test : X → Bool) (change : X → X) (xs : List X) (i : ℕ) (x : X) → slice_get xs i ≡ Some x → test x ≡ true → IsOnlyAt test xs i
      → set xs i (change x) ≡ map (λ y. if test y then change y else y) xs
  set-map test change [] i x h t only = absurd (none_some h)
  set-map test change (y ∷ ys) zero x h t only =
      ap (λ zs. change x ∷ zs) (sym (unchanged ys (λ k z e f. clash (only (suc k) z e f))))
      ∙ ap (λ z. z ∷ map (λ w. if test w then change w else w) ys) (ap change (sym (some_same h)) ∙ ap (λ b. cond b (change y) y) (sym (ap test (some_same h) ∙ t)))
    where
      clash : {k : ℕ} → suc k ≡ 0 → ⊥
      clash e = omega (arith, e)

      unchanged : (zs : List X) → ((k : ℕ) (z : X) → slice_get zs k ≡ Some z → test z ≡ true → ⊥) → map (λ w. if test w then change w else w) zs ≡ zs
      unchanged [] none = refl
      unchanged (z ∷ zs) none = ap (λ w. w ∷ map (λ v. if test v then change v else v) zs) (go (test z) refl) ∙ ap (λ ws. z ∷ ws) (unchanged zs (λ k w e f. none (suc k) w e f))
        where
          go : (b : Bool) → test z ≡ b → cond b (change z) z ≡ z
          go true f = absurd (none 0 z refl f)
          go false f = refl
  set-map test change (y ∷ ys) (suc i) x h t only =
      ap (λ zs. y ∷ zs) (set-map test change ys i x h t (IsOnlyAt-later test y ys i only))
      ∙ ap (λ b. cond b (change y) y ∷ map (λ w. if test w then change w else w) ys) (sym (first_fails test y ys i only))

  pub map-none_passes : (test : X → Bool) (change : X → X) (xs : List X) → position test xs ≡ None → map (λ y. if test y then change y else y) xs ≡ xs
  map-none_passes test change xs h = go xs (position-find_none test xs h)
    where
      go : (ys : List X) → find test ys ≡ None → map (λ y. if test y then change y else y) ys ≡ ys
      go [] f = refl
      go (y ∷ ys) f = by (test y) refl f (go ys)
        where
          by : (b : Bool) → test y ≡ b → cond b (Some y) (find test ys) ≡ None → (find test ys ≡ None → map (λ z. if test z then change z else z) ys ≡ ys)
              → cond b (change y) y ∷ map (λ z. if test z then change z else z) ys ≡ y ∷ ys
          by true e g rest = absurd (none_some (sym g))
          by false e g rest = ap (λ zs. y ∷ zs) (rest g)

  -- an item of a list with one more stands in the list, or is that one
  pub slice_get-push : (xs : List X) (y : X) (k : ℕ) (z : X) → slice_get (xs ++ y ∷ []) k ≡ Some z → (slice_get xs k ≡ Some z) ⊎ ((k ≡ length xs) × (y ≡ z))
  slice_get-push [] y zero z h = inr (refl, some_same h)
  slice_get-push [] y (suc k) z h = absurd (none_some h)
  slice_get-push (x ∷ xs) y zero z h = inl h
  slice_get-push (x ∷ xs) y (suc k) z h = go (slice_get-push xs y k z h)
    where
      go : (slice_get xs k ≡ Some z) ⊎ ((k ≡ length xs) × (y ≡ z)) → (slice_get xs k ≡ Some z) ⊎ ((suc k ≡ length (x ∷ xs)) × (y ≡ z))
      go (inl e) = inl e
      go (inr p) = let e : k ≡ length xs = p.0 in inr (omega (arith, e), p.1)

  -- an item of a list with one less stood in front of the one that went, or behind it
  pub slice_get-remove : (xs : List X) (i k : ℕ) (z : X) → slice_get (remove xs i) k ≡ Some z → ((k < i) × (slice_get xs k ≡ Some z)) ⊎ ((i ≤ k) × (slice_get xs (suc k) ≡ Some z))
  slice_get-remove [] i k z h = absurd (none_some (lone i k h))
    where
      lone : (i k : ℕ) → slice_get (remove [] i) k ≡ Some z → None ≡ Some z
      lone zero k e = e
      lone (suc i) k e = e
  slice_get-remove (x ∷ xs) zero k z h = inr (omega arith, h)
  slice_get-remove (x ∷ xs) (suc i) zero z h = inl (omega arith, h)
  slice_get-remove (x ∷ xs) (suc i) (suc k) z h = go (slice_get-remove xs i k z h)
    where
      go : ((k < i) × (slice_get xs k ≡ Some z)) ⊎ ((i ≤ k) × (slice_get xs (suc k) ≡ Some z)) → ((suc k < suc i) × (slice_get xs k ≡ Some z)) ⊎ ((suc i ≤ suc k) × (slice_get xs (suc k) ≡ Some z))
      go (inl p) = let e : k < i = p.0 in inl (omega (arith, e), p.1)
      go (inr p) = let e : i ≤ k = p.0 in inr (omega (arith, e), p.1)

  -- where the places of items can be read from their keys, no two have one key
  pub Apart-placed : (key : X → ℕ) (at : ℕ → Option ℕ) (from : ℕ) (xs : List X) → ((i : ℕ) (x : X) → slice_get xs i ≡ Some x → at (key x) ≡ Some (from + i)) → Apart key xs
  unfolding contains-slice_get
  Apart-placed key at from [] h = tt
  Apart-placed key at from (x ∷ xs) h = (first, Apart-placed key at (suc from) xs (λ i y e. h (suc i) y e ∙ ap Some (shift i)))
    where
      shift : (i : ℕ) → from + suc i ≡ suc from + i
      shift i = omega arith

      clash : (k : ℕ) → from + 0 ≡ from + suc k → ⊥
      clash k e = omega (arith, e)

      first : (y : X) → Contains xs y → key x ≡ key y → ⊥
      first y c e =
          let at_y : slice_get xs c.0 ≡ Some y = (contains-slice_get xs y c).1 in
          clash c.0 (some_same (sym (h 0 x refl) ∙ ap at e ∙ h (suc c.0) y at_y))

  slice_get-past : (xs : List X) (i : ℕ) → length xs ≤ i → slice_get xs i ≡ None
  slice_get-past [] i h = refl
  slice_get-past (x ∷ xs) zero h = absurd (none_above h)
    where
      none_above : length (x ∷ xs) ≤ 0 → ⊥
      none_above p = omega (arith, p)
  slice_get-past (x ∷ xs) (suc i) h = slice_get-past xs i (omega (arith, h))

  -- what `get` gives, as the definitions read a list
  pub copied-slice_get : (result : Option (Bor X)) (xs : List X) (i : ℕ) → is_some result ≡ nat_lt i (length xs) → IfSome result (λ x. x.now ≡ get_or xs i x.now) → option_copied result ≡ slice_get xs i
  copied-slice_get None xs i h k = sym (slice_get-past xs i (above i (length xs) (sym h)))
    where
      above : (i n : ℕ) → nat_lt i n ≡ false → n ≤ i
      above i n e = grind (arith, nat_tests)
  copied-slice_get (Some x) xs i h k = sym (slice_get-get_or xs i x.now (nat_lt-above i (length xs) (sym h)) ∙ ap Some (sym k))

  -- items of one key stand at one place
  pub Apart-place : {K : Type 0} (key : X → K) (xs : List X) (i j : ℕ) (x y : X) → Apart key xs → slice_get xs i ≡ Some x → slice_get xs j ≡ Some y → key x ≡ key y → i ≡ j
  Apart-place key [] i j x y h a b e = absurd (none_some a)
  Apart-place key (z ∷ xs) zero zero x y h a b e = refl
  Apart-place key (z ∷ xs) zero (suc j) x y h a b e = absurd (h.0 y (slice_get-contains xs j y b) (ap key (some_same a) ∙ e))
  Apart-place key (z ∷ xs) (suc i) zero x y h a b e = absurd (h.0 x (slice_get-contains xs i x a) (ap key (some_same b) ∙ sym e))
  Apart-place key (z ∷ xs) (suc i) (suc j) x y h a b e = ap suc (Apart-place key xs i j x y h.1 a b e)

  place-same : (p q : X → Bool) (xs : List X) → ((x : X) → Contains xs x → p x ≡ q x) → position_or_len p xs ≡ position_or_len q xs
  place-same p q [] h = refl
  place-same p q (x ∷ xs) h = ap₂ (λ b n. cond (not b) (1 + n) 0) (h x (Contains-first x xs)) (place-same p q xs (λ y m. h y (Contains-later x y xs m)))

  pub position-same : (p q : X → Bool) (xs : List X) → ((x : X) → Contains xs x → p x ≡ q x) → position p xs ≡ position q xs
  position-same p q xs h = ap (λ n. cond (nat_lt n (length xs)) (Some n) None) (place-same p q xs h)

  pub find-none : (test : X → Bool) (xs : List X) → ((x : X) → Contains xs x → test x ≡ true → ⊥) → find test xs ≡ None
  find-none test [] h = refl
  find-none test (x ∷ xs) h = go (test x) refl (find-none test xs (λ y m t. h y (Contains-later x y xs m) t))
    where
      go : (b : Bool) → test x ≡ b → find test xs ≡ None → cond b (Some x) (find test xs) ≡ None
      go true e rest = absurd (h x (Contains-first x xs) e)
      go false e rest = rest

  pub filter-empty : (test : X → Bool) (xs : List X) → ((x : X) → Contains xs x → test x ≡ true → ⊥) → filter test xs ≡ []
  filter-empty test [] h = refl
  filter-empty test (x ∷ xs) h = go (test x) refl (filter-empty test xs (λ y m t. h y (Contains-later x y xs m) t))
    where
      go : (b : Bool) → test x ≡ b → filter test xs ≡ [] → cond b (x ∷ filter test xs) (filter test xs) ≡ []
      go true e rest = absurd (h x (Contains-first x xs) e)
      go false e rest = rest

module _ {X Y : Type 0} (f : X → Y) where
  place-map : (p : Y → Bool) (xs : List X) → position_or_len p (map f xs) ≡ position_or_len (λ x. p (f x)) xs
  place-map p [] = refl
  place-map p (x ∷ xs) = ap (λ n. cond (not (p (f x))) (1 + n) 0) (place-map p xs)

  pub length-mapped : (xs : List X) → length (map f xs) ≡ length xs
  length-mapped [] = refl
  length-mapped (x ∷ xs) = ap suc (length-mapped xs)

  pub position-map_after : (p : Y → Bool) (xs : List X) → position p (map f xs) ≡ position (λ x. p (f x)) xs
  position-map_after p xs = ap₂ (λ n m. cond (nat_lt n m) (Some n) None) (place-map p xs) (length-mapped xs)

  pub slice_get-map_some : (xs : List X) (i : ℕ) (x : X) → slice_get xs i ≡ Some x → slice_get (map f xs) i ≡ Some (f x)
  slice_get-map_some [] i x h = absurd (none_some h)
  slice_get-map_some (y ∷ ys) zero x h = ap (λ z. Some (f z)) (some_same h)
  slice_get-map_some (y ∷ ys) (suc i) x h = slice_get-map_some ys i x h

  pub map-remove : (xs : List X) (i : ℕ) → map f (remove xs i) ≡ remove (map f xs) i
  map-remove [] zero = refl
  map-remove [] (suc i) = refl
  map-remove (x ∷ xs) zero = refl
  map-remove (x ∷ xs) (suc i) = ap (λ ys. f x ∷ ys) (map-remove xs i)

  pub map-same_all : (g : X → Y) (xs : List X) → ((x : X) → Contains xs x → f x ≡ g x) → map f xs ≡ map g xs
  map-same_all g [] h = refl
  map-same_all g (x ∷ xs) h = ap₂ (λ y ys. y ∷ ys) (h x (Contains-first x xs)) (map-same_all g xs (λ y m. h y (Contains-later x y xs m)))

  -- where one place is written, and nothing differs elsewhere
  pub set-mapped : (g : X → Y) (xs : List X) (i : ℕ) (x : X) (y : Y) → slice_get xs i ≡ Some x → g x ≡ y → ((k : ℕ) (z : X) → slice_get xs k ≡ Some z → (k ≡ i → ⊥) → f z ≡ g z) → set (map f xs) i y ≡ map g xs
  set-mapped g [] i x y h e same = absurd (none_some h)
  set-mapped g (z ∷ zs) zero x y h e same = ap₂ (λ w ws. w ∷ ws) (sym e ∙ ap g (sym (some_same h))) (others zs (λ k w q. same (suc k) w q clash))
    where
      clash : {k : ℕ} → suc k ≡ 0 → ⊥
      clash q = omega (arith, q)

      others : (ws : List X) → ((k : ℕ) (w : X) → slice_get ws k ≡ Some w → f w ≡ g w) → map f ws ≡ map g ws
      others [] q = refl
      others (w ∷ ws) q = ap₂ (λ v vs. v ∷ vs) (q 0 w refl) (others ws (λ k v r. q (suc k) v r))
  set-mapped g (z ∷ zs) (suc i) x y h e same = ap₂ (λ w ws. w ∷ ws) (same 0 z refl clash) (set-mapped g zs i x y h e (λ k w q far. same (suc k) w q (λ r. far (less r))))
    where
      clash : 0 ≡ suc i → ⊥
      clash q = omega (arith, q)

      less : {k : ℕ} → suc k ≡ suc i → k ≡ i
      less q = omega (arith, q)
