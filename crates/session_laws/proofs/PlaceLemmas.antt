-- Facts on lists: elements that pass, places, maps of maps, and sums of samples.
use Rattle.std.proofs.Common.{◌≡◌, ℕ, zero, suc, ◌+◌, ◌<◌, Bool, true, false, cond, not, List, [], ◌∷◌, length, map, filter, get_or, position, Contains, ℤ, Some, None, lt-ltb, inl, inr, refl, sym, ◌∙◌, ap, ap₂, subst, arith, true≢false}
use Rattle.std.specs.List.{position_or_len}
use Rattle.session_model.specs.Samples.{below, clamp, mix, sample, silence, total}
use Rattle.session_laws.proofs.CycleLemmas.{map_filter-same}
use Rattle.session_laws.proofs.LoopLemmas.{Contains-later, Contains-first, Contains-cases}

not-below_zero : {n : ℕ} → n < 0 → ⊥
not-below_zero p = omega arith

module _ {X : Type 0} (test : X → Bool) where
  -- the first element that passes stands within, where one passes
  pub position-passes : (xs : List X) (x d : X) → Contains xs x → test x ≡ true → (position_or_len test xs < length xs) × (test (get_or xs (position_or_len test xs) d) ≡ true)
  position-passes [] x d h e = absurd (not-below_zero h.1)
  position-passes (y ∷ ys) x d h e = go (test y) refl (λ m. position-passes ys x d m e)
    where
      later : test y ≡ false → Contains ys x
      later f = elim (Contains-cases y x ys h) [ inl same ↦ absurd (true≢false (sym e ∙ ap test (sym same) ∙ f)) | inr m ↦ m ]

      go : (b : Bool) → test y ≡ b → (Contains ys x → (position_or_len test ys < length ys) × (test (get_or ys (position_or_len test ys) d) ≡ true))
          → (cond (not b) (1 + position_or_len test ys) 0 < length (y ∷ ys)) × (test (get_or (y ∷ ys) (cond (not b) (1 + position_or_len test ys) 0) d) ≡ true)
      go true f rest = (omega arith, f)
      go false f rest =
          let r : (position_or_len test ys < length ys) × (test (get_or ys (position_or_len test ys) d) ≡ true) = rest (later f) in
          let next : suc (position_or_len test ys) ≡ 1 + position_or_len test ys = omega arith in
          (omega (arith, r.0), subst (λ k. test (get_or (y ∷ ys) k d) ≡ true) next r.1)

  -- and is at the place that `position` gives
  pub position-found : (xs : List X) (x : X) → Contains xs x → test x ≡ true → position test xs ≡ Some (position_or_len test xs)
  position-found xs x h e = ap (λ b. cond b (Some (position_or_len test xs)) None) (lt-ltb (position_or_len test xs) (length xs) (position-passes xs x x h e).0)

  pub filter-contains : (xs : List X) (x : X) → Contains (filter test xs) x → Contains xs x
  filter-contains [] x h = h
  filter-contains (y ∷ ys) x h = go (test y) h (filter-contains ys x)
    where
      go : (b : Bool) → Contains (cond b (y ∷ filter test ys) (filter test ys)) x → (Contains (filter test ys) x → Contains ys x) → Contains (y ∷ ys) x
      go true m rest = elim (Contains-cases y x (filter test ys) m) [ inl same ↦ subst (λ z. Contains (y ∷ ys) z) same (Contains-first y ys) | inr n ↦ Contains-later y x ys (rest n) ]
      go false m rest = Contains-later y x ys (rest m)

  pub filter-keeps : (xs : List X) (x : X) → Contains xs x → test x ≡ true → Contains (filter test xs) x
  filter-keeps [] x h e = h
  filter-keeps (y ∷ ys) x h e = go (test y) refl (λ m. filter-keeps ys x m e)
    where
      go : (b : Bool) → test y ≡ b → (Contains ys x → Contains (filter test ys) x) → Contains (cond b (y ∷ filter test ys) (filter test ys)) x
      go true f rest = elim (Contains-cases y x ys h) [ inl same ↦ subst (λ z. Contains (y ∷ filter test ys) z) same (Contains-first y (filter test ys)) | inr m ↦ Contains-later y x (filter test ys) (rest m) ]
      go false f rest = elim (Contains-cases y x ys h) [ inl same ↦ absurd (true≢false (sym e ∙ ap test (sym same) ∙ f)) | inr m ↦ rest m ]

pub map-after : {X Y Z : Type 0} (g : Y → Z) (f : X → Y) (xs : List X) → map g (map f xs) ≡ map (λ x. g (f x)) xs
map-after g f [] = refl
map-after g f (x ∷ xs) = ap (λ ys. g (f x) ∷ ys) (map-after g f xs)

pub map-same : {X Y : Type 0} (f g : X → Y) (xs : List X) → ((x : X) → f x ≡ g x) → map f xs ≡ map g xs
map-same f g [] h = refl
map-same f g (x ∷ xs) h = ap₂ (λ y ys. y ∷ ys) (h x) (map-same f g xs h)

pub sample-silence : (frames i : ℕ) → sample [] i ≡ sample (silence frames) i
sample-silence zero i = refl
sample-silence (suc frames) zero = refl
sample-silence (suc frames) (suc i) = sample-silence frames i

-- parts with the same samples have the same mix
pub mix-same : {X : Type 0} (frames : ℕ) (test : X → Bool) (f g : X → List ℤ) (xs : List X)
    → ((x : X) → Contains xs x → test x ≡ true → (i : ℕ) → sample (f x) i ≡ sample (g x) i) → mix frames (map f (filter test xs)) ≡ mix frames (map g (filter test xs))
mix-same frames test f g xs h = map-same
    (λ i. clamp (total (map (λ part. sample part i) (map f (filter test xs)))))
    (λ i. clamp (total (map (λ part. sample part i) (map g (filter test xs)))))
    (below frames)
    (λ i. ap (λ parts. clamp (total parts)) (
    map-after (λ part. sample part i) f (filter test xs)
    ∙ map_filter-same test (λ x. sample (f x) i) (λ x. sample (g x) i) xs (λ x m t. h x m t i)
    ∙ sym (map-after (λ part. sample part i) g (filter test xs))))
