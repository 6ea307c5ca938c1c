-- Lists of the links of a node.
use Rattle.std.proofs.Common.{◌≡◌, ℕ, zero, suc, ◌+◌, ◌<◌, ◌≤◌, Bool, true, false, cond, ◌==◌, List, [], ◌∷◌, length, map, filter, get_or, set, All, Contains, Some, refl, sym, ◌∙◌, ap, subst, arith, eqb-true, eq-eqb, length-set, get_or-set_same, get_or-set_other}
use Rattle.std.proofs.lemmas.List.{map-set, length-map, ext_get_or}
use mathlib.Core.Logic.{dite}
use mathlib.Core.Option.{some, some-injective, some-ne-none}
use lib.ListN.{get_elem?}
use native.Mathlib.Decide.{ℕ_discrete}
use Rattle.session_laws.specs.jack_types.specs.declared.ports.Link.{Link}
use Rattle.session_laws.specs.session_model.specs.Activation.{link_at, incoming, outgoing}
use Rattle.session_laws.specs.session_model.specs.Samples.{below}
use Rattle.session_laws.proofs.ListLemmas.{Ordered, Ordered-append, Ordered-filter, Each, Each-below, Each-filter, Each-filter_kept, Each-both, Contains-kept}
use Rattle.session_laws.proofs.ActivationLemmas.{below-contains, length-below, length-map_below, get_or-map_below}
use Rattle.activation.specs.Values.{values_of}

pub each_at : {A : Type 0} (P : A → Type 0) (xs : List A) → Each P xs → (j : ℕ) (d : A) → j < length xs → P (get_or xs j d)
each_at P [] h j d b = absurd (omega (arith, b))
each_at P (x ∷ xs) h zero d b = h.0
each_at P (x ∷ xs) h (suc j) d b = each_at P xs h.1 j d (omega (arith, b))

pub one_of : {A : Type 0} (P : A → Type 0) (xs : List A) (n : ℕ) (x : A) → All P xs → get_elem? xs n ≡ some x → P x
one_of P [] n x all e = absurd (some-ne-none x (sym e))
one_of P (y ∷ ys) zero x all e = subst P (some-injective y x e) (all 0 y (omega arith))
one_of P (y ∷ ys) (suc n) x all e = one_of P ys n x (λ k d low. all (suc k) d (omega (arith, low))) e

pub get_or-map : {A C : Type 0} (f : A → C) (xs : List A) (i : ℕ) (d : A) (e : C) → i < length xs → get_or (map f xs) i e ≡ f (get_or xs i d)
get_or-map f [] i d e h = absurd (omega (arith, h))
get_or-map f (x ∷ xs) zero d e h = refl
get_or-map f (x ∷ xs) (suc i) d e h = get_or-map f xs i d e (omega (arith, h))

pub values_of-some : {A : Type 0} (xs : List A) → values_of (map Some xs) ≡ xs
values_of-some [] = refl
values_of-some (x ∷ xs) = ap (λ ys. x ∷ ys) (values_of-some xs)

module _ (links : List Link) (n : ℕ) where
  pub incoming-facts : Each (λ l. (l < length links) × ((link_at links l).to ≡ n)) (incoming links n)
  incoming-facts =
      Each-both (λ l. l < length links) (λ l. (link_at links l).to ≡ n) (λ l. (l < length links) × ((link_at links l).to ≡ n)) (λ l a b. (a, b)) (incoming links n)
      (Each-filter_kept (λ l. l < length links) (λ l. (link_at links l).to == n) (below (length links)) (Each-below (λ l. l < length links) (length links) (λ l h. h)))
      (Each-filter (λ l. (link_at links l).to ≡ n) (λ l. (link_at links l).to == n) (below (length links)) (λ l e. eqb-true (link_at links l).to n e))

  pub outgoing-facts : Each (λ l. (l < length links) × ((link_at links l).from ≡ n)) (outgoing links n)
  outgoing-facts =
      Each-both (λ l. l < length links) (λ l. (link_at links l).from ≡ n) (λ l. (l < length links) × ((link_at links l).from ≡ n)) (λ l a b. (a, b)) (outgoing links n)
      (Each-filter_kept (λ l. l < length links) (λ l. (link_at links l).from == n) (below (length links)) (Each-below (λ l. l < length links) (length links) (λ l h. h)))
      (Each-filter (λ l. (link_at links l).from ≡ n) (λ l. (link_at links l).from == n) (below (length links)) (λ l e. eqb-true (link_at links l).from n e))

  pub incoming-contains : (l : ℕ) → l < length links → (link_at links l).to ≡ n → Contains (incoming links n) l
  incoming-contains l h e = Contains-kept (λ k. (link_at links k).to == n) (below (length links)) l (eq-eqb (link_at links l).to n e) (below-contains (length links) l h)

-- ---- the links of a node stand in rising order

pub ordered-below : (n : ℕ) → Ordered (λ a b. a < b) (below n)
ordered-below zero = tt
ordered-below (suc n) = Ordered-append (λ a b. a < b) (λ x. x < n) (λ y. y ≡ n) (λ x y p q. omega (arith, p, q)) (below n) (n ∷ []) (ordered-below n) (Each-below (λ x. x < n) n (λ x h. h)) (tt, tt) (refl, tt)

pub ordered-at : (xs : List ℕ) → Ordered (λ a b. a < b) xs → (j k : ℕ) → j < k → k < length xs → get_or xs j 0 < get_or xs k 0
ordered-at [] h j k lt low = absurd (omega (arith, low))
ordered-at (x ∷ xs) h zero zero lt low = absurd (omega (arith, lt))
ordered-at (x ∷ xs) h zero (suc k) lt low = each_at (λ y. x < y) xs h.0 k 0 (omega (arith, low))
ordered-at (x ∷ xs) h (suc j) zero lt low = absurd (omega (arith, lt))
ordered-at (x ∷ xs) h (suc j) (suc k) lt low = ordered-at xs h.1 j k (omega (arith, lt)) (omega (arith, low))

pub incoming-rises : (links : List Link) (n j k : ℕ) → j < k → k < length (incoming links n) → get_or (incoming links n) j 0 < get_or (incoming links n) k 0
incoming-rises links n = ordered-at (incoming links n) (Ordered-filter (λ a b. a < b) (λ l. (link_at links l).to == n) (below (length links)) (ordered-below (length links)))

pub outgoing-rises : (links : List Link) (n j k : ℕ) → j < k → k < length (outgoing links n) → get_or (outgoing links n) j 0 < get_or (outgoing links n) k 0
outgoing-rises links n = ordered-at (outgoing links n) (Ordered-filter (λ a b. a < b) (λ l. (link_at links l).from == n) (below (length links)) (ordered-below (length links)))

filter-short : (p : ℕ → Bool) (xs : List ℕ) → length (filter p xs) ≤ length xs
filter-short p [] = omega arith
filter-short p (x ∷ xs) = go (p x) (filter-short p xs)
  where
    go : (b : Bool) → length (filter p xs) ≤ length xs → length (cond b (x ∷ filter p xs) (filter p xs)) ≤ suc (length xs)
    go true h = omega (arith, h)
    go false h = omega (arith, h)

pub incoming-short : (links : List Link) (n : ℕ) → length (incoming links n) ≤ length links
incoming-short links n = omega (arith, filter-short (λ l. (link_at links l).to == n) (below (length links)), length-below (length links))

pub all_set : {A : Type 0} (P : A → Type 0) (xs : List A) (k : ℕ) (y : A) → All P xs → P y → All P (set xs k y)
all_set P xs k y all one j d low = dite (ℕ_discrete j k)
    (λ is. subst P (sym (ap (λ i. get_or (set xs k y) i d) is ∙ get_or-set_same xs k y d (omega (arith, low, is, length-set xs k y)))) one)
    (λ ne. subst P (sym (get_or-set_other xs k j y d ne)) (all j d (omega (arith, low, length-set xs k y))))

pub mapped_set : {A C : Type 0} (f : A → List C) (xs : List A) (g : ℕ → List C) (n : ℕ) (y : A) → n < length xs → f y ≡ g n → ((k : ℕ) → k < n → get_or (map f xs) k [] ≡ g k) → (k : ℕ) → k < n + 1 → get_or (map f (set xs n y)) k [] ≡ g k
mapped_set f xs g n y low is old k h = ap (λ l. get_or l k []) (map-set f xs n y) ∙ dite (ℕ_discrete k n)
    (λ e. ap (λ i. get_or (set (map f xs) n (f y)) i []) e ∙ (get_or-set_same (map f xs) n (f y) [] (omega (arith, low, length-map xs f)) ∙ (is ∙ ap g (sym e))))
    (λ ne. get_or-set_other (map f xs) n k (f y) [] ne ∙ old k (omega (arith, h, ne)))

pub mapped_all : {A C : Type 0} (f : A → List C) (xs : List A) (g : ℕ → List C) (n : ℕ) → length xs ≡ n → ((k : ℕ) → k < n → get_or (map f xs) k [] ≡ g k) → map f xs ≡ map g (below n)
mapped_all f xs g n long each = ext_get_or [] (map f xs) (map g (below n)) (length-map xs f ∙ (long ∙ sym (length-map_below g n)))
    (λ k h. let low : k < n = omega (arith, h, long, length-map xs f) in each k low ∙ sym (get_or-map_below g n k [] low))
