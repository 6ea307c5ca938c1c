-- How the machine's recursion on values unfolds: what goes deep enough gives the same.
--     given_to-values      what a node is given are the values of its incoming links
--     outgoing_at      a link stands at its place among those that go out from its node
use Rattle.std.proofs.Common.{◌≡◌, ℕ, ◌⊎◌, inl, inr, zero, suc, ◌<◌, ◌≤◌, ◌+◌, Bool, true, false, cond, ◌==◌, List, [], ◌∷◌, ◌++◌, length, map, filter, count_by, get_or, Contains, refl, sym, ◌∙◌, ap, subst, arith, eqb-true, length-append}
use Rattle.std.proofs.lemmas.Bool.{cases_lt}
use Rattle.std.proofs.lemmas.List.{get_or_append_left}
use Rattle.std.proofs.Math.Seq.{get_or-append_seam}
use Rattle.std.proofs.lemmas.List.Elements.{filter-append}
use Rattle.std.proofs.lemmas.List.Sums.{length-filter}
use Rattle.session_model.specs.jack_types.specs.declared.ports.Link.{Link}
use Rattle.session_model.specs.Activation.{AreLinks, link_at, no_link, incoming, outgoing, place_among, given_within, given_to, value_of}
use Rattle.session_model.specs.Samples.{below}
use Rattle.session_laws.proofs.CycleLemmas.{map_filter-same}

pub length-below : (n : ℕ) → length (below n) ≡ n
length-below zero = refl
length-below (suc n) = let e : length (below n) ≡ n = length-below n in length-append (below n) (n ∷ []) ∙ omega (arith, e)

pub get_or-below : (n k d : ℕ) → k < n → get_or (below n) k d ≡ k
get_or-below zero k d h = absurd (none h)
  where
    none : {k : ℕ} → k < 0 → ⊥
    none p = omega arith
get_or-below (suc n) k d h = go (cases_lt k n) (λ p. get_or-below n k d p)
  where
    go : (k < n) ⊎ (n ≤ k) → (k < n → get_or (below n) k d ≡ k) → get_or (below n ++ n ∷ []) k d ≡ k
    go (inl p) rest = get_or_append_left (below n) (n ∷ []) d k (subst (λ m. k < m) (sym (length-below n)) p) ∙ rest p
    go (inr p) rest =
        let e : k ≡ n = omega (arith, h, p) in
        let at_end : get_or (below n ++ n ∷ []) (length (below n)) d ≡ n = get_or-append_seam (below n) n [] d in
        let at_n : get_or (below n ++ n ∷ []) n d ≡ n = subst (λ m. get_or (below n ++ n ∷ []) m d ≡ n) (length-below n) at_end in
        subst (λ m. get_or (below n ++ n ∷ []) m d ≡ m) (sym e) at_n

pub Contains-below : (n k : ℕ) → Contains (below n) k → k < n
Contains-below n k h =
    let within : h.0 < n = subst (λ m. h.0 < m) (length-below n) h.1 in
    let same : h.0 ≡ k = sym (get_or-below n h.0 k within) ∙ h.2 in
    omega (arith, within, same)

pub below-contains : (n k : ℕ) → k < n → Contains (below n) k
below-contains n k h = (k, subst (λ m. k < m) (sym (length-below n)) h, get_or-below n k k h)

-- an element of `below` that passes stands, among those that pass, behind as many as pass below it
pub filter_below-at : (p : ℕ → Bool) (n k d : ℕ) → k < n → p k ≡ true → (count_by p (below k) < length (filter p (below n))) × (get_or (filter p (below n)) (count_by p (below k)) d ≡ k)
filter_below-at p zero k d h e = absurd (none h)
  where
    none : {k : ℕ} → k < 0 → ⊥
    none q = omega arith
filter_below-at p (suc n) k d h e = go (cases_lt k n) (λ q. filter_below-at p n k d q e)
  where
    split : filter p (below (suc n)) ≡ filter p (below n) ++ filter p (n ∷ [])
    split = filter-append p (below n) (n ∷ [])

    more : length (filter p (below (suc n))) ≡ length (filter p (below n)) + length (filter p (n ∷ []))
    more = ap length split ∙ length-append (filter p (below n)) (filter p (n ∷ []))

    go : (k < n) ⊎ (n ≤ k) → (k < n → (count_by p (below k) < length (filter p (below n))) × (get_or (filter p (below n)) (count_by p (below k)) d ≡ k))
        → (count_by p (below k) < length (filter p (below (suc n)))) × (get_or (filter p (below (suc n))) (count_by p (below k)) d ≡ k)
    go (inl q) lower =
        let rest : (count_by p (below k) < length (filter p (below n))) × (get_or (filter p (below n)) (count_by p (below k)) d ≡ k) = lower q in (
          omega (arith, more, rest.0),
          ap (λ xs. get_or xs (count_by p (below k)) d) split ∙ get_or_append_left (filter p (below n)) (filter p (n ∷ [])) d (count_by p (below k)) rest.0 ∙ rest.1,
        )
    go (inr q) lower =
        let same : n ≡ k = omega (arith, h, q) in
        let passes : p n ≡ true = subst (λ m. p m ≡ true) (sym same) e in
        let one : filter p (n ∷ []) ≡ n ∷ [] = ap (λ b. cond b (n ∷ []) []) passes in
        let whole : filter p (below (suc n)) ≡ filter p (below n) ++ n ∷ [] = split ∙ ap (λ xs. filter p (below n) ++ xs) one in
        let count : count_by p (below k) ≡ length (filter p (below n)) = ap (λ m. count_by p (below m)) (sym same) ∙ sym (length-filter p (below n)) in
        let size : length (filter p (below (suc n))) ≡ length (filter p (below n)) + 1 = ap length whole ∙ length-append (filter p (below n)) (n ∷ []) in
        let at_end : get_or (filter p (below n) ++ n ∷ []) (length (filter p (below n))) d ≡ n = get_or-append_seam (filter p (below n)) n [] d in (
          omega (arith, count, size),
          ap (λ xs. get_or xs (count_by p (below k)) d) whole ∙ ap (λ m. get_or (filter p (below n) ++ n ∷ []) m d) count ∙ at_end ∙ same,
        )

-- a link stands at its place among those that go out from its node
pub outgoing_at : (links : List Link) (l d : ℕ) → l < length links
    → (place_among links l < length (outgoing links (link_at links l).from)) × (get_or (outgoing links (link_at links l).from) (place_among links l) d ≡ l)
outgoing_at links l d h = filter_below-at (λ other. (link_at links other).from == (link_at links l).from) (length links) l d h (self (link_at links l).from)
  where
    self : (n : ℕ) → (n == n) ≡ true
    self n = grind arith

filter-none : {X Y : Type 0} (test : X → Bool) (f : X → Y) (xs : List X) → ((x : X) → Contains xs x → test x ≡ true → ⊥) → map f (filter test xs) ≡ []
filter-none {X} {Y} test f xs h = map_filter-same test f f xs (λ x m t. refl) ∙ empty xs h
  where
    Contains-more : (x y : X) (ys : List X) → Contains ys y → Contains (x ∷ ys) y
    Contains-more x y ys m = (suc m.0, omega (arith, m.1), m.2)

    Contains-at : (x : X) (ys : List X) → Contains (x ∷ ys) x
    Contains-at x ys = (0, omega arith, refl)

    empty : (ys : List X) → ((x : X) → Contains ys x → test x ≡ true → ⊥) → map f (filter test ys) ≡ []
    empty [] k = refl
    empty (y ∷ ys) k = go (test y) refl (empty ys (λ x m t. k x (Contains-more y x ys m) t))
      where
        go : (b : Bool) → test y ≡ b → map f (filter test ys) ≡ [] → map f (cond b (y ∷ filter test ys) (filter test ys)) ≡ []
        go true e rest = absurd (k y (Contains-at y ys) e)
        go false e rest = rest

module _ {M V : Type 0} (after : M → List V → M) (gives : M → List V → ℕ → V) (nodes : ℕ) (links : List Link) (before : ℕ → M) (are : AreLinks nodes links) where
  -- a link into a node comes from a lower one
  comes_from_below : (n l : ℕ) → Contains (below (length links)) l → ((link_at links l).to == n) ≡ true → (link_at links l).from < n
  comes_from_below n l m t =
      let up : (link_at links l).from < (link_at links l).to = are.upward l no_link (Contains-below (length links) l m) in
      let into : (link_at links l).to ≡ n = eqb-true (link_at links l).to n t in
      omega (arith, up, into)

  no_links_into : (n : ℕ) (f : ℕ → V) → n ≤ 0 → map f (incoming links n) ≡ []
  no_links_into n f h = filter-none (λ l. (link_at links l).to == n) f (below (length links)) (λ l m t. none (comes_from_below n l m t) h)
    where
      none : {k : ℕ} → k < n → n ≤ 0 → ⊥
      none p q = omega (arith, p, q)

  given_within-same : (d e n : ℕ) → n ≤ d → n ≤ e → given_within after gives links before d n ≡ given_within after gives links before e n
  given_within-same zero zero n p q = refl
  given_within-same zero (suc e) n p q = sym (no_links_into n (λ l. gives (before (link_at links l).from) (given_within after gives links before e (link_at links l).from) (place_among links l)) p)
  given_within-same (suc d) zero n p q = no_links_into n (λ l. gives (before (link_at links l).from) (given_within after gives links before d (link_at links l).from) (place_among links l)) q
  given_within-same (suc d) (suc e) n p q = map_filter-same (λ l. (link_at links l).to == n)
      (λ l. gives (before (link_at links l).from) (given_within after gives links before d (link_at links l).from) (place_among links l))
      (λ l. gives (before (link_at links l).from) (given_within after gives links before e (link_at links l).from) (place_among links l))
      (below (length links))
      (λ l m t. let under : (link_at links l).from < n = comes_from_below n l m t in
      ap (λ given. gives (before (link_at links l).from) given (place_among links l)) (given_within-same d e (link_at links l).from (omega (arith, under, p)) (omega (arith, under, q))))

  -- what a node is given are the values of its incoming links
  pub given_to-values : (n : ℕ) → given_to after gives links before n ≡ map (value_of after gives links before) (incoming links n)
  given_to-values zero = sym (no_links_into 0 (value_of after gives links before) (omega arith))
  given_to-values (suc m) = map_filter-same (λ l. (link_at links l).to == suc m)
      (λ l. gives (before (link_at links l).from) (given_within after gives links before m (link_at links l).from) (place_among links l))
      (value_of after gives links before)
      (below (length links))
      (λ l c t. let under : (link_at links l).from < suc m = comes_from_below (suc m) l c t in
      ap (λ given. gives (before (link_at links l).from) given (place_among links l)) (given_within-same m (link_at links l).from (link_at links l).from (omega (arith, under)) (omega arith)))
