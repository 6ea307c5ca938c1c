-- Facts on lists: where an element stands among those that pass a test, and tables that are filled step by step.
use Rattle.std.proofs.Common.{◌≡◌, ◌≢◌, ℕ, zero, suc, ◌+◌, ◌<◌, ◌≤◌, Bool, true, false, cond, not, ◌==◌, ◌⊎◌, inl, inr, List, [], ◌∷◌, ◌++◌, length, map, filter, filter_map, get_or, position, set, take, Contains, Option, Some, None, refl, sym, ◌∙◌, ap, ap₂, subst, arith, true≢false, eq-eqb, eqb-true, eqb, ne_eqb, get_or-set_same, get_or-set_other, length-append, nat_lt, replicate}
use Rattle.std.specs.List.{AllByRecursion, IsDistinct, cons_option, list_any, position_or_len}
use Rattle.std.proofs.lemmas.Bool.{cases_eq}
use Rattle.std.proofs.lemmas.List.{get_or_default, get_or-replicate, length-map, length-take-le, map-append, take_more}
use Rattle.std.proofs.lemmas.List.Elements.{filter-append, filter_map-append}
use Rattle.std.proofs.lemmas.Map.Steps.{length-le_from_distinct_below}
use Rattle.jack_types.specs.declared.ports.Port.{Port}
use Rattle.session_model.specs.Samples.{below}
use Rattle.session_model.specs.Soundness.{Apart}
use Rattle.cycle_plan.specs.session_laws.proofs.LoopLemmas.{Contains-cases, Contains-first, Contains-later, or_cases}
use Rattle.cycle_plan.specs.session_laws.proofs.PlanLemmas.{Distinct-from_Apart}
use Rattle.client_wiring.specs.Tables.{class_number, in_class}

pub none_below : {n : ℕ} → n < 0 → ⊥
none_below p = omega arith

-- an element stands behind those before it that pass, where none of these is taken for it
pub stands : {X : Type 0} (p q : X → Bool) (xs : List X) (i : ℕ) (x : X) → i < length xs → get_or xs i x ≡ x → q x ≡ true → p x ≡ true → ((j : ℕ) → j < i → p (get_or xs j x) ≡ false)
    → position_or_len p (filter q xs) ≡ length (filter q (take i xs))
stands p q [] i x h at passes found first = absurd (none_below h)
stands p q (y ∷ ys) zero x h at passes found first =
    ap (λ b. position_or_len p (cond b (y ∷ filter q ys) (filter q ys))) (ap q at ∙ passes)
    ∙ ap (λ b. cond (not b) (1 + position_or_len p (filter q ys)) 0) (ap p at ∙ found)
stands p q (y ∷ ys) (suc i) x h at passes found first = go (q y) (stands p q ys i x (omega (arith, h)) at passes found (λ j l. first (suc j) (omega (arith, l))))
  where
    other : p y ≡ false
    other = first 0 (omega arith)

    go : (b : Bool) → position_or_len p (filter q ys) ≡ length (filter q (take i ys))
        → position_or_len p (cond b (y ∷ filter q ys) (filter q ys)) ≡ length (cond b (y ∷ filter q (take i ys)) (filter q (take i ys)))
    go true rest = ap (λ b. cond (not b) (1 + position_or_len p (filter q ys)) 0) other ∙ (let next : 1 + position_or_len p (filter q ys) ≡ suc (length (filter q (take i ys))) = omega (arith, rest) in next)
    go false rest = rest

-- one port more in a table by ids
pub table_more : (ports : List Port) → Apart (λ (port : Port). port.id.0) ports → (f : ℕ → Port → ℕ) (table : List ℕ) (i v : ℕ) (x : Port)
    → i < length ports → x ≡ get_or ports i x → x.id.0 < length table → v ≡ f i x
    → ((k : ℕ) (port : Port) → k < i → get_or ports k port ≡ port → get_or table port.id.0 0 ≡ f k port)
    → (k : ℕ) (port : Port) → k < i + 1 → get_or ports k port ≡ port → get_or (set table x.id.0 v) port.id.0 0 ≡ f k port
table_more ports apart f table i v x within at room value held k port less there = go (cases_eq k i)
  where
    go : (k ≡ i) ⊎ (k ≢ i) → get_or (set table x.id.0 v) port.id.0 0 ≡ f k port
    go (inl e) =
        let same : port ≡ x = sym there ∙ ap (λ n. get_or ports n port) e ∙ get_or_default ports i port x within ∙ sym at in
        ap (λ (q : Port). get_or (set table x.id.0 v) q.id.0 0) same ∙ get_or-set_same table x.id.0 v 0 room ∙ value ∙ ap₂ f (sym e) (sym same)
    go (inr n) =
        let before : k < i = omega (arith, n, less) in
        let other : port.id.0 ≢ x.id.0 = λ e. n (Distinct-from_Apart (λ (q : Port). q.id.0) ports apart k i port (omega (arith, before, within)) within
        (ap (λ (q : Port). q.id.0) there ∙ e ∙ ap (λ (q : Port). q.id.0) (at ∙ get_or_default ports i x port within))) in
        get_or-set_other table x.id.0 port.id.0 v 0 other ∙ held k port before there

-- one port more of those that are counted
pub counts_more : (ports : List Port) (counts : List ℕ) (i c : ℕ) (x : Port) → i < length ports → x ≡ get_or ports i x → c ≡ class_number x → c < length counts
    → (class : ℕ) → get_or counts class 0 ≡ length (filter (in_class class) (take i ports))
    → get_or (set counts c (get_or counts c 0 + 1)) class 0 ≡ length (filter (in_class class) (take (i + 1) ports))
counts_more ports counts i c x within at is room class held =
    go (class_number x == class) refl
    ∙ sym (length-append (filter (in_class class) (take i ports)) (filter (in_class class) (x ∷ [])))
    ∙ ap length (sym (filter-append (in_class class) (take i ports) (x ∷ [])))
    ∙ ap (λ y. length (filter (in_class class) (take i ports ++ y ∷ []))) at
    ∙ ap (λ ys. length (filter (in_class class) ys)) (sym (take_more ports i x within))
  where
    go : (b : Bool) → (class_number x == class) ≡ b → get_or (set counts c (get_or counts c 0 + 1)) class 0 ≡ length (filter (in_class class) (take i ports)) + length (cond b (x ∷ []) [])
    go true e =
        let same : class ≡ c = sym (eqb-true (class_number x) class e) ∙ sym is in
        ap (λ n. get_or (set counts c (get_or counts c 0 + 1)) n 0) same ∙ get_or-set_same counts c (get_or counts c 0 + 1) 0 room ∙ ap (λ n. get_or counts n 0 + 1) (sym same) ∙ ap (λ n. n + 1) held
    go false e =
        let other : class ≢ c = λ same. true≢false (sym (eq-eqb (class_number x) class (sym is ∙ sym same)) ∙ e) in
        get_or-set_other counts c class (get_or counts c 0 + 1) 0 other ∙ held ∙ (let none : length (filter (in_class class) (take i ports)) ≡ length (filter (in_class class) (take i ports)) + 0 = omega arith in none)

length-filter-le : {X : Type 0} (test : X → Bool) (xs : List X) → length (filter test xs) ≤ length xs
length-filter-le test [] = omega arith
length-filter-le test (x ∷ xs) = go (test x) (length-filter-le test xs)
  where
    go : (b : Bool) → length (filter test xs) ≤ length xs → length (cond b (x ∷ filter test xs) (filter test xs)) ≤ length (x ∷ xs)
    go true h = omega (arith, h)
    go false h = omega (arith, h)

pub counts_few : (ports : List Port) (i class n : ℕ) → i ≤ length ports → n ≡ length (filter (in_class class) (take i ports)) → n ≤ i
counts_few ports i class n within is =
    let most : length (filter (in_class class) (take i ports)) ≤ length (take i ports) = length-filter-le (in_class class) (take i ports) in
    let long : length (take i ports) ≡ i = length-take-le i ports within in
    omega (arith, is, most, long)

-- places by a test of what the elements are made into
pub place-map : {X Y : Type 0} (p : Y → Bool) (f : X → Y) (xs : List X) → position_or_len p (map f xs) ≡ position_or_len (λ x. p (f x)) xs
place-map p f [] = refl
place-map p f (x ∷ xs) = ap (λ n. cond (not (p (f x))) (1 + n) 0) (place-map p f xs)

-- a list that is taken whole
pub take-whole : {X : Type 0} (xs : List X) → take (length xs) xs ≡ xs
take-whole [] = refl
take-whole (x ∷ xs) = ap (λ ys. x ∷ ys) (take-whole xs)

pub taken-whole : {X : Type 0} (ys xs : List X) (i : ℕ) → ys ≡ xs → length ys ≤ i → i ≤ length ys → take i xs ≡ xs
taken-whole ys xs i are least most =
    let same : i ≡ length ys = omega (arith, least, most) in
    ap (λ n. take n xs) (same ∙ ap length are) ∙ take-whole xs

-- the elements at the first places, and at all
pub places_front : {X : Type 0} (xs : List X) (d : X) (n : ℕ) → n ≤ length xs → map (λ k. get_or xs k d) (below n) ≡ take n xs
places_front xs d zero h = refl
places_front xs d (suc n) h =
    map-append (λ k. get_or xs k d) (below n) (n ∷ [])
    ∙ ap (λ ys. ys ++ get_or xs n d ∷ []) (places_front xs d n (omega (arith, h)))
    ∙ sym (take_more xs n d (omega (arith, h)))
    ∙ ap (λ k. take k xs) (let next : n + 1 ≡ suc n = omega arith in next)

pub from_places : {X : Type 0} (xs : List X) (d : X) → map (λ k. get_or xs k d) (below (length xs)) ≡ xs
from_places xs d = places_front xs d (length xs) (omega arith) ∙ take-whole xs

-- the first elements of what others are made into
pub take-made : {X Y : Type 0} (f : X → Y) (n : ℕ) (xs : List X) → map f (take n xs) ≡ take n (map f xs)
take-made f zero xs = refl
take-made f (suc n) [] = refl
take-made f (suc n) (x ∷ xs) = ap (λ ys. f x ∷ ys) (take-made f n xs)

pub Contains-front : {X : Type 0} (n : ℕ) (xs : List X) (x : X) → Contains (take n xs) x → Contains xs x
Contains-front zero xs x m = absurd (none_below m.1)
Contains-front (suc n) [] x m = absurd (none_below m.1)
Contains-front {X} (suc n) (y ∷ xs) x m = go (Contains-cases y x (take n xs) m) (Contains-front n xs x)
  where
    go : (y ≡ x) ⊎ Contains (take n xs) x → (Contains (take n xs) x → Contains xs x) → Contains (y ∷ xs) x
    go (inl e) rest = subst (Contains (y ∷ xs)) e (Contains-first y xs)
    go (inr k) rest = Contains-later y x xs (rest k)

-- a place by a test that agrees with one of what the elements are made into
pub position-called : {X Y : Type 0} (p : Y → Bool) (q : X → Bool) (f : X → Y) (xs : List X) → ((x : X) → Contains xs x → q x ≡ p (f x)) → position q xs ≡ position p (map f xs)
position-called {X = X} p q f xs agree = ap₂ (λ n m. cond (nat_lt n m) (Some n) None) (places xs agree) (sym (length-map xs f))
  where
    places : (ys : List X) → ((x : X) → Contains ys x → q x ≡ p (f x)) → position_or_len q ys ≡ position_or_len p (map f ys)
    places [] h = refl
    places (y ∷ ys) h = ap₂ (λ b n. cond (not b) (1 + n) 0) (h y (Contains-first y ys)) (places ys (λ x m. h x (Contains-later y x ys m)))

-- one element more of those that are made into others, where that makes something
pub made_more : {X Y Z : Type 0} (f : Y → Option Z) (g : X → Y) (xs : List X) (i : ℕ) (d : X) → i < length xs
    → filter_map f (map g (take (i + 1) xs)) ≡ filter_map f (map g (take i xs)) ++ cons_option (f (g (get_or xs i d))) []
made_more f g xs i d h =
    ap (λ ys. filter_map f (map g ys)) (take_more xs i d h)
    ∙ ap (filter_map f) (map-append g (take i xs) (get_or xs i d ∷ []))
    ∙ filter_map-append f (map g (take i xs)) (g (get_or xs i d) ∷ [])

-- a table of zeros
pub zeros_few : (n class i : ℕ) → class < n → get_or (replicate {A = ℕ} n 0) class 0 ≤ i
zeros_few n class i h =
    let zeros : List ℕ = replicate n 0 in
    let none : get_or zeros class 0 ≡ 0 = get_or-replicate n class 0 0 h in
    omega (arith, none)

-- ports of ids that are apart and below a bound are few
distinct-ids : (ports : List Port) → Apart (λ (port : Port). port.id.0) ports → IsDistinct eqb (map (λ (port : Port). port.id.0) ports)
unfolding IsDistinct
distinct-ids [] h = tt
distinct-ids (port ∷ ports) h = (others ports (λ other m. h.0 other m), distinct-ids ports h.1)
  where
    others : (ps : List Port) → ((other : Port) → Contains ps other → port.id.0 ≡ other.id.0 → ⊥) → AllByRecursion (λ n. eqb port.id.0 n ≡ false) (map (λ (port : Port). port.id.0) ps)
    others [] f = tt
    others (p ∷ ps) f = (ne_eqb port.id.0 p.id.0 (f p (Contains-first p ps)), others ps (λ other m. f other (Contains-later p other ps m)))

ids-below : (ports : List Port) (bound : ℕ) → ((port : Port) → Contains ports port → port.id.0 < bound) → (q : ℕ) → list_any (eqb q) (map (λ (port : Port). port.id.0) ports) ≡ true → q < bound
ids-below [] bound f q e = absurd (true≢false (sym e))
ids-below (port ∷ ports) bound f q e =
    go (or_cases (eqb q port.id.0) (list_any (eqb q) (map (λ (port : Port). port.id.0) ports)) e) (λ t. ids-below ports bound (λ other m. f other (Contains-later port other ports m)) q t)
  where
    go : (eqb q port.id.0 ≡ true) ⊎ (list_any (eqb q) (map (λ (port : Port). port.id.0) ports) ≡ true) → (list_any (eqb q) (map (λ (port : Port). port.id.0) ports) ≡ true → q < bound) → q < bound
    go (inl t) rest = subst (λ n. n < bound) (sym (eqb-true q port.id.0 t)) (f port (Contains-first port ports))
    go (inr t) rest = rest t

pub few-below : (ports : List Port) (bound : ℕ) → Apart (λ (port : Port). port.id.0) ports → ((port : Port) → Contains ports port → port.id.0 < bound) → length ports ≤ bound
few-below ports bound apart low =
    let size : length (map (λ (port : Port). port.id.0) ports) ≡ length ports = length-map ports (λ port. port.id.0) in
    let few : length (map (λ (port : Port). port.id.0) ports) ≤ bound = length-le_from_distinct_below (map (λ (port : Port). port.id.0) ports) bound (distinct-ids ports apart) (ids-below ports bound low) in
    omega (arith, size, few)
