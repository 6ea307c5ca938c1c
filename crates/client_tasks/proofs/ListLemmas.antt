-- Lists that grow by one element.
--     own-more, own-other      the joints of a node, of one joint more
--     length-own, length-more      how many there are
--     wires-more, wires-other      its wires
--     routes-more, routes-other      its routes, of one connection more
--     length-wires, length-routes      there are no more than connections
--     wires-none, routes-none      a place that is no node has none
--     out-more, out-other, outgoing-counted      the links that go out from a node
--     joint_at-is      the joint at a place
--     find-first, find-none      the first that passes, and none
--     count-more      one element more, counted
--     count-front      how many numbers are below one
use Rattle.std.proofs.Common.{◌≡◌, ◌≢◌, ℕ, zero, suc, ◌+◌, ◌<◌, ◌≤◌, Bool, true, false, cond, ◌==◌, ◌⊎◌, inl, inr, List, [], ◌∷◌, ◌++◌, length, map, filter, count_by, get_or, take, All, ℤ, Some, None, find, refl, sym, ◌∙◌, ap, ap₂, arith, add-one, eq-eqb, eqb-true, length-append}
use Rattle.std.specs.Prelude.{nat_lt}
use Rattle.std.proofs.lemmas.Bool.{cases_lt, lt-ltb, le-ltb}
use Rattle.std.proofs.lemmas.List.{get_or_default, length-map, length-take-le, map-append, take_more}
use Rattle.std.proofs.lemmas.List.Elements.{filter-append}
use Rattle.std.proofs.lemmas.List.Sums.{count_by-le-length, fold-append, length-filter}
use Rattle.jack_types.specs.declared.ports.Link.{Link}
use Rattle.session_model.specs.Activation.{link_at, outgoing}
use Rattle.session_model.specs.Samples.{below}
use Rattle.session_laws.proofs.SequentialLemmas.{length-below}
use Rattle.bench_rack.specs.client_benches.specs.declared.values.Route.{Route}
use Rattle.client_wiring.specs.declared.joints.Carried.{Carried}
use Rattle.client_wiring.specs.declared.joints.Joint.{Joint}
use Rattle.client_wiring.specs.declared.joints.Origin.TheVariants.{Captured}
use Rattle.client_tasks.specs.Steps.{count_out, own_joints, wires_from}
use Rattle.client_tasks.specs.Tasks.{joint_at, route_to, routes_of, wire_by}

pub eqb-no : (a b : ℕ) → a ≢ b → (a == b) ≡ false
eqb-no a b n = go (a == b) refl
  where
    go : (t : Bool) → (a == b) ≡ t → t ≡ false
    go true e = absurd (n (eqb-true a b e))
    go false e = refl

pub own-more : (joints : List Joint) (n k : ℕ) → (joint_at joints k).node ≡ n → own_joints joints n (k + 1) ≡ own_joints joints n k ++ k ∷ []
own-more joints n k e =
    ap (own_joints joints n) (add-one k)
    ∙ filter-append (λ i. (joint_at joints i).node == n) (below k) (k ∷ [])
    ∙ ap (λ b. own_joints joints n k ++ cond b (k ∷ []) []) (eq-eqb (joint_at joints k).node n e)

pub own-other : (joints : List Joint) (n k : ℕ) → (joint_at joints k).node ≢ n → own_joints joints n (k + 1) ≡ own_joints joints n k
own-other joints n k e =
    ap (own_joints joints n) (add-one k)
    ∙ filter-append (λ i. (joint_at joints i).node == n) (below k) (k ∷ [])
    ∙ ap (λ b. own_joints joints n k ++ cond b (k ∷ []) []) (eqb-no (joint_at joints k).node n e)
    ∙ nothing-more (own_joints joints n k)
  where
    nothing-more : (xs : List ℕ) → (xs ++ []) ≡ xs
    nothing-more [] = refl
    nothing-more (x ∷ xs) = ap (λ ys. x ∷ ys) (nothing-more xs)

pub length-own : (joints : List Joint) (n k : ℕ) → length (own_joints joints n k) ≤ k
length-own joints n k = omega (arith, length-filter (λ i. (joint_at joints i).node == n) (below k), count_by-le-length (λ i. (joint_at joints i).node == n) (below k), length-below k)

pub length-more : (joints : List Joint) (n k : ℕ) → (joint_at joints k).node ≡ n → length (own_joints joints n (k + 1)) ≡ length (own_joints joints n k) + 1
length-more joints n k e = ap length (own-more joints n k e) ∙ length-append (own_joints joints n k) (k ∷ [])

pub wires-more : (sources : ℕ → List ℤ) (joints : List Joint) (n k : ℕ) → (joint_at joints k).node ≡ n → wires_from sources joints n (k + 1) ≡ wires_from sources joints n k ++ wire_by sources joints k ∷ []
wires-more sources joints n k e = ap (map (wire_by sources joints)) (own-more joints n k e) ∙ map-append (wire_by sources joints) (own_joints joints n k) (k ∷ [])

pub wires-other : (sources : ℕ → List ℤ) (joints : List Joint) (n k : ℕ) → (joint_at joints k).node ≢ n → wires_from sources joints n (k + 1) ≡ wires_from sources joints n k
wires-other sources joints n k e = ap (map (wire_by sources joints)) (own-other joints n k e)

pub length-wires : (sources : ℕ → List ℤ) (joints : List Joint) (n k : ℕ) → length (wires_from sources joints n k) ≤ k
length-wires sources joints n k =
    omega (arith, length-map (own_joints joints n k) (wire_by sources joints), length-filter (λ i. (joint_at joints i).node == n) (below k), count_by-le-length (λ i. (joint_at joints i).node == n) (below k), length-below k)

pub routes-more : (carried : List Carried) (d : Carried) (n k : ℕ) → k < length carried → (get_or carried k d).node ≡ n
    → routes_of (take (k + 1) carried) n ≡ routes_of (take k carried) n ++ route_to (get_or carried k d) ∷ []
routes-more carried d n k h e =
    ap (λ ones. routes_of ones n) (take_more carried k d h)
    ∙ ap (map route_to) (filter-append (λ (one : Carried). one.node == n) (take k carried) (get_or carried k d ∷ []))
    ∙ ap (λ b. map route_to (filter (λ (one : Carried). one.node == n) (take k carried) ++ cond b (get_or carried k d ∷ []) [])) (eq-eqb (get_or carried k d).node n e)
    ∙ map-append route_to (filter (λ (one : Carried). one.node == n) (take k carried)) (get_or carried k d ∷ [])

pub routes-other : (carried : List Carried) (d : Carried) (n k : ℕ) → k < length carried → (get_or carried k d).node ≢ n → routes_of (take (k + 1) carried) n ≡ routes_of (take k carried) n
routes-other carried d n k h e =
    ap (λ ones. routes_of ones n) (take_more carried k d h)
    ∙ ap (map route_to) (filter-append (λ (one : Carried). one.node == n) (take k carried) (get_or carried k d ∷ []))
    ∙ ap (λ b. map route_to (filter (λ (one : Carried). one.node == n) (take k carried) ++ cond b (get_or carried k d ∷ []) [])) (eqb-no (get_or carried k d).node n e)
    ∙ map-append route_to (filter (λ (one : Carried). one.node == n) (take k carried)) []
    ∙ nothing-more (routes_of (take k carried) n)
  where
    nothing-more : (xs : List Route) → (xs ++ []) ≡ xs
    nothing-more [] = refl
    nothing-more (x ∷ xs) = ap (λ ys. x ∷ ys) (nothing-more xs)

pub length-routes : (carried : List Carried) (n k : ℕ) → k ≤ length carried → length (routes_of (take k carried) n) ≤ k
length-routes carried n k h =
    omega (
      arith,
      length-map (filter (λ (one : Carried). one.node == n) (take k carried)) route_to,
      length-filter (λ (one : Carried). one.node == n) (take k carried),
      count_by-le-length (λ (one : Carried). one.node == n) (take k carried),
      length-take-le k carried h,
    )

-- how many of the first numbers are below one
low : (k c : ℕ) → k < c → nat_lt k c ≡ true
low k c l = lt-ltb k c l

high : (k c : ℕ) → c ≤ k → nat_lt k c ≡ false
high k c l = le-ltb k c l

pub count-more : {X : Type 0} (test : X → Bool) (xs : List X) (x : X) → count_by test (xs ++ x ∷ []) ≡ count_by test xs + cond (test x) 1 0
count-more test xs x = fold-append (λ n y. n + cond (test y) 1 0) 0 xs (x ∷ [])

count-all : (c k : ℕ) → k ≤ c → count_by (λ p. nat_lt p c) (below k) ≡ k
count-all c zero l = refl
count-all c (suc k) l =
    count-more (λ p. nat_lt p c) (below k) k
    ∙ ap₂ (λ n b. n + cond b 1 0) (count-all c k (omega (arith, l))) (low k c (omega (arith, l)))
    ∙ add-one k

pub count-front : (c m : ℕ) → c ≤ m → count_by (λ p. nat_lt p c) (below m) ≡ c
count-front c zero h = omega (arith, h)
count-front c (suc m) h = count-more (λ p. nat_lt p c) (below m) m ∙ go (cases_lt m c) (λ l. count-front c m l)
  where
    go : (m < c) ⊎ (c ≤ m) → (c ≤ m → count_by (λ p. nat_lt p c) (below m) ≡ c) → count_by (λ p. nat_lt p c) (below m) + cond (nat_lt m c) 1 0 ≡ c
    go (inl l) rest = ap₂ (λ n b. n + cond b 1 0) (count-all c m (omega (arith, l))) (low m c l) ∙ (omega (arith, h, l))
    go (inr l) rest = ap₂ (λ n b. n + cond b 1 0) (rest l) (high m c l) ∙ (let none : c + 0 ≡ c = omega arith in none)

-- the joint at a place, whatever stands for none
pub joint_at-is : (joints : List Joint) (i : ℕ) (d : Joint) → i < length joints → get_or joints i d ≡ joint_at joints i
joint_at-is joints i d h = get_or_default joints i d (record { node = 0; input = 0; origin = Captured 0 }) h

-- the first that passes, and none
none_below : {n : ℕ} → n < 0 → ⊥
none_below p = omega arith

pub find-first : {X : Type 0} (p : X → Bool) (xs : List X) (i : ℕ) (d : X) → i < length xs → ((k : ℕ) → k < i → p (get_or xs k d) ≡ false) → p (get_or xs i d) ≡ true → find p xs ≡ Some (get_or xs i d)
find-first p [] i d h others here = absurd (none_below h)
find-first p (x ∷ xs) zero d h others here = ap (λ b. cond b (Some x) (find p xs)) here
find-first p (x ∷ xs) (suc i) d h others here =
    ap (λ b. cond b (Some x) (find p xs)) (others 0 (omega arith)) ∙ find-first p xs i d (omega (arith, h)) (λ k l. others (suc k) (omega (arith, l))) here

pub find-none : {X : Type 0} (p : X → Bool) (xs : List X) (d : X) → ((k : ℕ) → k < length xs → p (get_or xs k d) ≡ false) → find p xs ≡ None
find-none p [] d others = refl
find-none p (x ∷ xs) d others = ap (λ b. cond b (Some x) (find p xs)) (others 0 (omega arith)) ∙ find-none p xs d (λ k l. others (suc k) (omega (arith, l)))

-- one link more that goes out from its node, or from another
pub out-more : (links : List Link) (n k : ℕ) → (link_at links k).from ≡ n → count_out links n (k + 1) ≡ count_out links n k + 1
out-more links n k e =
    ap (count_out links n) (add-one k) ∙ count-more (λ l. (link_at links l).from == n) (below k) k ∙ ap (λ b. count_out links n k + cond b 1 0) (eq-eqb (link_at links k).from n e)

pub out-other : (links : List Link) (n k : ℕ) → (link_at links k).from ≢ n → count_out links n (k + 1) ≡ count_out links n k
out-other links n k e =
    ap (count_out links n) (add-one k) ∙ count-more (λ l. (link_at links l).from == n) (below k) k
    ∙ ap (λ b. count_out links n k + cond b 1 0) (eqb-no (link_at links k).from n e)
    ∙ (let none : count_out links n k + 0 ≡ count_out links n k = omega arith in none)

pub outgoing-counted : (links : List Link) (n : ℕ) → length (outgoing links n) ≡ count_out links n (length links)
outgoing-counted links n = length-filter (λ l. (link_at links l).from == n) (below (length links))

-- a place that is no node has no wire and no route
pub wires-none : (sources : ℕ → List ℤ) (joints : List Joint) (n p k : ℕ) → All (λ (joint : Joint). joint.node < n) joints → n ≤ p → k ≤ length joints → wires_from sources joints p k ≡ []
wires-none sources joints n p zero low past h = refl
wires-none sources joints n p (suc k) low past h =
    ap (wires_from sources joints p) (sym (add-one k))
    ∙ wires-other sources joints p k apart
    ∙ wires-none sources joints n p k low past (omega (arith, h))
  where
    apart : (joint_at joints k).node ≢ p
    apart e = let within : (joint_at joints k).node < n = low k (record { node = 0; input = 0; origin = Captured 0 }) (omega (arith, h)) in absurd (omega (arith, within, past, e))

pub routes-none : (carried : List Carried) (n p : ℕ) → All (λ (one : Carried). one.node < n) carried → n ≤ p → routes_of carried p ≡ []
routes-none [] n p low past = refl
routes-none (one ∷ carried) n p low past =
    ap (λ b. map route_to (cond b (one ∷ filter (λ (one : Carried). one.node == p) carried) (filter (λ (one : Carried). one.node == p) carried))) (eqb-no one.node p apart)
    ∙ routes-none carried n p (λ i d h. low (suc i) d (omega (arith, h))) past
  where
    apart : one.node ≢ p
    apart e = let within : one.node < n = low 0 one (omega arith) in absurd (omega (arith, within, past, e))
