-- The lists of events: how the event lines of a script are sorted into them.
use Rattle.std.proofs.Common.{◌≡◌, ℕ, zero, suc, ◌+◌, ◌<◌, ◌≤◌, Bool, true, false, cond, List, [], ◌∷◌, ◌++◌, length, map, filter, fold, All, refl, sym, ap, subst, ◌∙◌, arith, true≢false}
use Rattle.std.specs.Prelude.{if◌then◌else◌, ◌==◌, nat_lt, sum_by, slice_index_or}
use Rattle.std.specs.List.{AllByRecursion}
use Rattle.std.specs.List.Sorted.{IsNonDecreasing}
use Rattle.std.proofs.lemmas.List.{map-append}
use Rattle.std.proofs.lemmas.List.Elements.{All-from_recursion, recursion_from_All}
use Rattle.std.proofs.lemmas.List.Sums.{sum_by-append}
use Rattle.session_laws.specs.jack_types.specs.declared.events.Event.{Event}
use Rattle.session_laws.specs.session_model.specs.Grammar.{IsListed}
use Rattle.session_laws.specs.session_model.specs.Reading.{frame_before}
use Rattle.session_laws.specs.session_model.specs.Samples.{below}
use Rattle.grammar_laws.proofs.GrammarEvents.{IsItem}
use Rattle.grammar_laws.proofs.GrammarLines.{Goods}

abbrev pub Item : Type 0
Item = ℕ × (ℕ × Event)

-- the events of a list, and their frames
abbrev pub list_of : ℕ → List Item → List (ℕ × Event)
list_of list order = map (λ item. item.1) (filter (λ item. item.0 == list) order)

abbrev pub lists_of : List Item → List (List (ℕ × Event))
lists_of order = map (λ list. list_of list order) (below 16)

abbrev frames : List (ℕ × Event) → List ℕ
frames events = map (λ item. item.0) events

-- ---- sixteen places

at-below : {A : Type 0} (f : ℕ → A) (k : ℕ) (d : A) → k < 16 → slice_index_or (map f (below 16)) k d ≡ f k
at-below f zero d h = refl
at-below f (suc zero) d h = refl
at-below f (suc (suc zero)) d h = refl
at-below f (suc (suc (suc zero))) d h = refl
at-below f (suc (suc (suc (suc zero)))) d h = refl
at-below f (suc (suc (suc (suc (suc zero))))) d h = refl
at-below f (suc (suc (suc (suc (suc (suc zero)))))) d h = refl
at-below f (suc (suc (suc (suc (suc (suc (suc zero))))))) d h = refl
at-below f (suc (suc (suc (suc (suc (suc (suc (suc zero)))))))) d h = refl
at-below f (suc (suc (suc (suc (suc (suc (suc (suc (suc zero))))))))) d h = refl
at-below f (suc (suc (suc (suc (suc (suc (suc (suc (suc (suc zero)))))))))) d h = refl
at-below f (suc (suc (suc (suc (suc (suc (suc (suc (suc (suc (suc zero))))))))))) d h = refl
at-below f (suc (suc (suc (suc (suc (suc (suc (suc (suc (suc (suc (suc zero)))))))))))) d h = refl
at-below f (suc (suc (suc (suc (suc (suc (suc (suc (suc (suc (suc (suc (suc zero))))))))))))) d h = refl
at-below f (suc (suc (suc (suc (suc (suc (suc (suc (suc (suc (suc (suc (suc (suc zero)))))))))))))) d h = refl
at-below f (suc (suc (suc (suc (suc (suc (suc (suc (suc (suc (suc (suc (suc (suc (suc zero))))))))))))))) d h = refl
at-below f (suc (suc (suc (suc (suc (suc (suc (suc (suc (suc (suc (suc (suc (suc (suc (suc n)))))))))))))))) d h = absurd (omega arith)

same-lists : {A : Type 0} (xs ys : List A) (d : A) → length xs ≡ length ys → ((k : ℕ) → k < length xs → slice_index_or xs k d ≡ slice_index_or ys k d) → xs ≡ ys
same-lists [] [] d e h = refl
same-lists [] (y ∷ ys) d e h = absurd (omega (arith, e))
same-lists (x ∷ xs) [] d e h = absurd (omega (arith, e))
same-lists (x ∷ xs) (y ∷ ys) d e h =
    let first : x ≡ y = h zero (omega arith) in
    let later : xs ≡ ys = same-lists xs ys d (omega (arith, e)) (λ k lt. h (suc k) (omega (arith, lt))) in
    cc

pub lists_of-length : (order : List Item) → length (lists_of order) ≡ 16
lists_of-length order = refl

pub lists_of-at : (order : List Item) (list : ℕ) → list < 16 → list_of list order ≡ slice_index_or (lists_of order) list []
lists_of-at order list lt = sym (at-below (λ list. list_of list order) list [] lt)

pub lists_of-same : (events : List (List (ℕ × Event))) (order : List Item) → length events ≡ 16 → ((list : ℕ) → list < 16 → list_of list order ≡ slice_index_or events list []) → lists_of order ≡ events
lists_of-same events order len each = same-lists (lists_of order) events [] (sym len) (λ k lt. sym (lists_of-at order k lt) ∙ each k lt)

pub All-lists_of : (P : List (ℕ × Event) → Type 0) (order : List Item) → ((list : ℕ) → P (list_of list order)) → All P (lists_of order)
All-lists_of P order h = All-from_recursion P (lists_of order) (each (below 16))
  where
    each : (ks : List ℕ) → AllByRecursion P (map (λ list. list_of list order) ks)
    each [] = tt
    each (k ∷ ks) = (h k, each ks)

-- ---- how many there are

abbrev few_below : ℕ → List Item → ℕ
few_below n [] = 0
few_below n (item ∷ order) = cond (nat_lt item.0 n) 1 0 + few_below n order

few_below-none : (order : List Item) → few_below 0 order ≡ 0
few_below-none [] = refl
few_below-none (item ∷ order) = let h = few_below-none order in let t : nat_lt item.0 0 ≡ false = grind arith in rw t (omega (arith, h))

few_below-all : (n : ℕ) (order : List Item) → AllByRecursion (λ (item : Item). item.0 < n) order → few_below n order ≡ length order
few_below-all n [] p = refl
few_below-all n (item ∷ order) p = let lt = p.0 in let h = few_below-all n order p.1 in let t : nat_lt item.0 n ≡ true = grind arith in rw t (omega (arith, h))

one_list : (n : ℕ) (item : Item) (order : List Item) (m : ℕ) → length (list_of n order) ≡ m → length (list_of n (item ∷ order)) ≡ cond (item.0 == n) 1 0 + m
one_list n item order m h = go (item.0 == n)
  where
    go : (b : Bool) → length (map (λ (item : Item). item.1) (cond b (item ∷ filter (λ (item : Item). item.0 == n) order) (filter (λ (item : Item). item.0 == n) order))) ≡ cond b 1 0 + m
    go true = omega (arith, h)
    go false = omega (arith, h)

few_below-more : (n : ℕ) (order : List Item) → few_below (suc n) order ≡ few_below n order + length (list_of n order)
few_below-more n [] = refl
few_below-more n (item ∷ order) =
    let h = few_below-more n order in
    let one = one_list n item order (length (list_of n order)) refl in
    let test : cond (nat_lt item.0 (suc n)) 1 0 ≡ cond (nat_lt item.0 n) 1 0 + cond (item.0 == n) 1 0 = tests item.0 n in
    omega (arith, h, one, test)
  where
    tests : (a n : ℕ) → cond (nat_lt a (suc n)) 1 0 ≡ cond (nat_lt a n) 1 0 + cond (a == n) 1 0
    tests a n = grind arith

few_below-sum : (n : ℕ) (order : List Item) → sum_by length (map (λ list. list_of list order) (below n)) ≡ few_below n order
few_below-sum zero order = sym (few_below-none order)
few_below-sum (suc n) order =
    let h = few_below-sum n order in
    let a = map-append (λ list. list_of list order) (below n) (n ∷ []) in
    let b = sum_by-append length (map (λ list. list_of list order) (below n)) (list_of n order ∷ []) in
    let one : sum_by length (list_of n order ∷ []) ≡ length (list_of n order) = zero_plus (length (list_of n order)) in
    let more = few_below-more n order in
    ap (λ (xs : List (List (ℕ × Event))). sum_by length xs) a ∙ b ∙ sums _ _ _ _ _ h one more
  where
    zero_plus : (n : ℕ) → 0 + n ≡ n
    zero_plus n = omega arith

    sums : (a b c d e : ℕ) → a ≡ c → b ≡ d → e ≡ c + d → a + b ≡ e
    sums a b c d e p q r = omega arith

pub lists_of-count : (order : List Item) → AllByRecursion (λ (item : Item). item.0 < 16) order → sum_by length (lists_of order) ≡ length order
lists_of-count order p = few_below-sum 16 order ∙ few_below-all 16 order p

-- ---- frames that do not fall

abbrev pub Rises : ℕ → List ℕ → Type 0
Rises low [] = Unit {0}
Rises low (x ∷ xs) = (low ≤ x) × Rises x xs

rises-from : (low : ℕ) (xs : List ℕ) → ((d : ℕ) → 0 < length xs → low ≤ slice_index_or xs 0 d) → IsNonDecreasing xs → Rises low xs
rises-from low [] h sorted = tt
rises-from low (x ∷ xs) h sorted = (h 0 (omega arith), rises-from x xs (λ d lt. sorted 0 1 d (omega arith) (omega (arith, lt))) (λ i j d le lt. sorted (suc i) (suc j) d (omega (arith, le)) (omega (arith, lt))))

rises-at : (low : ℕ) (xs : List ℕ) (j d : ℕ) → Rises low xs → j < length xs → low ≤ slice_index_or xs j d
rises-at low [] j d r lt = absurd (omega (arith, lt))
rises-at low (x ∷ xs) zero d r lt = r.0
rises-at low (x ∷ xs) (suc j) d r lt = let h = rises-at x xs j d r.1 (omega (arith, lt)) in omega (arith, h, r.0)

rises-sorted : (low : ℕ) (xs : List ℕ) → Rises low xs → IsNonDecreasing xs
rises-sorted low [] r i j d le lt = absurd (omega (arith, lt))
rises-sorted low (x ∷ xs) r zero zero d le lt = omega arith
rises-sorted low (x ∷ xs) r zero (suc j) d le lt = rises-at x xs j d r.1 (omega (arith, lt))
rises-sorted low (x ∷ xs) r (suc i) zero d le lt = absurd (omega (arith, le))
rises-sorted low (x ∷ xs) r (suc i) (suc j) d le lt = rises-sorted x xs r.1 i j d (omega (arith, le)) (omega (arith, lt))

frame_before-more : (found : List Item) (item : Item) (list before : ℕ) → fold (λ before (item : Item). if item.0 == list then item.1.0 else before) before (found ++ item ∷ []) ≡ (if item.0 == list then item.1.0 else fold (λ before (item : Item). if item.0 == list then item.1.0 else before) before found)
frame_before-more [] item list before = refl
frame_before-more (first ∷ found) item list before = frame_before-more found item list (if first.0 == list then first.1.0 else before)

pub goods-rise : (found new : List Item) → Goods IsItem found new → (list : ℕ) → Rises (frame_before found list) (frames (list_of list new))
goods-rise found [] g list = tt
goods-rise found (item ∷ new) g list = go (item.0 == list) refl (goods-rise (found ++ item ∷ []) new g.1 list) (frame_before-more found item list 0)
  where
    go : (b : Bool) → (item.0 == list) ≡ b → Rises (frame_before (found ++ item ∷ []) list) (frames (list_of list new)) → frame_before (found ++ item ∷ []) list ≡ (if b then item.1.0 else frame_before found list)
        → Rises (frame_before found list) (map (λ (i : ℕ × Event). i.0) (map (λ (item : Item). item.1) (cond b (item ∷ filter (λ (item : Item). item.0 == list) new) (filter (λ (item : Item). item.0 == list) new))))
    go true same later e = let k : item.0 ≡ list = grind arith in (subst (λ (l : ℕ). frame_before found l ≤ item.1.0) k g.0.1, subst (λ (n : ℕ). Rises n (frames (list_of list new))) e later)
    go false same later e = subst (λ (n : ℕ). Rises n (frames (list_of list new))) e later

rises-goods : (found new : List Item) → AllByRecursion (λ (item : Item). item.0 < 16) new → AllByRecursion (λ (item : Item). IsListed item.1) new → ((list : ℕ) → list < 16 → Rises (frame_before found list) (frames (list_of list new))) → Goods IsItem found new
rises-goods found [] p q r = tt
rises-goods found (item ∷ new) p q r =
    let lt = p.0 in
    let here = first_rise (item.0 == item.0) (same_number item.0) (r item.0 p.0) in
    ((omega arith, here, q.0), rises-goods (found ++ item ∷ []) new p.1 q.1 (λ list below. behind list (item.0 == list) refl (r list below) (frame_before-more found item list 0)))
  where
    same_number : (n : ℕ) → (n == n) ≡ true
    same_number n = grind arith

    first_rise : (b : Bool) → b ≡ true → Rises (frame_before found item.0) (map (λ (i : ℕ × Event). i.0) (map (λ (item : Item). item.1) (cond b (item ∷ filter (λ (other : Item). other.0 == item.0) new) (filter (λ (other : Item). other.0 == item.0) new)))) → frame_before found item.0 ≤ item.1.0
    first_rise true e h = h.0
    first_rise false e h = absurd (true≢false (sym e))

    behind : (list : ℕ) (b : Bool) → (item.0 == list) ≡ b → Rises (frame_before found list) (map (λ (i : ℕ × Event). i.0) (map (λ (item : Item). item.1) (cond b (item ∷ filter (λ (other : Item). other.0 == list) new) (filter (λ (other : Item). other.0 == list) new))))
        → frame_before (found ++ item ∷ []) list ≡ (if b then item.1.0 else frame_before found list) → Rises (frame_before (found ++ item ∷ []) list) (frames (list_of list new))
    behind list true same h e = subst (λ (n : ℕ). Rises n (frames (list_of list new))) (sym e) h.1
    behind list false same h e = subst (λ (n : ℕ). Rises n (frames (list_of list new))) (sym e) h

-- ---- what holds of each event

pub goods-listed : (found new : List Item) → Goods IsItem found new → AllByRecursion (λ (item : Item). item.0 < 16) new × AllByRecursion (λ (item : Item). IsListed item.1) new
goods-listed found [] g = (tt, tt)
goods-listed found (item ∷ new) g = let le = g.0.0 in let later = goods-listed (found ++ item ∷ []) new g.1 in ((omega arith, later.0), (g.0.2, later.1))

pub list_of-listed : (list : ℕ) (order : List Item) → AllByRecursion (λ (item : Item). IsListed item.1) order → AllByRecursion IsListed (list_of list order)
list_of-listed list [] p = tt
list_of-listed list (item ∷ order) p = go (item.0 == list) (list_of-listed list order p.1)
  where
    go : (b : Bool) → AllByRecursion IsListed (list_of list order) → AllByRecursion IsListed (map (λ (item : Item). item.1) (cond b (item ∷ filter (λ (item : Item). item.0 == list) order) (filter (λ (item : Item). item.0 == list) order)))
    go true later = (p.0, later)
    go false later = later

listed-order : (order : List Item) → AllByRecursion (λ (item : Item). item.0 < 16) order → ((list : ℕ) → list < 16 → AllByRecursion IsListed (list_of list order)) → AllByRecursion (λ (item : Item). IsListed item.1) order
listed-order [] p h = tt
listed-order (item ∷ order) p h =
    (first (item.0 == item.0) (same_number item.0) (h item.0 p.0), listed-order order p.1 (λ list lt. later list (item.0 == list) (h list lt)))
  where
    same_number : (n : ℕ) → (n == n) ≡ true
    same_number n = grind arith

    first : (b : Bool) → b ≡ true → AllByRecursion IsListed (map (λ (item : Item). item.1) (cond b (item ∷ filter (λ (other : Item). other.0 == item.0) order) (filter (λ (other : Item). other.0 == item.0) order))) → IsListed item.1
    first true e q = q.0
    first false e q = absurd (true≢false (sym e))

    later : (list : ℕ) (b : Bool) → AllByRecursion IsListed (map (λ (item : Item). item.1) (cond b (item ∷ filter (λ (other : Item). other.0 == list) order) (filter (λ (other : Item). other.0 == list) order))) → AllByRecursion IsListed (list_of list order)
    later list true q = q.1
    later list false q = q

-- the lists that good event lines make
pub record AreLists (events : List (List (ℕ × Event))) : Type 0 where
  pub lists : length events ≡ 16
  pub listed : All (All IsListed) events
  pub by_frame : All (λ list. IsNonDecreasing (map (λ item. item.0) list)) events

pub goods-lists : (order : List Item) → Goods IsItem [] order → AreLists (lists_of order)
goods-lists order g = record {
  lists = refl;
  listed = All-lists_of (All IsListed) order (λ list. All-from_recursion IsListed (list_of list order) (list_of-listed list order (goods-listed [] order g).1));
  by_frame = All-lists_of (λ list. IsNonDecreasing (map (λ item. item.0) list)) order (λ list. rises-sorted 0 (frames (list_of list order)) (goods-rise [] order g list));
}

pub lists-goods : (events : List (List (ℕ × Event))) (order : List Item) → AreLists events → All (λ (item : Item). item.0 < 16) order → ((list : ℕ) → list < 16 → list_of list order ≡ slice_index_or events list []) → Goods IsItem [] order
lists-goods events order l small each = rises-goods [] order small_each (listed-order order small_each listed) rising
  where
    small_each : AllByRecursion (λ (item : Item). item.0 < 16) order
    small_each = recursion_from_All (λ (item : Item). item.0 < 16) order small

    listed : (list : ℕ) → list < 16 → AllByRecursion IsListed (list_of list order)
    listed list lt = recursion_from_All IsListed (list_of list order) (subst (λ (xs : List (ℕ × Event)). All IsListed xs) (sym (each list lt)) (l.listed list [] (omega (arith, lt, l.lists))))

    rising : (list : ℕ) → list < 16 → Rises 0 (frames (list_of list order))
    rising list lt = rises-from 0 (frames (list_of list order)) (λ d k. omega arith) (subst (λ (xs : List (ℕ × Event)). IsNonDecreasing (map (λ item. item.0) xs)) (sym (each list lt)) (l.by_frame list [] (omega (arith, lt, l.lists))))

-- where each list is empty there is no event line
pub no_lists-no_order : (order : List Item) → AllByRecursion (λ (item : Item). item.0 < 16) order → ((list : ℕ) → list < 16 → list_of list order ≡ []) → order ≡ []
no_lists-no_order [] p h = refl
no_lists-no_order (item ∷ order) p h = absurd (first (item.0 == item.0) (same_number item.0) (h item.0 p.0))
  where
    same_number : (n : ℕ) → (n == n) ≡ true
    same_number n = grind arith

    first : (b : Bool) → b ≡ true → map (λ (item : Item). item.1) (cond b (item ∷ filter (λ (other : Item). other.0 == item.0) order) (filter (λ (other : Item). other.0 == item.0) order)) ≡ [] → ⊥
    first true e q = nothing q
      where
        nothing : {xs : List (ℕ × Event)} {x : ℕ × Event} → x ∷ xs ≡ [] → ⊥
        nothing e = absurd cc
    first false e q = absurd (true≢false (sym e))
