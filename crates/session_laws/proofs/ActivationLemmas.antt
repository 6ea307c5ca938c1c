-- The activation machine keeps its facts.
--     IsConsistent-moved      each allowed event keeps counters, places and releases in agreement
--     AllHome-quiet, AllReleased-quiet      started everywhere, and nothing held or left: every node is home and every link released
--     IsRight-moved      each allowed event keeps benches and values sequential
--     AllSequential-quiet, AllValues-quiet      when all is quiet, every bench is sequential and every link has its value
use Rattle.std.proofs.Common.{◌≡◌, ℕ, zero, suc, ◌+◌, ◌-◌, ◌<◌, ◌≤◌, Bool, true, false, cond, not, ◌&&◌, ◌==◌, nat_lt, ◌↔◌, ◌≢◌, List, [], ◌∷◌, ◌++◌, length, map, filter, set, get_or, slice_index, count_by, All, Contains, Option, Some, if◌then◌else◌, refl, sym, ◌∙◌, ap, subst, arith, true≢false, eqb-true, eq-eqb, get_or-set_same, get_or-set_other, length-set, length-append}
use Rattle.std.proofs.lemmas.Bool.Decides.{nat_tests}
use Rattle.std.proofs.lemmas.List.Elements.{filter-append, All-contains}
use Rattle.std.proofs.lemmas.List.Sums.{sum_by-append, sum_by-cons}
use Rattle.session_model.specs.jack_types.specs.declared.ports.Link.{Link}
use Rattle.session_model.specs.Activation.{AreLinks, Place, Waiting, Held, Left, AtHome, Machine, Move, StartNode, ReleaseLink, HomeNode, LeaveNode, PickNode, PlayNode, no_link, link_at, fresh, incoming, outgoing, is_started, is_released, place_of, Allowed, with_fallen, moved, open_links, IsDone, IsConsistentNode, IsConsistent, place_among, given_within, given_to, value_of, sequential, IsBench, IsQuiet, Benches, Stays, Hands, Plays, Does, IsShown, IsRight}
use Rattle.session_model.specs.Samples.{below}
use Rattle.session_laws.proofs.ListLemmas.{Each, Each-below, Each-filter, Each-filter_kept, Each-both, Each-contains, Each-from_contains, Contains-kept}

-- ---- numbers below a bound, and counts

pub below-contains : (n i : ℕ) → i < n → Contains (below n) i
below-contains n i h = contains n i h
  where
    last : (xs : List ℕ) (x : ℕ) → Contains (xs ++ x ∷ []) x
    last [] x = (0, omega arith, refl)
    last (y ∷ xs) x = let c = last xs x in (suc c.0, omega (arith, c.1), c.2)

    front : (xs ys : List ℕ) (x : ℕ) → Contains xs x → Contains (xs ++ ys) x
    front [] ys x c = absurd (none c.1)
      where
        none : {n : ℕ} → n < 0 → ⊥
        none q = omega arith
    front (y ∷ xs) ys x c = go c.0 c.1 c.2 (λ d. front xs ys x d)
      where
        go : (k : ℕ) → k < length (y ∷ xs) → get_or (y ∷ xs) k x ≡ x → (Contains xs x → Contains (xs ++ ys) x) → Contains (y ∷ (xs ++ ys)) x
        go zero b e f = (0, omega arith, e)
        go (suc k) b e f = let d = f (k, omega (arith, b), e) in (suc d.0, omega (arith, d.1), d.2)

    contains : (n i : ℕ) → i < n → Contains (below n) i
    contains zero i h = absurd (omega (arith, h))
    contains (suc n) i h = go (i == n) refl (λ k. contains n i k)
      where
        go : (b : Bool) → (i == n) ≡ b → (i < n → Contains (below n) i) → Contains (below n ++ n ∷ []) i
        go true e f = subst (λ j. Contains (below n ++ n ∷ []) j) (sym (eqb-true i n e)) (last (below n) n)
        go false e f = front (below n) (n ∷ []) i (f (grind (arith, nat_tests)))

-- one more link released: the count of those that are not falls by one where it is counted
count_released : (q p r : ℕ → Bool) (l : ℕ) → p l ≡ true → r l ≡ false → ((x : ℕ) → x ≢ l → r x ≡ p x) → (n : ℕ)
    → count_by p (filter q (below n)) ≡ count_by r (filter q (below n)) + cond (q l && nat_lt l n) 1 0
count_released q p r l here gone same zero = rw no_room refl
  where
    and_false : (b : Bool) → (b && false) ≡ false
    and_false true = refl
    and_false false = refl

    no_room : (q l && nat_lt l zero) ≡ false
    no_room = ap (λ b. q l && b) (lt_zero l) ∙ and_false (q l)
      where
        lt_zero : (k : ℕ) → nat_lt k zero ≡ false
        lt_zero k = grind (arith, nat_tests)
count_released q p r l here gone same (suc n) = joined (count_released q p r l here gone same n)
  where
    one : (f : ℕ → Bool) → count_by f (filter q (below n ++ n ∷ [])) ≡ count_by f (filter q (below n)) + cond (q n) (cond (f n) 1 0) 0
    one f =
        ap (count_by f) (filter-append q (below n) (n ∷ []))
        ∙ sum_by-append (λ x. cond (f x) 1 0) (filter q (below n)) (filter q (n ∷ []))
        ∙ ap (λ k. count_by f (filter q (below n)) + k) (single (q n))
      where
        single : (b : Bool) → count_by f (cond b (n ∷ []) []) ≡ cond b (cond (f n) 1 0) 0
        single true = let z : 0 + cond (f n) 1 0 ≡ cond (f n) 1 0 = omega arith in z
        single false = refl

    joined : count_by p (filter q (below n)) ≡ count_by r (filter q (below n)) + cond (q l && nat_lt l n) 1 0
        → count_by p (filter q (below n ++ n ∷ [])) ≡ count_by r (filter q (below n ++ n ∷ [])) + cond (q l && nat_lt l (suc n)) 1 0
    joined e = rw (one p, one r) (cases (n == l) refl)
      where
        cases : (b : Bool) → (n == l) ≡ b
            → count_by p (filter q (below n)) + cond (q n) (cond (p n) 1 0) 0 ≡ (count_by r (filter q (below n)) + cond (q n) (cond (r n) 1 0) 0) + cond (q l && nat_lt l (suc n)) 1 0
        cases true t =
            let is : n ≡ l = eqb-true n l t in
            let pn : p n ≡ true = ap p is ∙ here in
            let rn : r n ≡ false = ap r is ∙ gone in
            let qn : q n ≡ q l = ap q is in
            let before : nat_lt l n ≡ false = grind (arith, nat_tests) in
            let now : nat_lt l (suc n) ≡ true = grind (arith, nat_tests) in
            rw (pn, rn, qn, now) (by_q (q l) (rw before at e))
          where
            by_q : (c : Bool) → count_by p (filter q (below n)) ≡ count_by r (filter q (below n)) + cond (c && false) 1 0
                → count_by p (filter q (below n)) + cond c 1 0 ≡ (count_by r (filter q (below n)) + cond c 0 0) + cond (c && true) 1 0
            by_q true f = omega (arith, f)
            by_q false f = omega (arith, f)
        cases false t =
            let apart : n ≢ l = λ s. true≢false (sym (eq-eqb n l s) ∙ t) in
            let rn : r n ≡ p n = same n apart in
            let room : nat_lt l (suc n) ≡ nat_lt l n = grind (arith, nat_tests) in
            rw (rn, room) (omega (arith, e))

count_none : (p : ℕ → Bool) (xs : List ℕ) → Each (λ x. p x ≡ false) xs → count_by p xs ≡ 0
count_none p [] h = refl
count_none p (x ∷ xs) h = sum_by-cons (λ y. cond (p y) 1 0) x xs ∙ rw (h.0, count_none p xs h.1) refl

count_zero : (p : ℕ → Bool) (xs : List ℕ) → count_by p xs ≡ 0 → Each (λ x. p x ≡ false) xs
count_zero p [] h = tt
count_zero p (x ∷ xs) h = go (p x) refl (λ e. count_zero p xs e) (sym (sum_by-cons (λ y. cond (p y) 1 0) x xs) ∙ h)
  where
    go : (b : Bool) → p x ≡ b → (count_by p xs ≡ 0 → Each (λ y. p y ≡ false) xs) → cond (p x) 1 0 + count_by p xs ≡ 0 → Each (λ y. p y ≡ false) (x ∷ xs)
    go true e f k = absurd (omega (arith, rw e at k))
    go false e f k = (e, f (omega (arith, rw e at k)))

-- ---- places

waiting-held : (seat : ℕ) (b : Bool) → Held seat b ≡ Waiting → ⊥
waiting-held seat b e = cc

waiting-left : Left ≡ Waiting → ⊥
waiting-left e = cc

waiting-home : AtHome ≡ Waiting → ⊥
waiting-home e = cc

home-held : (seat : ℕ) (b : Bool) → Held seat b ≡ AtHome → ⊥
home-held seat b e = cc

home-left : Left ≡ AtHome → ⊥
home-left e = cc

home-waiting : Waiting ≡ AtHome → ⊥
home-waiting e = cc

-- past the end nodes wait
place_within : (places : List Place) (n : ℕ) → get_or places n Waiting ≢ Waiting → n < length places
place_within [] n h = absurd (h refl)
place_within (p ∷ places) zero h = omega arith
place_within (p ∷ places) (suc n) h = omega (arith, place_within places n h)

module _ (links : List Link) where
  outgoing-contains : (l n : ℕ) → l < length links → (link_at links l).from ≡ n → Contains (outgoing links n) l
  outgoing-contains l n h e = Contains-kept (λ k. (link_at links k).from == n) (below (length links)) l (eq-eqb (link_at links l).from n e) (below-contains (length links) l h)

  incoming-facts : (n : ℕ) → Each (λ l. (l < length links) × ((link_at links l).to ≡ n)) (incoming links n)
  incoming-facts n =
      Each-both (λ l. l < length links) (λ l. (link_at links l).to ≡ n) (λ l. (l < length links) × ((link_at links l).to ≡ n)) (λ l a b. (a, b)) (incoming links n)
      (Each-filter_kept (λ l. l < length links) (λ l. (link_at links l).to == n) (below (length links)) (Each-below (λ l. l < length links) (length links) (λ l h. h)))
      (Each-filter (λ l. (link_at links l).to ≡ n) (λ l. (link_at links l).to == n) (below (length links)) (λ l e. eqb-true (link_at links l).to n e))

  -- the places with one set, at that node and at others
  set-same : (places : List Place) (n : ℕ) (place : Place) → n < length places → get_or (set places n place) n Waiting ≡ place
  set-same places n place h = get_or-set_same places n place Waiting h

  set-other : (places : List Place) (n m : ℕ) (place : Place) → m ≢ n → get_or (set places n place) m Waiting ≡ get_or places m Waiting
  set-other places n m place h = get_or-set_other places n m place Waiting h

  -- a node that was not waiting goes to another place where it does not wait
  placed-consistent : (machine : Machine) (n : ℕ) (place : Place) → IsConsistent links machine → place_of machine n ≢ Waiting → place ≢ Waiting
      → (IsDone (place_of machine n) → IsDone place) → (place ≡ AtHome → All (λ l. is_released machine l ≡ true) (outgoing links n))
      → IsConsistent links (record machine { places = set machine.places n place })
  placed-consistent machine n place consistent old new done home = record {
    counters = consistent.counters ∙ sym (length-set machine.places n place);
    started = consistent.started ∙ sym (length-set machine.places n place);
    released = consistent.released;
    nodes = λ m h. node m (consistent.nodes m (omega (arith, h, length-set machine.places n place))) (m == n) refl;
    sources = λ l h r. source l (consistent.sources l h r) ((link_at links l).from == n) refl;
  }
    where
      inside : n < length machine.places
      inside = place_within machine.places n old

      node : (m : ℕ) → IsConsistentNode links machine m → (b : Bool) → (m == n) ≡ b → IsConsistentNode links (record machine { places = set machine.places n place }) m
      node m c true e =
          let is : m ≡ n = eqb-true m n e in
          let now : get_or (set machine.places n place) m Waiting ≡ place = ap (λ k. get_or (set machine.places n place) k Waiting) is ∙ set-same machine.places n place inside in
          let was : place_of machine m ≢ Waiting = subst (λ k. place_of machine k ≢ Waiting) (sym is) old in
          record {
            counter = c.counter;
            waits = ((λ w. absurd (new (sym now ∙ w))), (λ w. absurd (was (c.waits.1 w))));
            home = λ w. subst (λ k. All (λ l. is_released machine l ≡ true) (outgoing links k)) (sym is) (home (sym now ∙ w));
          }
      node m c false e =
          let apart : m ≢ n = λ s. true≢false (sym (eq-eqb m n s) ∙ e) in
          let now : get_or (set machine.places n place) m Waiting ≡ place_of machine m = set-other machine.places n m place apart in
          record {
            counter = c.counter;
            waits = ((λ w. c.waits.0 (sym now ∙ w)), (λ w. now ∙ c.waits.1 w));
            home = λ w. c.home (sym now ∙ w);
          }

      source : (l : ℕ) → IsDone (place_of machine (link_at links l).from) → (b : Bool) → ((link_at links l).from == n) ≡ b → IsDone (get_or (set machine.places n place) (link_at links l).from Waiting)
      source l d true e =
          let is : (link_at links l).from ≡ n = eqb-true (link_at links l).from n e in
          let now : get_or (set machine.places n place) (link_at links l).from Waiting ≡ place = ap (λ k. get_or (set machine.places n place) k Waiting) is ∙ set-same machine.places n place inside in
          subst IsDone (sym now) (done (subst (λ k. IsDone (place_of machine k)) is d))
      source l d false e =
          let apart : (link_at links l).from ≢ n = λ s. true≢false (sym (eq-eqb (link_at links l).from n s) ∙ e) in
          subst IsDone (sym (set-other machine.places n (link_at links l).from place apart)) d

  -- a machine in which the counter of one node is one too high
  record IsTooHigh (machine : Machine) (n : ℕ) : Type 0 where
    counters_long : length machine.counters ≡ length machine.places
    started_long : length machine.started ≡ length machine.places
    released_long : length machine.released ≡ length links
    inside : n < length machine.places
    counter : (m : ℕ) → m < length machine.places → slice_index machine.counters m ≡ open_links links machine m + (if is_started machine m then 0 else 1) + cond (m == n) 1 0
    waits : (m : ℕ) → m < length machine.places → (place_of machine m ≡ Waiting) ↔ (0 < slice_index machine.counters m)
    home : (m : ℕ) → m < length machine.places → place_of machine m ≡ AtHome → All (λ l. is_released machine l ≡ true) (outgoing links m)
    source : (l : ℕ) → l < length links → is_released machine l ≡ true → IsDone (place_of machine (link_at links l).from)

  fallen-consistent : (seat n : ℕ) (machine : Machine) → IsTooHigh machine n → IsConsistent links (with_fallen seat n machine)
  fallen-consistent seat n machine high = go (slice_index machine.counters n - 1 == 0) refl
    where
      fallen : ℕ
      fallen = slice_index machine.counters n - 1

      first_eq : slice_index machine.counters n ≡ open_links links machine n + (if is_started machine n then 0 else 1) + 1
      first_eq = high.counter n high.inside ∙ ap (λ b. open_links links machine n + (if is_started machine n then 0 else 1) + cond b 1 0) (eq-eqb n n refl)

      waited : place_of machine n ≡ Waiting
      waited = (high.waits n high.inside).1 (omega (arith, first_eq))

      with_places : List Place → Machine
      with_places places = record machine { counters = set machine.counters n fallen; places = places }

      -- what the new places have to be
      whole : (places : List Place) → length places ≡ length machine.places → ((m : ℕ) → m ≢ n → get_or places m Waiting ≡ place_of machine m)
          → ((get_or places n Waiting ≡ Waiting) ↔ (0 < fallen)) → (get_or places n Waiting ≢ AtHome) → IsConsistent links (with_places places)
      whole places long others here no_home = record {
        counters = length-set machine.counters n fallen ∙ high.counters_long ∙ sym long;
        started = high.started_long ∙ sym long;
        released = high.released_long;
        nodes = λ m h. node m (omega (arith, h, long)) (m == n) refl;
        sources = λ l h r. source l (high.source l h r) ((link_at links l).from == n) refl;
      }
        where
          node : (m : ℕ) → m < length machine.places → (b : Bool) → (m == n) ≡ b → IsConsistentNode links (with_places places) m
          node m h true e =
              let is : m ≡ n = eqb-true m n e in
              let now : get_or (set machine.counters n fallen) m 0 ≡ fallen =
              ap (λ k. get_or (set machine.counters n fallen) k 0) is ∙ get_or-set_same machine.counters n fallen 0 (omega (arith, high.inside, high.counters_long)) in
              let count : fallen ≡ open_links links machine n + (if is_started machine n then 0 else 1) = omega (arith, first_eq) in
              record {
                counter = now ∙ subst (λ k. fallen ≡ open_links links machine k + (if is_started machine k then 0 else 1)) (sym is) count;
                waits = ((λ w. subst (λ k. 0 < k) (sym now) (here.0 (subst (λ k. get_or places k Waiting ≡ Waiting) is w))), (λ w. subst (λ k. get_or places k Waiting ≡ Waiting) (sym is) (here.1 (subst (λ k. 0 < k) now w))));
                home = λ w. absurd (no_home (subst (λ k. get_or places k Waiting ≡ AtHome) is w));
              }
          node m h false e =
              let apart : m ≢ n = λ s. true≢false (sym (eq-eqb m n s) ∙ e) in
              let now : get_or (set machine.counters n fallen) m 0 ≡ slice_index machine.counters m = get_or-set_other machine.counters n m fallen 0 apart in
              let place : get_or places m Waiting ≡ place_of machine m = others m apart in
              let count : slice_index machine.counters m ≡ open_links links machine m + (if is_started machine m then 0 else 1) + cond (m == n) 1 0 = high.counter m h in
              let exact : slice_index machine.counters m ≡ open_links links machine m + (if is_started machine m then 0 else 1) = omega (arith, rw e at count) in
              record {
                counter = now ∙ exact;
                waits = ((λ w. subst (λ k. 0 < k) (sym now) ((high.waits m h).0 (sym place ∙ w))), (λ w. place ∙ (high.waits m h).1 (subst (λ k. 0 < k) now w)));
                home = λ w. high.home m h (sym place ∙ w);
              }

          source : (l : ℕ) → IsDone (place_of machine (link_at links l).from) → (b : Bool) → ((link_at links l).from == n) ≡ b → IsDone (get_or places (link_at links l).from Waiting)
          source l d true e =
              let is : (link_at links l).from ≡ n = eqb-true (link_at links l).from n e in
              absurd (subst IsDone (ap (place_of machine) is ∙ waited) d)
          source l d false e =
              let apart : (link_at links l).from ≢ n = λ s. true≢false (sym (eq-eqb (link_at links l).from n s) ∙ e) in
              subst IsDone (sym (others (link_at links l).from apart)) d

      go : (b : Bool) → (fallen == 0) ≡ b → IsConsistent links (with_places (if b then set machine.places n (Held seat false) else machine.places))
      go true e =
          let none : fallen ≡ 0 = eqb-true fallen 0 e in
          let now : get_or (set machine.places n (Held seat false)) n Waiting ≡ Held seat false = set-same machine.places n (Held seat false) high.inside in
          whole (set machine.places n (Held seat false)) (length-set machine.places n (Held seat false)) (λ m apart. set-other machine.places n m (Held seat false) apart)
          ((λ w. absurd (waiting-held seat false (sym now ∙ w))), (λ w. absurd (omega (arith, w, none)))) (λ w. home-held seat false (sym now ∙ w))
      go false e =
          let some : fallen ≢ 0 = λ s. true≢false (sym (eq-eqb fallen 0 s) ∙ e) in
          whole machine.places refl (λ m apart. refl) ((λ w. omega (arith, some)), (λ w. waited)) (λ w. home-waiting (sym waited ∙ w))

  fallen_places : (seat n : ℕ) (machine : Machine) → length (with_fallen seat n machine).places ≡ length machine.places
  fallen_places seat n machine = go (slice_index machine.counters n - 1 == 0)
    where
      go : (b : Bool) → length (if b then set machine.places n (Held seat false) else machine.places) ≡ length machine.places
      go true = length-set machine.places n (Held seat false)
      go false = refl

  -- no event makes or takes away a node
  pub length-moved : (machine : Machine) (move : Move) → length (moved links machine move).places ≡ length machine.places
  length-moved machine (StartNode seat n) = fallen_places seat n (record machine { started = set machine.started n true })
  length-moved machine (ReleaseLink seat l) = fallen_places seat (link_at links l).to (record machine { released = set machine.released l true })
  length-moved machine (HomeNode seat n) = length-set machine.places n AtHome
  length-moved machine (LeaveNode seat n) = length-set machine.places n Left
  length-moved machine (PickNode seat n) = length-set machine.places n (Held seat false)
  length-moved machine (PlayNode seat n) = length-set machine.places n (Held seat true)

  module _ (nodes : ℕ) (are : AreLinks nodes links) (seats : ℕ) where
    started-high : (machine : Machine) (n : ℕ) → IsConsistent links machine → n < length machine.places → is_started machine n ≡ false → IsTooHigh (record machine { started = set machine.started n true }) n
    started-high machine n c h e = record {
      counters_long = c.counters;
      started_long = length-set machine.started n true ∙ c.started;
      released_long = c.released;
      inside = h;
      counter = λ m k. count m (c.nodes m k).counter (m == n) refl;
      waits = λ m k. (c.nodes m k).waits;
      home = λ m k. (c.nodes m k).home;
      source = c.sources;
    }
      where
        count : (m : ℕ) → slice_index machine.counters m ≡ open_links links machine m + (if is_started machine m then 0 else 1) → (b : Bool) → (m == n) ≡ b
            → slice_index machine.counters m ≡ open_links links machine m + (if get_or (set machine.started n true) m false then 0 else 1) + cond b 1 0
        count m old true t =
            let is : m ≡ n = eqb-true m n t in
            let was : is_started machine m ≡ false = ap (is_started machine) is ∙ e in
            let now : get_or (set machine.started n true) m false ≡ true = ap (λ k. get_or (set machine.started n true) k false) is ∙ get_or-set_same machine.started n true false (omega (arith, h, c.started)) in
            rw now (omega (arith, rw was at old))
        count m old false t =
            let apart : m ≢ n = λ s. true≢false (sym (eq-eqb m n s) ∙ t) in
            let now : get_or (set machine.started n true) m false ≡ is_started machine m = get_or-set_other machine.started n m true false apart in
            rw now (omega (arith, old))

    released-high : (machine : Machine) (l : ℕ) → length machine.places ≡ nodes → IsConsistent links machine → l < length links → IsDone (place_of machine (link_at links l).from) → is_released machine l ≡ false
        → IsTooHigh (record machine { released = set machine.released l true }) (link_at links l).to
    released-high machine l size c h done e = record {
      counters_long = c.counters;
      started_long = c.started;
      released_long = length-set machine.released l true ∙ c.released;
      inside = omega (arith, are.within l no_link h, size);
      counter = λ m k. count m (c.nodes m k).counter;
      waits = λ m k. (c.nodes m k).waits;
      home = λ m k w i d b. more (get_or (outgoing links m) i d) ((c.nodes m k).home w i d b);
      source = λ k b r. source k b r (k == l) refl;
    }
      where
        after : List Bool
        after = set machine.released l true

        now_here : get_or after l false ≡ true
        now_here = get_or-set_same machine.released l true false (omega (arith, h, c.released))

        now_other : (k : ℕ) → k ≢ l → get_or after k false ≡ is_released machine k
        now_other k apart = get_or-set_other machine.released l k true false apart

        more : (k : ℕ) → is_released machine k ≡ true → get_or after k false ≡ true
        more k r = go (k == l) refl
          where
            go : (b : Bool) → (k == l) ≡ b → get_or after k false ≡ true
            go true t = ap (λ j. get_or after j false) (eqb-true k l t) ∙ now_here
            go false t = now_other k (λ s. true≢false (sym (eq-eqb k l s) ∙ t)) ∙ r

        source : (k : ℕ) → k < length links → get_or after k false ≡ true → (b : Bool) → (k == l) ≡ b → IsDone (place_of machine (link_at links k).from)
        source k b r true t = subst (λ j. IsDone (place_of machine (link_at links j).from)) (sym (eqb-true k l t)) done
        source k b r false t = c.sources k b (sym (now_other k (λ s. true≢false (sym (eq-eqb k l s) ∙ t))) ∙ r)

        count : (m : ℕ) → slice_index machine.counters m ≡ open_links links machine m + (if is_started machine m then 0 else 1)
            → slice_index machine.counters m ≡ open_links links (record machine { released = after }) m + (if is_started machine m then 0 else 1) + cond (m == (link_at links l).to) 1 0
        count m old =
            let fall : open_links links machine m ≡ open_links links (record machine { released = after }) m + cond ((link_at links l).to == m && nat_lt l (length links)) 1 0 =
            count_released (λ k. (link_at links k).to == m) (λ k. not (is_released machine k)) (λ k. not (get_or after k false)) l (ap not e) (ap not now_here) (λ k apart. ap not (now_other k apart)) (length links) in
            let room : nat_lt l (length links) ≡ true = grind (arith, nat_tests) in
            let turned : ((link_at links l).to == m) ≡ (m == (link_at links l).to) = grind (arith, nat_tests) in
            let fall_now : open_links links machine m ≡ open_links links (record machine { released = after }) m + cond (m == (link_at links l).to) 1 0 =
            fall ∙ ap (λ b. open_links links (record machine { released = after }) m + cond b 1 0) (ap (λ b. (link_at links l).to == m && b) room ∙ and_true_right ((link_at links l).to == m) ∙ turned) in
            omega (arith, old, fall_now)
          where
            and_true_right : (b : Bool) → (b && true) ≡ b
            and_true_right true = refl
            and_true_right false = refl

    pub IsConsistent-moved : (machine : Machine) (move : Move) → length machine.places ≡ nodes → IsConsistent links machine → Allowed links seats machine move → IsConsistent links (moved links machine move)
    IsConsistent-moved machine (StartNode seat n) size c a = fallen-consistent seat n (record machine { started = set machine.started n true }) (started-high machine n c a.0 a.3)
    IsConsistent-moved machine (ReleaseLink seat l) size c a =
        fallen-consistent seat (link_at links l).to (record machine { released = set machine.released l true }) (released-high machine l size c a.0 (subst IsDone (sym a.1) refl) a.2)
    IsConsistent-moved machine (HomeNode seat n) size c a =
        placed-consistent machine n AtHome c (λ w. waiting-held seat true (sym a.0 ∙ w)) waiting-home (λ d. tt) (λ w. a.1)
    IsConsistent-moved machine (LeaveNode seat n) size c a =
        placed-consistent machine n Left c (λ w. waiting-held seat false (sym a ∙ w)) waiting-left (λ d. absurd (true≢false (sym (subst IsDone a d)))) (λ w. absurd (home-left w))
    IsConsistent-moved machine (PickNode seat n) size c a =
        placed-consistent machine n (Held seat false) c (λ w. waiting-left (sym a.1 ∙ w)) (λ w. waiting-held seat false w) (λ d. absurd (subst IsDone a.1 d)) (λ w. absurd (home-held seat false w))
    IsConsistent-moved machine (PlayNode seat n) size c a =
        placed-consistent machine n (Held seat true) c (λ w. waiting-held seat false (sym a ∙ w)) (λ w. waiting-held seat true w) (λ d. absurd (true≢false (sym (subst IsDone a d)))) (λ w. absurd (home-held seat true w))

    module _ (machine : Machine) (size : length machine.places ≡ nodes) (consistent : IsConsistent links machine) (quiet : IsQuiet machine) where
      home-next : (n : ℕ) → n < nodes → ((m : ℕ) → m < n → m < nodes → place_of machine m ≡ AtHome) → place_of machine n ≡ AtHome
      home-next n h earlier = go (place_of machine n) refl
        where
          node : IsConsistentNode links machine n
          node = consistent.nodes n (omega (arith, h, size))

          released : Each (λ l. not (is_released machine l) ≡ false) (incoming links n)
          released =
              Each-from_contains (λ l. not (is_released machine l) ≡ false) (incoming links n)
              (λ l c.
              let facts = Each-contains (λ k. (k < length links) × ((link_at links k).to ≡ n)) (incoming links n) l (incoming-facts n) c in
              let up : (link_at links l).from < n = omega (arith, are.upward l no_link facts.0, facts.1) in
              let inside : (link_at links l).from < nodes = omega (arith, up, h) in
              let home : place_of machine (link_at links l).from ≡ AtHome = earlier (link_at links l).from up inside in
              let out : All (λ k. is_released machine k ≡ true) (outgoing links (link_at links l).from) = (consistent.nodes (link_at links l).from (omega (arith, inside, size))).home home in
              ap not (All-contains (λ k. is_released machine k ≡ true) (outgoing links (link_at links l).from) l out (outgoing-contains l (link_at links l).from facts.0 refl)))

          go : (p : Place) → place_of machine n ≡ p → place_of machine n ≡ AtHome
          go AtHome e = e
          go Left e = absurd (quiet.none_left n (omega (arith, h, size)) e)
          go (Held seat b) e = absurd (quiet.none_held n seat b (omega (arith, h, size)) e)
          go Waiting e =
              let positive : 0 < slice_index machine.counters n = node.waits.0 e in
              let none : open_links links machine n ≡ 0 = count_none (λ l. not (is_released machine l)) (incoming links n) released in
              let count : slice_index machine.counters n ≡ open_links links machine n + 0 = rw (quiet.started n (omega (arith, h, size))) at node.counter in
              absurd (omega (arith, positive, none, count))

      home-below : (k n : ℕ) → n < k → n < nodes → place_of machine n ≡ AtHome
      home-below zero n h i = absurd (omega (arith, h))
      home-below (suc k) n h i = home-next n i (λ m low inside. home-below k m (omega (arith, low, h)) inside)

      pub AllHome-quiet : (n : ℕ) → n < nodes → place_of machine n ≡ AtHome
      AllHome-quiet n h = home-below nodes n h h

      pub AllReleased-quiet : (l : ℕ) → l < length links → is_released machine l ≡ true
      AllReleased-quiet l h =
          let inside : (link_at links l).from < nodes = omega (arith, are.upward l no_link h, are.within l no_link h) in
          let out : All (λ k. is_released machine k ≡ true) (outgoing links (link_at links l).from) =
          (consistent.nodes (link_at links l).from (omega (arith, inside, size))).home (AllHome-quiet (link_at links l).from inside) in
          All-contains (λ k. is_released machine k ≡ true) (outgoing links (link_at links l).from) l out (outgoing-contains l (link_at links l).from h refl)

-- ---- values and memories

module _ {M V : Type 0} (after : M → List V → M) (gives : M → List V → ℕ → V) (links : List Link) (before : ℕ → M) (nodes : ℕ) (are : AreLinks nodes links) where
  abbrev given_at : ℕ → ℕ → List V
  given_at depth n = given_within after gives links before depth n

  map-same : (f g : ℕ → V) (xs : List ℕ) → Each (λ x. f x ≡ g x) xs → map f xs ≡ map g xs
  map-same f g [] h = refl
  map-same f g (x ∷ xs) h = rw (h.0, map-same f g xs h.1) refl

  from_below : (n : ℕ) → Each (λ l. (link_at links l).from < n) (incoming links n)
  from_below n =
      Each-from_contains (λ l. (link_at links l).from < n) (incoming links n)
      (λ l c.
      let facts = Each-contains (λ k. (k < length links) × ((link_at links k).to ≡ n)) (incoming links n) l (incoming-facts links n) c in
      omega (arith, are.upward l no_link facts.0, facts.1))

  -- nothing goes into node 0
  no_incoming : incoming links 0 ≡ []
  no_incoming = go (incoming links 0) (from_below 0)
    where
      go : (xs : List ℕ) → Each (λ l. (link_at links l).from < 0) xs → xs ≡ []
      go [] h = refl
      go (x ∷ xs) h = absurd (omega (arith, h.0))

  -- a depth of at least the node's number is deep enough
  pub given_within-enough : (d e n : ℕ) → n ≤ d → n ≤ e → given_at d n ≡ given_at e n
  given_within-enough zero zero n h k = refl
  given_within-enough zero (suc e) n h k =
      let is : n ≡ 0 = omega (arith, h) in
      sym (ap (λ xs. map (λ l. gives (before (link_at links l).from) (given_at e (link_at links l).from) (place_among links l)) xs) (ap (incoming links) is ∙ no_incoming))
  given_within-enough (suc d) zero n h k =
      let is : n ≡ 0 = omega (arith, k) in
      ap (λ xs. map (λ l. gives (before (link_at links l).from) (given_at d (link_at links l).from) (place_among links l)) xs) (ap (incoming links) is ∙ no_incoming)
  given_within-enough (suc d) (suc e) n h k =
      let same : (m : ℕ) → m ≤ d → m ≤ e → given_at d m ≡ given_at e m = λ m i j. given_within-enough d e m i j in
      map-same (λ l. gives (before (link_at links l).from) (given_at d (link_at links l).from) (place_among links l)) (λ l. gives (before (link_at links l).from) (given_at e (link_at links l).from) (place_among links l))
      (incoming links n)
      (Each-from_contains (λ l. gives (before (link_at links l).from) (given_at d (link_at links l).from) (place_among links l) ≡ gives (before (link_at links l).from) (given_at e (link_at links l).from) (place_among links l)) (incoming links n)
      (λ l c.
      let low : (link_at links l).from < n = Each-contains (λ j. (link_at links j).from < n) (incoming links n) l (from_below n) c in
      ap (λ given. gives (before (link_at links l).from) given (place_among links l)) (same (link_at links l).from (omega (arith, low, h)) (omega (arith, low, k)))))

  -- what is given to a node is the values of its incoming links
  pub given_to-values : (n : ℕ) → given_to after gives links before n ≡ map (value_of after gives links before) (incoming links n)
  given_to-values n =
      given_within-enough n (suc n) n (omega arith) (omega arith)
      ∙ map-same (λ l. gives (before (link_at links l).from) (given_at n (link_at links l).from) (place_among links l)) (value_of after gives links before) (incoming links n)
      (Each-from_contains (λ l. gives (before (link_at links l).from) (given_at n (link_at links l).from) (place_among links l) ≡ value_of after gives links before l) (incoming links n)
      (λ l c.
      let low : (link_at links l).from < n = Each-contains (λ j. (link_at links j).from < n) (incoming links n) l (from_below n) c in
      ap (λ given. gives (before (link_at links l).from) given (place_among links l)) (given_within-enough n (link_at links l).from (link_at links l).from (omega (arith, low)) (omega arith))))

  -- whether the node was played: held and played, or home
  abbrev pub is_done : Place → Bool
  is_done (Held seat is_played) = is_played
  is_done AtHome = true
  is_done _ = false

  done-is : (p : Place) → IsDone p → is_done p ≡ true
  done-is (Held seat b) h = h
  done-is AtHome h = refl
  done-is Waiting h = absurd h
  done-is Left h = absurd h

  is-done : (p : Place) → is_done p ≡ true → IsDone p
  is-done (Held seat b) h = h
  is-done AtHome h = tt
  is-done Waiting h = absurd (true≢false (sym h))
  is-done Left h = absurd (true≢false (sym h))

  abbrev BenchBy : Bool → ℕ → M → Type 0
  BenchBy b n bench = bench ≡ cond b (sequential after gives links before n) (before n)

  bench-to : (p : Place) (n : ℕ) (bench : M) → IsBench after gives links before p n bench → BenchBy (is_done p) n bench
  bench-to (Held seat true) n bench h = h
  bench-to (Held seat false) n bench h = h
  bench-to AtHome n bench h = h
  bench-to Waiting n bench h = h
  bench-to Left n bench h = h

  bench-from : (p : Place) (n : ℕ) (bench : M) → BenchBy (is_done p) n bench → IsBench after gives links before p n bench
  bench-from (Held seat true) n bench h = h
  bench-from (Held seat false) n bench h = h
  bench-from AtHome n bench h = h
  bench-from Waiting n bench h = h
  bench-from Left n bench h = h

  -- places change and no node is played
  abbrev SameDone : Machine → Machine → Type 0
  SameDone old new = (n : ℕ) → is_done (place_of new n) ≡ is_done (place_of old n)

  same-set : (machine : Machine) (n : ℕ) (place : Place) → is_done place ≡ is_done (place_of machine n) → place_of machine n ≢ Waiting → (m : ℕ) → is_done (get_or (set machine.places n place) m Waiting) ≡ is_done (place_of machine m)
  same-set machine n place same old m = go (m == n) refl
    where
      go : (b : Bool) → (m == n) ≡ b → is_done (get_or (set machine.places n place) m Waiting) ≡ is_done (place_of machine m)
      go true e =
          let is : m ≡ n = eqb-true m n e in
          ap is_done (ap (λ k. get_or (set machine.places n place) k Waiting) is ∙ get_or-set_same machine.places n place Waiting (place_within machine.places n old)) ∙ same ∙ ap (λ k. is_done (place_of machine k)) (sym is)
      go false e = ap is_done (get_or-set_other machine.places n m place Waiting (λ s. true≢false (sym (eq-eqb m n s) ∙ e)))

  same-fallen : (seat n : ℕ) (machine : Machine) → n < length machine.places → place_of machine n ≡ Waiting → (m : ℕ) → is_done (place_of (with_fallen seat n machine) m) ≡ is_done (place_of machine m)
  same-fallen seat n machine h waits m = go (slice_index machine.counters n - 1 == 0)
    where
      at : (b : Bool) → (m == n) ≡ b → is_done (get_or (set machine.places n (Held seat false)) m Waiting) ≡ is_done (place_of machine m)
      at true e =
          let is : m ≡ n = eqb-true m n e in
          ap is_done (ap (λ k. get_or (set machine.places n (Held seat false)) k Waiting) is ∙ get_or-set_same machine.places n (Held seat false) Waiting h) ∙ ap is_done (sym waits) ∙ ap (λ k. is_done (place_of machine k)) (sym is)
      at false e = ap is_done (get_or-set_other machine.places n m (Held seat false) Waiting (λ s. true≢false (sym (eq-eqb m n s) ∙ e)))

      go : (b : Bool) → is_done (get_or (if b then set machine.places n (Held seat false) else machine.places) m Waiting) ≡ is_done (place_of machine m)
      go true = at (m == n) refl
      go false = refl

  shown-kept : (old new : Machine) (shown next : ℕ → Option V) → SameDone old new → ((l : ℕ) → next l ≡ shown l) → IsShown after gives links before old shown → IsShown after gives links before new next
  shown-kept old new shown next same e h l b d =
      e l ∙ h l b (is-done (place_of old (link_at links l).from) (sym (same (link_at links l).from) ∙ done-is (place_of new (link_at links l).from) d))

  bench-kept : (old new : Machine) → SameDone old new → (n : ℕ) (memory next : M) → next ≡ memory → IsBench after gives links before (place_of old n) n memory → IsBench after gives links before (place_of new n) n next
  bench-kept old new same n memory next e h =
      bench-from (place_of new n) n next (e ∙ bench-to (place_of old n) n memory h ∙ ap (λ b. cond b (sequential after gives links before n) (before n)) (sym (same n)))

  stays-right : (old new : Machine) (benches next : Benches M V) → SameDone old new → length new.places ≡ length old.places → ((l : ℕ) → is_released new l ≡ is_released old l) → Stays benches next → IsRight after gives links before old benches → IsRight after gives links before new next
  stays-right old new benches next same long released stays right = (
    record {
      each_bench = λ n h. bench-kept old new same n (benches.memories n) (next.memories n) (stays.memories n) (right.0.each_bench n (omega (arith, h, long)));
      each_value = λ l h r. stays.values l ∙ right.0.each_value l h (sym (released l) ∙ r);
    },
    shown-kept old new benches.shown next.shown same stays.shown right.1,
  )

  some-value : (a b : V) → Some a ≡ Some b → a ≡ b
  some-value a b e = cc

  same-given : (xs ys : List V) → map Some xs ≡ map Some ys → xs ≡ ys
  same-given [] [] e = refl
  same-given [] (y ∷ ys) e = absurd (nil-cons e)
    where
      nil-cons : {A : Type 0} {a : A} {rest : List A} → [] ≡ a ∷ rest → ⊥
      nil-cons q = cc
  same-given (x ∷ xs) [] e = absurd (cons-nil e)
    where
      cons-nil : {A : Type 0} {a : A} {rest : List A} → a ∷ rest ≡ [] → ⊥
      cons-nil q = cc
  same-given (x ∷ xs) (y ∷ ys) e = rw (head, same-given xs ys tail) refl
    where
      head : x ≡ y
      head = cc

      tail : map Some xs ≡ map Some ys
      tail = cc

  map-twice : (f : ℕ → V) (xs : List ℕ) → map (λ x. Some (f x)) xs ≡ map Some (map f xs)
  map-twice f [] = refl
  map-twice f (x ∷ xs) = ap (λ ys. Some (f x) ∷ ys) (map-twice f xs)

  map-same_option : (f g : ℕ → Option V) (xs : List ℕ) → Each (λ x. f x ≡ g x) xs → map f xs ≡ map g xs
  map-same_option f g [] h = refl
  map-same_option f g (x ∷ xs) h = rw (h.0, map-same_option f g xs h.1) refl

  plays-right : (machine : Machine) (seat n : ℕ) (benches next : Benches M V) → IsConsistent links machine → place_of machine n ≡ Held seat false → Plays after gives links n benches next → IsRight after gives links before machine benches
      → IsRight after gives links before (record machine { places = set machine.places n (Held seat true) }) next
  plays-right machine seat n benches next c held plays right = (
    record {
      each_bench = λ m h. bench m (omega (arith, h, length-set machine.places n (Held seat true))) (m == n) refl;
      each_value = λ l h r. plays.values l ∙ right.0.each_value l h r;
    },
    λ l b d. show l b d ((link_at links l).from == n) refl,
  )
    where
      inside : n < length machine.places
      inside = place_within machine.places n (λ w. waiting-held seat false (sym held ∙ w))

      node : IsConsistentNode links machine n
      node = c.nodes n inside

      idle : open_links links machine n ≡ 0
      idle = cases (slice_index machine.counters n == 0) refl
        where
          cases : (b : Bool) → (slice_index machine.counters n == 0) ≡ b → open_links links machine n ≡ 0
          cases true e = omega (arith, eqb-true (slice_index machine.counters n) 0 e, node.counter)
          cases false e =
              let positive : 0 < slice_index machine.counters n = grind (arith, nat_tests) in
              absurd (waiting-held seat false (sym held ∙ node.waits.1 positive))

      all_released : Each (λ l. is_released machine l ≡ true) (incoming links n)
      all_released =
          Each-from_contains (λ l. is_released machine l ≡ true) (incoming links n)
          (λ l k. not_false (is_released machine l) (Each-contains (λ j. not (is_released machine j) ≡ false) (incoming links n) l (count_zero (λ j. not (is_released machine j)) (incoming links n) idle) k))
        where
          not_false : (b : Bool) → not b ≡ false → b ≡ true
          not_false true h = refl
          not_false false h = absurd (true≢false h)

      held_values : map benches.values (incoming links n) ≡ map Some (map (value_of after gives links before) (incoming links n))
      held_values =
          map-same_option benches.values (λ l. Some (value_of after gives links before l)) (incoming links n)
          (Each-from_contains (λ l. benches.values l ≡ Some (value_of after gives links before l)) (incoming links n)
          (λ l k.
          let facts = Each-contains (λ j. (j < length links) × ((link_at links j).to ≡ n)) (incoming links n) l (incoming-facts links n) k in
          right.0.each_value l facts.0 (Each-contains (λ j. is_released machine j ≡ true) (incoming links n) l all_released k)))
          ∙ map-twice (value_of after gives links before) (incoming links n)

      given_is : plays.given ≡ given_to after gives links before n
      given_is = same-given plays.given (map (value_of after gives links before) (incoming links n)) (plays.are_values ∙ held_values) ∙ sym (given_to-values n)

      was : benches.memories n ≡ before n
      was = bench-to (Held seat false) n (benches.memories n) (subst (λ p. IsBench after gives links before p n (benches.memories n)) held (right.0.each_bench n inside))

      bench : (m : ℕ) → m < length machine.places → (b : Bool) → (m == n) ≡ b → IsBench after gives links before (get_or (set machine.places n (Held seat true)) m Waiting) m (next.memories m)
      bench m h true e =
          let is : m ≡ n = eqb-true m n e in
          let now : get_or (set machine.places n (Held seat true)) n Waiting ≡ Held seat true = get_or-set_same machine.places n (Held seat true) Waiting inside in
          let there : IsBench after gives links before (get_or (set machine.places n (Held seat true)) n Waiting) n (next.memories n) =
          subst (λ p. IsBench after gives links before p n (next.memories n)) (sym now) (plays.memory ∙ ap (λ memory. after memory plays.given) was ∙ ap (after (before n)) given_is) in
          subst (λ k. IsBench after gives links before (get_or (set machine.places n (Held seat true)) k Waiting) k (next.memories k)) (sym is) there
      bench m h false e =
          let apart : m ≢ n = λ s. true≢false (sym (eq-eqb m n s) ∙ e) in
          let now : get_or (set machine.places n (Held seat true)) m Waiting ≡ place_of machine m = get_or-set_other machine.places n m (Held seat true) Waiting apart in
          subst (λ p. IsBench after gives links before p m (next.memories m)) (sym now)
          (subst (IsBench after gives links before (place_of machine m) m) (sym (plays.others m apart)) (right.0.each_bench m h))

      show : (l : ℕ) → l < length links → IsDone (get_or (set machine.places n (Held seat true)) (link_at links l).from Waiting) → (b : Bool) → ((link_at links l).from == n) ≡ b → next.shown l ≡ Some (value_of after gives links before l)
      show l h d true e =
          let is : (link_at links l).from ≡ n = eqb-true (link_at links l).from n e in
          let at_n : Some (gives (before n) (given_to after gives links before n) (place_among links l)) ≡ Some (value_of after gives links before l) =
          ap (λ k. Some (gives (before k) (given_to after gives links before k) (place_among links l))) (sym is) in
          plays.shown l h is ∙ ap (λ memory. Some (gives memory plays.given (place_among links l))) was ∙ ap (λ given. Some (gives (before n) given (place_among links l))) given_is ∙ at_n
      show l h d false e =
          let apart : (link_at links l).from ≢ n = λ s. true≢false (sym (eq-eqb (link_at links l).from n s) ∙ e) in
          let now : get_or (set machine.places n (Held seat true)) (link_at links l).from Waiting ≡ place_of machine (link_at links l).from = get_or-set_other machine.places n (link_at links l).from (Held seat true) Waiting apart in
          plays.shown_others l apart ∙ right.1 l h (subst IsDone now d)

  hands-right : (old new : Machine) (l : ℕ) (benches next : Benches M V) → SameDone old new → length new.places ≡ length old.places → IsDone (place_of old (link_at links l).from) → ((k : ℕ) → k ≢ l → is_released new k ≡ is_released old k)
      → l < length links → Hands l benches next → IsRight after gives links before old benches → IsRight after gives links before new next
  hands-right old new l benches next same long done released inside hands right = (
    record {
      each_bench = λ n h. bench-kept old new same n (benches.memories n) (next.memories n) (hands.memories n) (right.0.each_bench n (omega (arith, h, long)));
      each_value = λ k h r. value k h r (k == l) refl;
    },
    shown-kept old new benches.shown next.shown same hands.shown right.1,
  )
    where
      value : (k : ℕ) → k < length links → is_released new k ≡ true → (b : Bool) → (k == l) ≡ b → next.values k ≡ Some (value_of after gives links before k)
      value k h r true e =
          let is : k ≡ l = eqb-true k l e in
          subst (λ j. next.values j ≡ Some (value_of after gives links before j)) (sym is) (hands.value ∙ right.1 l inside done)
      value k h r false e =
          let apart : k ≢ l = λ s. true≢false (sym (eq-eqb k l s) ∙ e) in
          hands.others k apart ∙ right.0.each_value k h (sym (released k apart) ∙ r)

  module _ (seats : ℕ) (machine : Machine) (size : length machine.places ≡ nodes) (c : IsConsistent links machine) where
    waits_at : (n : ℕ) → n < length machine.places → 0 < slice_index machine.counters n → place_of machine n ≡ Waiting
    waits_at n h p = (c.nodes n h).waits.1 p

    pub IsRight-moved : (move : Move) (benches next : Benches M V) → Allowed links seats machine move → Does after gives links move benches next → IsRight after gives links before machine benches → IsRight after gives links before (moved links machine move) next
    IsRight-moved (StartNode seat n) benches next a does right =
        let count = (c.nodes n a.0).counter in
        let positive : 0 < slice_index machine.counters n = omega (arith, rw a.3 at count) in
        stays-right machine (moved links machine (StartNode seat n)) benches next (same-fallen seat n (record machine { started = set machine.started n true }) a.0 (waits_at n a.0 positive))
        (length-moved links machine (StartNode seat n)) (λ l. refl) does right
    IsRight-moved (ReleaseLink seat l) benches next a does right =
        let n : ℕ = (link_at links l).to in
        let inside : n < length machine.places = omega (arith, are.within l no_link a.0, size) in
        let positive : 0 < slice_index machine.counters n = positive_at n inside l a.0 refl a.2 in
        hands-right machine (moved links machine (ReleaseLink seat l)) l benches next (same-fallen seat n (record machine { released = set machine.released l true }) inside (waits_at n inside positive))
        (length-moved links machine (ReleaseLink seat l)) (subst IsDone (sym a.1) refl)
        (λ k apart. get_or-set_other machine.released l k true false apart) a.0 does right
      where
        -- a node with a link into it that is not released has a positive counter
        positive_at : (n : ℕ) → n < length machine.places → (k : ℕ) → k < length links → (link_at links k).to ≡ n → is_released machine k ≡ false → 0 < slice_index machine.counters n
        positive_at n h k b to e = cases (open_links links machine n == 0) refl
          where
            cases : (t : Bool) → (open_links links machine n == 0) ≡ t → 0 < slice_index machine.counters n
            cases false t =
                let some : 0 < open_links links machine n = grind (arith, nat_tests) in
                omega (arith, some, (c.nodes n h).counter)
            cases true t =
                let none : Each (λ j. not (is_released machine j) ≡ false) (incoming links n) = count_zero (λ j. not (is_released machine j)) (incoming links n) (eqb-true (open_links links machine n) 0 t) in
                let there : Contains (incoming links n) k = Contains-kept (λ j. (link_at links j).to == n) (below (length links)) k (eq-eqb (link_at links k).to n to) (below-contains (length links) k b) in
                absurd (true≢false (sym (ap not e) ∙ Each-contains (λ j. not (is_released machine j) ≡ false) (incoming links n) k none there))
    IsRight-moved (HomeNode seat n) benches next a does right =
        stays-right machine (moved links machine (HomeNode seat n)) benches next (same-set machine n AtHome (sym (ap is_done a.0)) (λ w. waiting-held seat true (sym a.0 ∙ w)))
        (length-moved links machine (HomeNode seat n)) (λ l. refl) does right
    IsRight-moved (LeaveNode seat n) benches next a does right =
        stays-right machine (moved links machine (LeaveNode seat n)) benches next (same-set machine n Left (sym (ap is_done a)) (λ w. waiting-held seat false (sym a ∙ w)))
        (length-moved links machine (LeaveNode seat n)) (λ l. refl) does right
    IsRight-moved (PickNode seat n) benches next a does right =
        stays-right machine (moved links machine (PickNode seat n)) benches next (same-set machine n (Held seat false) (sym (ap is_done a.1)) (λ w. waiting-left (sym a.1 ∙ w)))
        (length-moved links machine (PickNode seat n)) (λ l. refl) does right
    IsRight-moved (PlayNode seat n) benches next a does right = plays-right machine seat n benches next c a does right

-- ---- before any step

pub length-below : (n : ℕ) → length (below n) ≡ n
length-below zero = refl
length-below (suc n) = length-append (below n) (n ∷ []) ∙ rw (length-below n) (omega arith)

pub length-map_below : {X : Type 0} (f : ℕ → X) (n : ℕ) → length (map f (below n)) ≡ n
length-map_below f n = length-mapped (below n) ∙ length-below n
  where
    length-mapped : (xs : List ℕ) → length (map f xs) ≡ length xs
    length-mapped [] = refl
    length-mapped (x ∷ xs) = ap suc (length-mapped xs)

pub get_or-map_below : {X : Type 0} (f : ℕ → X) (n k : ℕ) (d : X) → k < n → get_or (map f (below n)) k d ≡ f k
get_or-map_below f zero k d h = absurd (omega (arith, h))
get_or-map_below {X = X} f (suc n) k d h = ap (λ xs. get_or xs k d) (mapped (below n)) ∙ go (k == n) refl (λ low. get_or-map_below f n k d low)
  where
    mapped : (xs : List ℕ) → map f (xs ++ n ∷ []) ≡ map f xs ++ f n ∷ []
    mapped [] = refl
    mapped (x ∷ xs) = ap (λ ys. f x ∷ ys) (mapped xs)

    at_end : (xs : List X) (x : X) → get_or (xs ++ x ∷ []) (length xs) d ≡ x
    at_end [] x = refl
    at_end (y ∷ xs) x = at_end xs x

    in_front : (xs : List X) (x : X) (j : ℕ) → j < length xs → get_or (xs ++ x ∷ []) j d ≡ get_or xs j d
    in_front [] x j b = absurd (omega (arith, b))
    in_front (y ∷ xs) x zero b = refl
    in_front (y ∷ xs) x (suc j) b = in_front xs x j (omega (arith, b))

    go : (b : Bool) → (k == n) ≡ b → (k < n → get_or (map f (below n)) k d ≡ f k) → get_or (map f (below n) ++ f n ∷ []) k d ≡ f k
    go true e f_low =
        let is : k ≡ n = eqb-true k n e in
        subst (λ j. get_or (map f (below n) ++ f n ∷ []) j d ≡ f j) (sym is)
        (subst (λ j. get_or (map f (below n) ++ f n ∷ []) j d ≡ f n) (length-map_below f n) (at_end (map f (below n)) (f n)))
    go false e f_low =
        let low : k < n = grind (arith, nat_tests) in
        in_front (map f (below n)) (f n) k (omega (arith, low, length-map_below f n)) ∙ f_low low

-- a list of one value has this value everywhere, also past its end
get_or-one : {X : Type 0} (x : X) (xs : List ℕ) (k : ℕ) → get_or (map (λ j. x) xs) k x ≡ x
get_or-one x [] k = refl
get_or-one x (y ∷ xs) zero = refl
get_or-one x (y ∷ xs) (suc k) = get_or-one x xs k

pub IsConsistent-fresh : (nodes : ℕ) (links : List Link) → IsConsistent links (fresh nodes links)
IsConsistent-fresh nodes links = record {
  counters = length-map_below (λ n. length (incoming links n) + 1) nodes ∙ sym (length-map_below (λ n. Waiting) nodes);
  started = length-map_below (λ n. false) nodes ∙ sym (length-map_below (λ n. Waiting) nodes);
  released = length-map_below (λ l. false) (length links);
  nodes = λ n h. node n (omega (arith, h, length-map_below (λ n. Waiting) nodes));
  sources = λ l h r. absurd (true≢false (sym r ∙ not_released l));
}
  where
    not_released : (l : ℕ) → is_released (fresh nodes links) l ≡ false
    not_released l = get_or-one false (below (length links)) l

    waits : (n : ℕ) → place_of (fresh nodes links) n ≡ Waiting
    waits n = get_or-one Waiting (below nodes) n

    all_open : (xs : List ℕ) → count_by (λ l. not (is_released (fresh nodes links) l)) xs ≡ length xs
    all_open [] = refl
    all_open (x ∷ xs) =
        sum_by-cons (λ l. cond (not (is_released (fresh nodes links) l)) 1 0) x xs
        ∙ ap (λ b. cond (not b) 1 0 + count_by (λ l. not (is_released (fresh nodes links) l)) xs) (not_released x) ∙ let e = all_open xs in omega (arith, e)

    node : (n : ℕ) → n < nodes → IsConsistentNode links (fresh nodes links) n
    node n h =
        let count : slice_index (fresh nodes links).counters n ≡ length (incoming links n) + 1 = get_or-map_below (λ m. length (incoming links m) + 1) nodes n 0 h in
        let opened : open_links links (fresh nodes links) n ≡ length (incoming links n) = all_open (incoming links n) in
        record {
          counter = count ∙ ap (λ k. k + 1) (sym opened) ∙ ap (λ b. open_links links (fresh nodes links) n + (if b then 0 else 1)) (sym (get_or-one false (below nodes) n));
          waits = ((λ w. omega (arith, count)), (λ w. waits n));
          home = λ w. absurd (home-waiting (sym (waits n) ∙ w));
        }

module _ {M V : Type 0} (after : M → List V → M) (gives : M → List V → ℕ → V) (links : List Link) (before : ℕ → M) (nodes : ℕ) (are : AreLinks nodes links) where
  -- before any step, with every bench as before the cycle
  pub IsRight-fresh : (benches : Benches M V) → ((n : ℕ) → benches.memories n ≡ before n) → IsRight after gives links before (fresh nodes links) benches
  IsRight-fresh benches h = (
    record {
      each_bench = λ n b. subst (λ p. IsBench after gives links before p n (benches.memories n)) (sym (waits n)) (h n);
      each_value = λ l b r. absurd (true≢false (sym r ∙ get_or-one false (below (length links)) l));
    },
    λ l b d. absurd (subst IsDone (waits (link_at links l).from) d),
  )
    where
      waits : (n : ℕ) → place_of (fresh nodes links) n ≡ Waiting
      waits n = get_or-one Waiting (below nodes) n

  -- when all is quiet, every bench is sequential and every link has its value
  module _ (seats : ℕ) (machine : Machine) (size : length machine.places ≡ nodes) (consistent : IsConsistent links machine) (quiet : IsQuiet machine)
      (benches : Benches M V) (right : IsRight after gives links before machine benches) where
    pub AllSequential-quiet : (n : ℕ) → n < nodes → benches.memories n ≡ sequential after gives links before n
    AllSequential-quiet n h =
        subst (λ p. IsBench after gives links before p n (benches.memories n)) (AllHome-quiet links nodes are seats machine size consistent quiet n h) (right.0.each_bench n (omega (arith, h, size)))

    pub AllValues-quiet : (l : ℕ) → l < length links → benches.values l ≡ Some (value_of after gives links before l)
    AllValues-quiet l h = right.0.each_value l h (AllReleased-quiet links nodes are seats machine size consistent quiet l h)
