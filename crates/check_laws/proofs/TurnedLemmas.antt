-- The underruns that the stated turns leave are told by their cycles.
--     turned-is      underruns that can be, in exactly the missed cycles, are those
use Rattle.std.proofs.Common.{◌≡◌, ℕ, zero, suc, ◌+◌, ◌-◌, ◌<◌, ◌≤◌, ◌≢◌, min, Bool, true, false, cond, not, ◌&&◌, ◌||◌, ◌==◌, nat_lt, List, [], ◌∷◌, ◌++◌, length, map, slice_get, count_by, Some, option_map, refl, sym, ◌∙◌, ap, ap₂, subst, arith, true≢false, eqb-true, eq-eqb, ne_eqb}
use native.Mathlib.Nat.{min-eq_right}
use Rattle.std.specs.List.{list_any}
use Rattle.std.specs.List.Sorted.{IsStrictlyIncreasing}
use Rattle.std.proofs.lemmas.Bool.Decides.{nat_tests}
use Rattle.std.proofs.lemmas.List.Sums.{sum_by_push}
use Rattle.jack_types.specs.declared.replies.Underrun.{Underrun}
use Rattle.session_model.specs.Courses.{Course, turn, is_disk_active, is_underrun, underruns_of, played_before}
use Rattle.session_model.specs.Disks.{Played, IsSerial, IsMissed, file_blocks, turned_before, is_missed_in, missed_at, missed_up_to, turned_underruns}
use Rattle.session_model.specs.Samples.{below}
use Rattle.session_model.specs.Scripts.{turns}
use Rattle.grammar_laws.specs.session_laws.proofs.ListLemmas.{Each, Ordered, Each-weaker, Each-append, Each-at, Ordered-append}
use Rattle.check_laws.proofs.PlaceLists.{slice-map, strictly-get}
use Rattle.check_laws.proofs.SameLemmas.{Each-from_all}
use Rattle.grammar_laws.specs.session_laws.proofs.SerialDiskLemmas.{in-missed, min-next, min-below}

-- whether an underrun of the list is of the cycle
abbrev pub among : List Underrun → ℕ → Bool
among us k = list_any (λ (underrun : Underrun). underrun.cycle == k) us

-- all the cycles but one
not_among : (us : List Underrun) (k : ℕ) → Each (λ (u : Underrun). u.cycle ≢ k) us → among us k ≡ false
not_among [] k h = refl
not_among (u ∷ us) k h = ap₂ (λ a b. a || b) (ne_eqb u.cycle k h.0) (not_among us k h.1)

first_among : (u : Underrun) (us : List Underrun) (k : ℕ) → u.cycle ≡ k → among (u ∷ us) k ≡ true
first_among u us k e = ap (λ b. b || among us k) (eq-eqb u.cycle k e)

-- lists in the order of cycles, whose underruns are told by their cycles, are the same where their cycles are
told-same : (make : ℕ → Underrun) (xs ys : List Underrun)
    → Ordered (λ (a b : Underrun). a.cycle < b.cycle) xs → Ordered (λ (a b : Underrun). a.cycle < b.cycle) ys
    → Each (λ (u : Underrun). u ≡ make u.cycle) xs → Each (λ (u : Underrun). u ≡ make u.cycle) ys
    → ((k : ℕ) → among xs k ≡ among ys k) → xs ≡ ys
told-same make [] [] o p h k e = refl
told-same make [] (y ∷ ys) o p h k e = absurd (true≢false (sym (first_among y ys y.cycle refl) ∙ sym (e y.cycle)))
told-same make (x ∷ xs) [] o p h k e = absurd (true≢false (sym (first_among x xs x.cycle refl) ∙ e x.cycle))
told-same make (x ∷ xs) (y ∷ ys) o p h k e = go (nat_lt x.cycle y.cycle) (nat_lt y.cycle x.cycle) refl refl (λ f. told-same make xs ys o.1 p.1 h.1 k.1 f)
  where
    go : (s t : Bool) → nat_lt x.cycle y.cycle ≡ s → nat_lt y.cycle x.cycle ≡ t → (((n : ℕ) → among xs n ≡ among ys n) → xs ≡ ys) → x ∷ xs ≡ y ∷ ys
    go true t es et rest =
        let low : x.cycle < y.cycle = grind (arith, nat_tests) in
        let off : among (y ∷ ys) x.cycle ≡ false = not_among (y ∷ ys) x.cycle ((λ q. omega (arith, q, low)), Each-weaker (λ (u : Underrun). y.cycle < u.cycle) (λ (u : Underrun). u.cycle ≢ x.cycle) (λ u b q. omega (arith, q, b, low)) ys p.0) in
        absurd (true≢false (sym (first_among x xs x.cycle refl) ∙ e x.cycle ∙ off))
    go false true es et rest =
        let low : y.cycle < x.cycle = grind (arith, nat_tests) in
        let off : among (x ∷ xs) y.cycle ≡ false = not_among (x ∷ xs) y.cycle ((λ q. omega (arith, q, low)), Each-weaker (λ (u : Underrun). x.cycle < u.cycle) (λ (u : Underrun). u.cycle ≢ y.cycle) (λ u b q. omega (arith, q, b, low)) xs o.0) in
        absurd (true≢false (sym (first_among y ys y.cycle refl) ∙ sym (e y.cycle) ∙ off))
    go false false es et rest =
        let same : x.cycle ≡ y.cycle = grind (arith, nat_tests) in
        ap₂ (λ z zs. z ∷ zs) (h.0 ∙ ap make same ∙ sym k.0) (rest (λ n. tails n (x.cycle == n) refl))
      where
        tails : (n : ℕ) (b : Bool) → (x.cycle == n) ≡ b → among xs n ≡ among ys n
        tails n true q =
            let here : x.cycle ≡ n = eqb-true x.cycle n q in
            let same : x.cycle ≡ y.cycle = grind (arith, nat_tests) in
            not_among xs n (Each-weaker (λ (u : Underrun). x.cycle < u.cycle) (λ (u : Underrun). u.cycle ≢ n) (λ u b r. omega (arith, r, b, here)) xs o.0)
            ∙ sym (not_among ys n (Each-weaker (λ (u : Underrun). y.cycle < u.cycle) (λ (u : Underrun). u.cycle ≢ n) (λ u b r. omega (arith, r, b, here, same)) ys p.0))
        tails n false q =
            let same : x.cycle ≡ y.cycle = grind (arith, nat_tests) in
            let q2 : (y.cycle == n) ≡ false = ap (λ c. c == n) (sym same) ∙ q in
            ap (λ b. b || among xs n) (sym q) ∙ e n ∙ ap (λ b. b || among ys n) q2

-- of numbers that rise step by step each is below all later ones
abbrev Rises : ℕ → List Underrun → Type 0
Rises c [] = Unit {0}
Rises c (u ∷ us) = (c < u.cycle) × Rises u.cycle us

rises-each : (c d : ℕ) (us : List Underrun) → c ≤ d → Rises d us → Each (λ (u : Underrun). c < u.cycle) us
rises-each c d [] h r = tt
rises-each c d (u ∷ us) h r = (omega (arith, h, r.0), rises-each c u.cycle us (omega (arith, h, r.0)) r.1)

rises-ordered : (c : ℕ) (us : List Underrun) → Rises c us → Ordered (λ (a b : Underrun). a.cycle < b.cycle) us
rises-ordered c [] r = tt
rises-ordered c (u ∷ us) r = (rises-each u.cycle u.cycle us (omega arith) r.1, rises-ordered u.cycle us r.1)

rises-steps : (c : ℕ) (us : List Underrun) → ((u : Underrun) → slice_get us 0 ≡ Some u → c < u.cycle) → ((k : ℕ) (u v : Underrun) → slice_get us k ≡ Some u → slice_get us (suc k) ≡ Some v → u.cycle < v.cycle) → Rises c us
rises-steps c [] f h = tt
rises-steps c (u ∷ us) f h = (f u refl, rises-steps u.cycle us (λ v e. h 0 u v refl e) (λ k v w p q. h (suc k) v w p q))

Ordered-steps : (us : List Underrun) → Each (λ (u : Underrun). 1 ≤ u.cycle) us → IsStrictlyIncreasing (map (λ (u : Underrun). u.cycle) us) → Ordered (λ (a b : Underrun). a.cycle < b.cycle) us
Ordered-steps us first h =
    rises-ordered 0 us
    (rises-steps 0 us (λ u e. Each-at (λ (w : Underrun). 1 ≤ w.cycle) us 0 u first e)
    (λ k u v p q. strictly-get (map (λ (w : Underrun). w.cycle) us) k u.cycle v.cycle h (slice-map (λ (w : Underrun). w.cycle) us k ∙ ap (option_map (λ (w : Underrun). w.cycle)) p) (slice-map (λ (w : Underrun). w.cycle) us (suc k) ∙ ap (option_map (λ (w : Underrun). w.cycle)) q)))

module _ (course : Course) (disk : ℕ) where
  pub missed-of_disk : (n : ℕ) → Each (λ (u : Underrun). u.disk ≡ disk) (missed_up_to course disk n)
  missed-of_disk zero = tt
  missed-of_disk (suc n) = Each-append (λ (u : Underrun). u.disk ≡ disk) (missed_up_to course disk n) (cond (is_missed_in course disk (suc n)) (missed_at course disk (suc n) ∷ []) []) (missed-of_disk n) (one (is_missed_in course disk (suc n)))
    where
      one : (b : Bool) → Each (λ (u : Underrun). u.disk ≡ disk) (cond b (missed_at course disk (suc n) ∷ []) [])
      one true = (refl, tt)
      one false = tt

  module _ (serial : IsSerial course disk) where
    abbrev last_cycle : ℕ
    last_cycle = length (turns course.script)

    -- the blocks played in the first k cycles
    abbrev played_in : ℕ → ℕ
    played_in k = count_by (λ j. is_disk_active course disk (j + 1) && not (is_underrun course disk (j + 1))) (below k)

    played-next : (k : ℕ) → played_in (suc k) ≡ played_in k + cond (is_disk_active course disk (suc k) && not (is_underrun course disk (suc k))) 1 0
    played-next k =
        let e : k + 1 ≡ suc k = omega arith in
        sum_by_push (λ j. cond (is_disk_active course disk (j + 1) && not (is_underrun course disk (j + 1))) 1 0) (below k) k
        ∙ ap (λ n. played_in k + cond (is_disk_active course disk n && not (is_underrun course disk n)) 1 0) e

    got-is : (k : ℕ) → k ≤ last_cycle → (turned_before course disk (suc k)).got ≡ min (file_blocks course disk) (played_in k)
    got-is zero h = sym (min-eq_right (omega arith))
    got-is (suc k) h = go (is_disk_active course disk (suc k)) (is_missed_in course disk (suc k)) refl refl (got-is k (omega (arith, h)))
      where
        go : (a m : Bool) → is_disk_active course disk (suc k) ≡ a → is_missed_in course disk (suc k) ≡ m → (turned_before course disk (suc k)).got ≡ min (file_blocks course disk) (played_in k)
            → cond (is_disk_active course disk (suc k) && not (is_missed_in course disk (suc k))) (min (file_blocks course disk) ((turned_before course disk (suc k)).got + 1)) (turned_before course disk (suc k)).got ≡ min (file_blocks course disk) (played_in (suc k))
        go a m ea em e =
            let counted : played_in (suc k) ≡ played_in k + cond (a && not m) 1 0 =
            played-next k ∙ ap (λ b. played_in k + cond (is_disk_active course disk (suc k) && not b) 1 0) (serial (suc k) (omega arith) h ∙ em) ∙ ap (λ b. played_in k + cond (b && not m) 1 0) ea in
            ap₂ (λ p q. cond (p && not q) (min (file_blocks course disk) ((turned_before course disk (suc k)).got + 1)) (turned_before course disk (suc k)).got) ea em
            ∙ by (a && not m) e ∙ ap (min (file_blocks course disk)) (sym counted)
          where
            by : (b : Bool) → (turned_before course disk (suc k)).got ≡ min (file_blocks course disk) (played_in k)
                → cond b (min (file_blocks course disk) ((turned_before course disk (suc k)).got + 1)) (turned_before course disk (suc k)).got ≡ min (file_blocks course disk) (played_in k + cond b 1 0)
            by true f = ap (λ n. min (file_blocks course disk) (n + 1)) f ∙ min-next (file_blocks course disk) (played_in k)
            by false f = f ∙ ap (min (file_blocks course disk)) (plus_none (played_in k))
              where
                plus_none : (n : ℕ) → n ≡ n + 0
                plus_none n = omega arith

    -- a missed cycle's turns have got less than the file
    missed-low : (k : ℕ) → is_missed_in course disk k ≡ true → (turned_before course disk k).got < file_blocks course disk
    missed-low k h =
        four (is_disk_active course disk k) (not (turn course k).is_freewheel) ((turned_before course disk k).put == (turned_before course disk k).got) (nat_lt (turned_before course disk k).put (file_blocks course disk)) refl refl h
      where
        four : (a b c d : Bool) → ((turned_before course disk k).put == (turned_before course disk k).got) ≡ c → nat_lt (turned_before course disk k).put (file_blocks course disk) ≡ d → (a && b && c && d) ≡ true
            → (turned_before course disk k).got < file_blocks course disk
        four true true true true ec ed h = (let same : (turned_before course disk k).put ≡ (turned_before course disk k).got = grind (arith, nat_tests) in let low : (turned_before course disk k).put < file_blocks course disk = grind (arith, nat_tests) in omega (arith, same, low))
        four false b c d ec ed h = absurd (true≢false (sym h))
        four true false c d ec ed h = absurd (true≢false (sym h))
        four true true false d ec ed h = absurd (true≢false (sym h))
        four true true true false ec ed h = absurd (true≢false (sym h))

    -- an underrun told by its cycle
    abbrev told : ℕ → Underrun
    told k = record { disk = disk; cycle = k; sent = played_before course disk k; taken = played_before course disk k }

    missed-told : (k : ℕ) → suc k ≤ last_cycle → is_missed_in course disk (suc k) ≡ true → missed_at course disk (suc k) ≡ told (suc k)
    missed-told k h e =
        let got : (turned_before course disk (suc k)).got ≡ min (file_blocks course disk) (played_in k) = got-is k (omega (arith, h)) in
        let played : min (file_blocks course disk) (played_in k) ≡ played_in k = min-below (file_blocks course disk) (played_in k) (subst (λ n. n < file_blocks course disk) got (missed-low (suc k) e)) in
        let back : k ≡ suc k - 1 = omega arith in
        let counted : (turned_before course disk (suc k)).got ≡ played_before course disk (suc k) = got ∙ played ∙ ap played_in back in
        (λ i. record { disk = disk; cycle = suc k; sent = counted i; taken = counted i })

    abbrev IsTold : ℕ → Underrun → Type 0
    IsTold n u = (u ≡ told u.cycle) × (1 ≤ u.cycle) × (u.cycle ≤ n)

    up-to : (n : ℕ) → n ≤ last_cycle → Each (IsTold n) (missed_up_to course disk n) × Ordered (λ (a b : Underrun). a.cycle < b.cycle) (missed_up_to course disk n)
    up-to zero h = (tt, tt)
    up-to (suc n) h = go (is_missed_in course disk (suc n)) refl (up-to n (omega (arith, h)))
      where
        go : (b : Bool) → is_missed_in course disk (suc n) ≡ b → Each (IsTold n) (missed_up_to course disk n) × Ordered (λ (a b : Underrun). a.cycle < b.cycle) (missed_up_to course disk n)
            → Each (IsTold (suc n)) (missed_up_to course disk n ++ cond b (missed_at course disk (suc n) ∷ []) []) × Ordered (λ (a b : Underrun). a.cycle < b.cycle) (missed_up_to course disk n ++ cond b (missed_at course disk (suc n) ∷ []) [])
        go true e before = (
          Each-append (IsTold (suc n)) (missed_up_to course disk n) (missed_at course disk (suc n) ∷ [])
              (Each-weaker (IsTold n) (IsTold (suc n)) (λ u p. (p.0, p.1, omega (arith, p.2))) (missed_up_to course disk n) before.0) ((missed-told n h e, omega arith, omega arith), tt),
          Ordered-append (λ (a b : Underrun). a.cycle < b.cycle) (IsTold n) (λ (u : Underrun). u.cycle ≡ suc n) (λ a b p q. omega (arith, p.2, q)) (missed_up_to course disk n) (missed_at course disk (suc n) ∷ [])
              before.1 before.0 (tt, tt) (refl, tt),
        )
        go false e before = (
          Each-append (IsTold (suc n)) (missed_up_to course disk n) [] (Each-weaker (IsTold n) (IsTold (suc n)) (λ u p. (p.0, p.1, omega (arith, p.2))) (missed_up_to course disk n) before.0) tt,
          Ordered-append (λ (a b : Underrun). a.cycle < b.cycle) (IsTold n) (λ (u : Underrun). ⊥) (λ a b p q. absurd q) (missed_up_to course disk n) [] before.1 before.0 tt tt,
        )

    pub turned-is : Played course disk → underruns_of course disk ≡ turned_underruns course disk
    turned-is played =
        let own : List Underrun = underruns_of course disk in
        let turned : List Underrun = turned_underruns course disk in
        let missed : Each (IsMissed course disk) own = Each-from_all (IsMissed course disk) own played.missed in
        let all = up-to last_cycle (omega arith) in
        let owns : Each (λ (u : Underrun). u ≡ told u.cycle) own =
        Each-weaker (IsMissed course disk) (λ (u : Underrun). u ≡ told u.cycle) (λ u m. (λ i. record { disk = m.disk_is i; cycle = u.cycle; sent = m.sent i; taken = m.taken i })) own missed in
        told-same told own turned
        (Ordered-steps own (Each-weaker (IsMissed course disk) (λ (u : Underrun). 1 ≤ u.cycle) (λ u m. m.first) own missed) played.by_cycle)
        all.1 owns (Each-weaker (IsTold last_cycle) (λ (u : Underrun). u ≡ told u.cycle) (λ u p. p.0) turned all.0)
        (λ k. at k (nat_lt 0 k) (nat_lt last_cycle k) refl refl missed all.0)
      where
        at : (k : ℕ) (s t : Bool) → nat_lt 0 k ≡ s → nat_lt last_cycle k ≡ t → Each (IsMissed course disk) (underruns_of course disk) → Each (IsTold last_cycle) (turned_underruns course disk)
            → among (underruns_of course disk) k ≡ among (turned_underruns course disk) k
        at k true false es et m p =
            let low : 1 ≤ k = grind (arith, nat_tests) in
            let high : k ≤ last_cycle = grind (arith, nat_tests) in
            serial k low high ∙ sym (in-missed course disk last_cycle k low high)
        at k false t es et m p =
            let none : k ≡ 0 = grind (arith, nat_tests) in
            not_among (underruns_of course disk) k (Each-weaker (IsMissed course disk) (λ (u : Underrun). u.cycle ≢ k) (λ u q e. omega (arith, q.first, e, none)) (underruns_of course disk) m)
            ∙ sym (not_among (turned_underruns course disk) k (Each-weaker (IsTold last_cycle) (λ (u : Underrun). u.cycle ≢ k) (λ u q e. omega (arith, q.1, e, none)) (turned_underruns course disk) p))
        at k true true es et m p =
            let high : last_cycle < k = grind (arith, nat_tests) in
            not_among (underruns_of course disk) k (Each-weaker (IsMissed course disk) (λ (u : Underrun). u.cycle ≢ k) (λ u q e. omega (arith, q.last, e, high)) (underruns_of course disk) m)
            ∙ sym (not_among (turned_underruns course disk) k (Each-weaker (IsTold last_cycle) (λ (u : Underrun). u.cycle ≢ k) (λ u q e. omega (arith, q.2, e, high)) (turned_underruns course disk) p))
