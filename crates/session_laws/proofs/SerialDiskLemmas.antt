-- The underruns of serial mode are ones that can be.
--     in-missed      a cycle is among them exactly where it is missed
--     Played-turned      they meet `Played`
use Rattle.std.proofs.Common.{◌≡◌, ℕ, zero, suc, ◌+◌, ◌-◌, ◌<◌, ◌≤◌, min, Bool, true, false, cond, not, ◌&&◌, ◌||◌, ◌==◌, nat_lt, List, [], ◌∷◌, ◌++◌, length, map, slice_index_or, count_by, All, None, is_some, refl, sym, ◌∙◌, ap, ap₂, subst, arith, true≢false, eqb-true, ne_eqb}
use native.Mathlib.Nat.{min-eq_left, min-eq_right}
use Rattle.std.specs.List.{list_any}
use Rattle.std.specs.List.Sorted.{IsStrictlyIncreasing}
use Rattle.std.proofs.lemmas.Bool.Decides.{nat_tests}
use Rattle.std.proofs.lemmas.List.Sums.{sum_by_push}
use Rattle.session_model.specs.jack_types.specs.declared.replies.Underrun.{Underrun}
use Rattle.session_model.specs.Courses.{Course, turn, is_disk_active, is_underrun, played_before}
use Rattle.session_model.specs.Disks.{Played, IsMissed, Turned, file_blocks, is_empty, filled, got_one, turned_before, is_missed_in, missed_at, missed_up_to, turned_underruns}
use Rattle.session_model.specs.Samples.{below}
use Rattle.session_model.specs.Scripts.{turns}
use Rattle.session_laws.proofs.ListLemmas.{Each, Ordered, Each-weaker, Each-append, Ordered-append, Ordered-map}
use Rattle.session_laws.proofs.SerialLossLemmas.{All-from_each, IsStrictlyIncreasing-ordered}

-- the course with these underruns in place of its own
abbrev with_underruns : Course → List (List Underrun) → Course
with_underruns course underruns = record course { underruns = underruns }

pub list_any-append : (p : Underrun → Bool) (xs ys : List Underrun) → list_any p (xs ++ ys) ≡ (list_any p xs || list_any p ys)
list_any-append p [] ys = refl
list_any-append p (x ∷ xs) ys = go (p x) (list_any-append p xs ys)
  where
    go : (b : Bool) → list_any p (xs ++ ys) ≡ (list_any p xs || list_any p ys) → (b || list_any p (xs ++ ys)) ≡ (b || list_any p xs || list_any p ys)
    go true e = refl
    go false e = e

pub or-none : (b : Bool) → (b || false) ≡ b
or-none true = refl
or-none false = refl

pub min-next : (m p : ℕ) → min m (min m p + 1) ≡ min m (p + 1)
min-next m p = go (nat_lt p m) refl
  where
    go : (b : Bool) → nat_lt p m ≡ b → min m (min m p + 1) ≡ min m (p + 1)
    go true e =
        let low : p ≤ m = grind (arith, nat_tests) in
        ap (λ k. min m (k + 1)) (min-eq_right low)
    go false e =
        let high : m ≤ p = grind (arith, nat_tests) in
        ap (λ k. min m (k + 1)) (min-eq_left high) ∙ min-eq_left (omega arith) ∙ sym (min-eq_left (omega (arith, high)))

pub min-below : (m p : ℕ) → min m p < m → min m p ≡ p
min-below m p h = go (nat_lt p m) refl
  where
    go : (b : Bool) → nat_lt p m ≡ b → min m p ≡ p
    go true e = let low : p ≤ m = grind (arith, nat_tests) in min-eq_right low
    go false e =
        let high : m ≤ p = grind (arith, nat_tests) in
        let same : min m p ≡ m = min-eq_left high in
        absurd (omega (arith, h, same))

-- the turns do not look at the underruns
turned-same : (course : Course) (underruns : List (List Underrun)) (disk k : ℕ) → turned_before course disk k ≡ turned_before (with_underruns course underruns) disk k
turned-same course underruns disk zero = refl
turned-same course underruns disk (suc k) = ap (λ (turned : Turned). filled course disk (suc k) (got_one course disk k turned)) (turned-same course underruns disk k)

module _ (course : Course) (disk : ℕ) where
  abbrev in_cycle : ℕ → ℕ → Bool
  in_cycle n k = list_any (λ (underrun : Underrun). underrun.cycle == k) (missed_up_to course disk n)

  in_single : (b : Bool) (n k : ℕ) → list_any (λ (underrun : Underrun). underrun.cycle == k) (cond b (missed_at course disk n ∷ []) []) ≡ cond b (n == k) false
  in_single true n k = or-none (n == k)
  in_single false n k = refl

  in_next : (n k : ℕ) → in_cycle (suc n) k ≡ (in_cycle n k || cond (is_missed_in course disk (suc n)) (suc n == k) false)
  in_next n k =
      list_any-append (λ (underrun : Underrun). underrun.cycle == k) (missed_up_to course disk n) (cond (is_missed_in course disk (suc n)) (missed_at course disk (suc n) ∷ []) [])
      ∙ ap (λ b. in_cycle n k || b) (in_single (is_missed_in course disk (suc n)) (suc n) k)

  not_later : (n k : ℕ) → n < k → in_cycle n k ≡ false
  not_later zero k h = refl
  not_later (suc n) k h =
      in_next n k ∙ ap₂ (λ a b. a || b) (not_later n k (omega (arith, h))) (ap (λ b. cond (is_missed_in course disk (suc n)) b false) (ne_eqb (suc n) k (λ e. omega (arith, e, h))) ∙ both (is_missed_in course disk (suc n)))
    where
      both : (b : Bool) → cond b false false ≡ false
      both true = refl
      both false = refl

  -- a cycle is among them exactly where it is missed
  pub in-missed : (n k : ℕ) → 1 ≤ k → k ≤ n → in_cycle n k ≡ is_missed_in course disk k
  in-missed zero k h l = absurd (omega (arith, h, l))
  in-missed (suc n) k h l = in_next n k ∙ go (suc n == k) refl (λ q. in-missed n k h q)
    where
      either : (b : Bool) → cond b true false ≡ b
      either true = refl
      either false = refl

      none : (b : Bool) → cond b false false ≡ false
      none true = refl
      none false = refl

      go : (b : Bool) → (suc n == k) ≡ b → (k ≤ n → in_cycle n k ≡ is_missed_in course disk k) → (in_cycle n k || cond (is_missed_in course disk (suc n)) (suc n == k) false) ≡ is_missed_in course disk k
      go true e earlier =
          let same : suc n ≡ k = eqb-true (suc n) k e in
          ap₂ (λ a b. a || b) (not_later n k (omega (arith, same))) (ap (λ b. cond (is_missed_in course disk (suc n)) b false) e ∙ either (is_missed_in course disk (suc n)) ∙ ap (is_missed_in course disk) same)
      go false e earlier =
          let lower : k ≤ n = grind (arith, nat_tests) in
          ap₂ (λ a b. a || b) (earlier lower) (ap (λ b. cond (is_missed_in course disk (suc n)) b false) e ∙ none (is_missed_in course disk (suc n))) ∙ or-none (is_missed_in course disk k)

  module _ (underruns : List (List Underrun)) (ours : slice_index_or underruns disk [] ≡ turned_underruns course disk) where
    abbrev full : Course
    full = with_underruns course underruns

    abbrev last_cycle : ℕ
    last_cycle = length (turns course.script)

    underrun-is : (k : ℕ) → 1 ≤ k → k ≤ last_cycle → is_underrun full disk k ≡ is_missed_in course disk k
    underrun-is k h l = ap (list_any (λ (underrun : Underrun). underrun.cycle == k)) ours ∙ in-missed last_cycle k h l

    -- the blocks played in the first k cycles
    abbrev played_in : ℕ → ℕ
    played_in k = count_by (λ j. is_disk_active full disk (j + 1) && not (is_underrun full disk (j + 1))) (below k)

    played-next : (k : ℕ) → played_in (suc k) ≡ played_in k + cond (is_disk_active full disk (suc k) && not (is_underrun full disk (suc k))) 1 0
    played-next k =
        let e : k + 1 ≡ suc k = omega arith in
        sum_by_push (λ j. cond (is_disk_active full disk (j + 1) && not (is_underrun full disk (j + 1))) 1 0) (below k) k
        ∙ ap (λ n. played_in k + cond (is_disk_active full disk n && not (is_underrun full disk n)) 1 0) e

    got-is : (k : ℕ) → k ≤ last_cycle → (turned_before course disk (suc k)).got ≡ min (file_blocks course disk) (played_in k)
    got-is zero h = sym (min-eq_right (omega arith))
    got-is (suc k) h = go (is_disk_active course disk (suc k)) (is_missed_in course disk (suc k)) refl refl (got-is k (omega (arith, h)))
      where
        go : (a m : Bool) → is_disk_active course disk (suc k) ≡ a → is_missed_in course disk (suc k) ≡ m → (turned_before course disk (suc k)).got ≡ min (file_blocks course disk) (played_in k)
            → cond (is_disk_active course disk (suc k) && not (is_missed_in course disk (suc k))) (min (file_blocks course disk) ((turned_before course disk (suc k)).got + 1)) (turned_before course disk (suc k)).got ≡ min (file_blocks course disk) (played_in (suc k))
        go a m ea em e =
            let counted : played_in (suc k) ≡ played_in k + cond (a && not m) 1 0 =
            played-next k ∙ ap (λ b. played_in k + cond (is_disk_active full disk (suc k) && not b) 1 0) (underrun-is (suc k) (omega arith) h ∙ em) ∙ ap (λ b. played_in k + cond (b && not m) 1 0) ea in
            ap₂ (λ p q. cond (p && not q) (min (file_blocks course disk) ((turned_before course disk (suc k)).got + 1)) (turned_before course disk (suc k)).got) ea em
            ∙ by (a && not m) e ∙ ap (min (file_blocks course disk)) (sym counted)
          where
            by : (b : Bool) → (turned_before course disk (suc k)).got ≡ min (file_blocks course disk) (played_in k)
                → cond b (min (file_blocks course disk) ((turned_before course disk (suc k)).got + 1)) (turned_before course disk (suc k)).got ≡ min (file_blocks course disk) (played_in k + cond b 1 0)
            by true f = ap (λ n. min (file_blocks course disk) (n + 1)) f ∙ min-next (file_blocks course disk) (played_in k)
            by false f = f ∙ ap (min (file_blocks course disk)) (plus_none (played_in k))
              where
                plus_none : (n : ℕ) → n ≡ n + 0
                plus_none n = omega arith

    -- what a missed cycle says of its turns
    missed-facts : (k : ℕ) → is_missed_in course disk k ≡ true → (is_disk_active course disk k ≡ true) × (not (turn course k).is_freewheel ≡ true) × ((turned_before course disk k).got < file_blocks course disk)
    missed-facts k h =
        let a : Bool = is_disk_active course disk k in
        let b : Bool = not (turn course k).is_freewheel in
        let c : Bool = (turned_before course disk k).put == (turned_before course disk k).got in
        let d : Bool = nat_lt (turned_before course disk k).put (file_blocks course disk) in
        four (is_disk_active course disk k) (not (turn course k).is_freewheel) ((turned_before course disk k).put == (turned_before course disk k).got) (nat_lt (turned_before course disk k).put (file_blocks course disk)) refl refl h
      where
        four : (a b c d : Bool) → ((turned_before course disk k).put == (turned_before course disk k).got) ≡ c → nat_lt (turned_before course disk k).put (file_blocks course disk) ≡ d → (a && b && c && d) ≡ true
            → (a ≡ true) × (b ≡ true) × ((turned_before course disk k).got < file_blocks course disk)
        four true true true true ec ed h = (refl, refl, (let same : (turned_before course disk k).put ≡ (turned_before course disk k).got = grind (arith, nat_tests) in let low : (turned_before course disk k).put < file_blocks course disk = grind (arith, nat_tests) in omega (arith, same, low)))
        four false b c d ec ed h = absurd (true≢false (sym h))
        four true false c d ec ed h = absurd (true≢false (sym h))
        four true true false d ec ed h = absurd (true≢false (sym h))
        four true true true false ec ed h = absurd (true≢false (sym h))

    missed-right : (k : ℕ) → suc k ≤ last_cycle → is_missed_in course disk (suc k) ≡ true → IsMissed full disk (missed_at course disk (suc k))
    missed-right k h e =
        let facts = missed-facts (suc k) e in
        let got : (turned_before course disk (suc k)).got ≡ min (file_blocks course disk) (played_in k) = got-is k (omega (arith, h)) in
        let played : min (file_blocks course disk) (played_in k) ≡ played_in k = min-below (file_blocks course disk) (played_in k) (subst (λ n. n < file_blocks course disk) got facts.2) in
        let back : k ≡ suc k - 1 = omega arith in
        let counted : (turned_before course disk (suc k)).got ≡ played_before full disk (suc k) = got ∙ played ∙ ap played_in back in
        record {
          disk_is = refl;
          first = omega arith;
          last = h;
          active = facts.0;
          in_run = facts.1;
          sent = counted;
          taken = counted;
          in_file = omega (arith, facts.2);
        }

    abbrev IsMissedUpTo : ℕ → Underrun → Type 0
    IsMissedUpTo n underrun = IsMissed full disk underrun × (underrun.cycle ≤ n)

    up-to : (n : ℕ) → n ≤ last_cycle → Each (IsMissedUpTo n) (missed_up_to course disk n) × Ordered (λ (a b : Underrun). a.cycle < b.cycle) (missed_up_to course disk n)
    up-to zero h = (tt, tt)
    up-to (suc n) h = go (is_missed_in course disk (suc n)) refl (up-to n (omega (arith, h)))
      where
        go : (b : Bool) → is_missed_in course disk (suc n) ≡ b → Each (IsMissedUpTo n) (missed_up_to course disk n) × Ordered (λ (a b : Underrun). a.cycle < b.cycle) (missed_up_to course disk n)
            → Each (IsMissedUpTo (suc n)) (missed_up_to course disk n ++ cond b (missed_at course disk (suc n) ∷ []) []) × Ordered (λ (a b : Underrun). a.cycle < b.cycle) (missed_up_to course disk n ++ cond b (missed_at course disk (suc n) ∷ []) [])
        go true e before = (
          Each-append (IsMissedUpTo (suc n)) (missed_up_to course disk n) (missed_at course disk (suc n) ∷ [])
              (Each-weaker (IsMissedUpTo n) (IsMissedUpTo (suc n)) (λ underrun p. (p.0, omega (arith, p.1))) (missed_up_to course disk n) before.0) ((missed-right n h e, omega arith), tt),
          Ordered-append (λ (a b : Underrun). a.cycle < b.cycle) (IsMissedUpTo n) (λ (underrun : Underrun). underrun.cycle ≡ suc n) (λ a b p q. omega (arith, p.1, q)) (missed_up_to course disk n) (missed_at course disk (suc n) ∷ [])
              before.1 before.0 (tt, tt) (refl, tt),
        )
        go false e before = (
          Each-append (IsMissedUpTo (suc n)) (missed_up_to course disk n) [] (Each-weaker (IsMissedUpTo n) (IsMissedUpTo (suc n)) (λ underrun p. (p.0, omega (arith, p.1))) (missed_up_to course disk n) before.0) tt,
          Ordered-append (λ (a b : Underrun). a.cycle < b.cycle) (IsMissedUpTo n) (λ (underrun : Underrun). ⊥) (λ a b p q. absurd q) (missed_up_to course disk n) [] before.1 before.0 tt tt,
        )

    pub Played-turned : course.script.header.threads ≡ None → Played full disk
    Played-turned no_threads =
        let all = up-to last_cycle (omega arith) in
        let missed : Each (IsMissed full disk) (turned_underruns course disk) = Each-weaker (IsMissedUpTo last_cycle) (IsMissed full disk) (λ underrun p. p.0) (turned_underruns course disk) all.0 in
        record {
          by_cycle = subst (λ (us : List Underrun). IsStrictlyIncreasing (map (λ (u : Underrun). u.cycle) us)) (sym ours)
              (IsStrictlyIncreasing-ordered (map (λ (u : Underrun). u.cycle) (turned_underruns course disk)) (Ordered-map (λ a b. a < b) (λ (u : Underrun). u.cycle) (turned_underruns course disk) all.1));
          missed = subst (λ (us : List Underrun). All (IsMissed full disk) us) (sym ours) (All-from_each (IsMissed full disk) (turned_underruns course disk) missed);
          in_threads = λ some. absurd (true≢false (sym some ∙ ap is_some no_threads));
          in_serial = λ _ k h l. underrun-is k h l ∙ ap (is_empty course disk k) (turned-same course underruns disk k);
        }
