-- A recorder's ring behind one cycle more.
--     kept_blocks-next, kept_blocks-lost      one block more that is kept; none where the cycle is an overrun
--     kept_before-later      an overrun of a later cycle changes no earlier count
--     KeepsRing-next      what the ring keeps before a cycle it keeps behind
use Rattle.std.proofs.Common.{◌≡◌, ℕ, suc, ◌+◌, ◌-◌, ◌<◌, ◌≤◌, Bool, true, false, cond, not, ◌&&◌, ◌||◌, ◌==◌, List, [], ◌∷◌, ◌++◌, length, map, filter, count_by, get_or, All, IsTrue, ℤ, refl, sym, ◌∙◌, ap, ap₂, subst, arith, ne_eqb, eq-eqb}
use Rattle.std.specs.List.Sorted.{IsStrictlyIncreasing, IsNonDecreasing}
use Rattle.std.proofs.lemmas.List.{map-append, append-nil, length-map}
use Rattle.std.proofs.lemmas.List.Elements.{All-push, All-map}
use Rattle.std.proofs.lemmas.List.Folds.{list_any-append, list_any_none}
use Rattle.std.proofs.lemmas.List.Sums.{length-filter}
use Rattle.record_ring.specs.jack_types.specs.declared.replies.Overrun.{Overrun}
use Rattle.record_ring.specs.session_model.specs.Courses.{Course}
use Rattle.record_ring.specs.session_model.specs.Recorders.{block, is_taping, is_lost, kept_before}
use Rattle.record_ring.specs.session_model.specs.Rings.{RingBlock}
use Rattle.record_ring.specs.session_model.specs.Samples.{below}
use Rattle.record_ring.specs.driver_words.specs.Rings.{Sending, Puts, IsFull}
use Rattle.driver_laws.specs.Keeping.{is_kept, kept_blocks, IsLoss, KeepsRing}
use Rattle.driver_laws.specs.Cycling.{PutsOne, Idle, Went, Lacked}
use Rattle.driver_laws.proofs.PlaceLemmas.{or_false, or_true}
use Rattle.driver_laws.proofs.NumberLemmas.{IsStrictlyIncreasing-push, IsNonDecreasing-push, filter-below_next, filter-below_same}

-- ---- overruns of earlier and of later cycles

-- no overrun of the first n cycles is one of the next
none_yet : (n : ℕ) (losses : List Overrun) → All (λ (overrun : Overrun). overrun.cycle ≤ n) losses → is_lost losses (n + 1) ≡ false
none_yet n losses early = list_any_none (λ (overrun : Overrun). overrun.cycle == n + 1) losses
    (λ k d h. let low : (get_or losses k d).cycle ≤ n = early k d h in ne_eqb (get_or losses k d).cycle (n + 1) (λ e. omega (arith, low, e)))

-- one more overrun changes nothing of other cycles
lost_elsewhere : (losses : List Overrun) (overrun : Overrun) (k : ℕ) → (overrun.cycle ≡ k → ⊥) → is_lost (losses ++ overrun ∷ []) k ≡ is_lost losses k
lost_elsewhere losses overrun k other =
    list_any-append (λ (o : Overrun). o.cycle == k) losses (overrun ∷ [])
    ∙ ap (λ b. is_lost losses k || (b || false)) (ne_eqb overrun.cycle k other)
    ∙ or_false (is_lost losses k)

lost_there : (losses : List Overrun) (overrun : Overrun) (k : ℕ) → overrun.cycle ≡ k → is_lost (losses ++ overrun ∷ []) k ≡ true
lost_there losses overrun k same =
    list_any-append (λ (o : Overrun). o.cycle == k) losses (overrun ∷ [])
    ∙ ap (λ b. is_lost losses k || (b || false)) (eq-eqb overrun.cycle k same)
    ∙ or_true (is_lost losses k)

module _ (course : Course) (recorder : ℕ) where
  -- the block of cycle i + 1
  abbrev pub made : ℕ → RingBlock
  made i = record { cycle = i + 1; samples = block course recorder (i + 1) }

  -- one cycle more: its block goes behind where it is kept
  pub kept_blocks-next : (losses : List Overrun) (n : ℕ) → kept_blocks course losses recorder (suc n) ≡ kept_blocks course losses recorder n ++ map made (cond (is_kept course losses recorder n) (n ∷ []) [])
  kept_blocks-next losses n =
      ap (map made) (filter-below_next (is_kept course losses recorder) n)
      ∙ map-append made (filter (is_kept course losses recorder) (below n)) (cond (is_kept course losses recorder n) (n ∷ []) [])

  pub kept_blocks-stay : (losses : List Overrun) (n : ℕ) → is_kept course losses recorder n ≡ false → kept_blocks course losses recorder (suc n) ≡ kept_blocks course losses recorder n ++ []
  kept_blocks-stay losses n e = kept_blocks-next losses n ∙ ap (λ b. kept_blocks course losses recorder n ++ map made (cond b (n ∷ []) [])) e

  pub kept_blocks-more : (losses : List Overrun) (n : ℕ) → is_kept course losses recorder n ≡ true → kept_blocks course losses recorder (suc n) ≡ kept_blocks course losses recorder n ++ made n ∷ []
  kept_blocks-more losses n e = kept_blocks-next losses n ∙ ap (λ b. kept_blocks course losses recorder n ++ map made (cond b (n ∷ []) [])) e

  kept_elsewhere : (losses : List Overrun) (overrun : Overrun) (n i : ℕ) → overrun.cycle ≡ n + 1 → i < n → is_kept course (losses ++ overrun ∷ []) recorder i ≡ is_kept course losses recorder i
  kept_elsewhere losses overrun n i at low = ap (λ b. is_taping course recorder (i + 1) && not b) (lost_elsewhere losses overrun (i + 1) (λ e. omega (arith, e, at, low)))

  -- an overrun of a later cycle changes none of the blocks before it
  pub kept_blocks-later : (losses : List Overrun) (overrun : Overrun) (n : ℕ) → overrun.cycle ≡ n + 1 → kept_blocks course (losses ++ overrun ∷ []) recorder n ≡ kept_blocks course losses recorder n
  kept_blocks-later losses overrun n at =
      ap (map made) (filter-below_same (is_kept course (losses ++ overrun ∷ []) recorder) (is_kept course losses recorder) n (λ i low. kept_elsewhere losses overrun n i at low))

  pub kept_before-later : (losses : List Overrun) (overrun : Overrun) (n k : ℕ) → overrun.cycle ≡ n + 1 → k ≤ n + 1 → kept_before course (losses ++ overrun ∷ []) recorder k ≡ kept_before course losses recorder k
  kept_before-later losses overrun n k at high =
      sym (length-filter (is_kept course (losses ++ overrun ∷ []) recorder) (below (k - 1)))
      ∙ ap length (filter-below_same (is_kept course (losses ++ overrun ∷ []) recorder) (is_kept course losses recorder) (k - 1) (λ i low. kept_elsewhere losses overrun n i at (omega (arith, low, high))))
      ∙ length-filter (is_kept course losses recorder) (below (k - 1))

  -- as many as the definition counts
  pub kept_blocks-counted : (losses : List Overrun) (n : ℕ) → length (kept_blocks course losses recorder n) ≡ kept_before course losses recorder (n + 1)
  kept_blocks-counted losses n =
      let size : n + 1 - 1 ≡ n = omega arith in
      length-map (filter (is_kept course losses recorder) (below n)) made ∙ length-filter (is_kept course losses recorder) (below n)
      ∙ sym (ap (λ m. count_by (is_kept course losses recorder) (below m)) size)

  -- ---- one cycle more

  module _ (n : ℕ) where
    -- an overrun among the first n cycles is one among the first n + 1
    later_loss : (losses : List Overrun) (capacity : ℕ) (overrun : Overrun) → IsLoss course losses recorder n capacity overrun → IsLoss course losses recorder (suc n) capacity overrun
    later_loss losses capacity overrun one = record {
      recorder_is = one.recorder_is;
      first = one.first;
      last = let low : overrun.cycle ≤ n = one.last in omega (arith, low);
      active = one.active;
      sent = one.sent;
      full = one.full;
    }

    cycles_early : (losses : List Overrun) (capacity : ℕ) → All (IsLoss course losses recorder n capacity) losses → All (λ (overrun : Overrun). overrun.cycle ≤ n) losses
    cycles_early losses capacity all k d h = (all k d h).last

    not_lost : (losses : List Overrun) (capacity : ℕ) → All (IsLoss course losses recorder n capacity) losses → is_lost losses (n + 1) ≡ false
    not_lost losses capacity all = none_yet n losses (cycles_early losses capacity all)

    -- the same ring, where nothing is kept of the cycle
    stays : (ring : Sending) (losses : List Overrun) → is_kept course losses recorder n ≡ false → KeepsRing course n recorder ring losses → KeepsRing course (suc n) recorder ring losses
    stays ring losses none keeps = record {
      put = keeps.put ∙ simp_nil ∙ sym (kept_blocks-stay losses n none);
      by_cycle = keeps.by_cycle;
      all = λ k d h. later_loss losses ring.capacity (get_or losses k d) (keeps.all k d h);
      rising = keeps.rising;
      least = keeps.least;
      capacity = keeps.capacity;
    }
      where
        simp_nil : kept_blocks course losses recorder n ≡ kept_blocks course losses recorder n ++ []
        simp_nil = sym (append-nil (kept_blocks course losses recorder n))

    went : (samples : List ℤ) (look : ℕ) (ring ring_after : Sending) (losses : List Overrun) → is_taping course recorder (n + 1) ≡ true → samples ≡ block course recorder (n + 1)
        → Puts ring (record { cycle = n + 1; samples = samples }) look ring_after → KeepsRing course n recorder ring losses → KeepsRing course (suc n) recorder ring_after losses
    went samples look ring ring_after losses active same puts keeps =
        let put_is : ring_after.put ≡ ring.put ++ record { cycle = n + 1; samples = samples } ∷ [] = ap (λ (r : Sending). r.put) puts.after_is in
        let capacity_is : ring_after.capacity ≡ ring.capacity = ap (λ (r : Sending). r.capacity) puts.after_is in
        let least_is : ring_after.least ≡ look = ap (λ (r : Sending). r.least) puts.after_is in
        let kept : is_kept course losses recorder n ≡ true = ap₂ (λ a b. a && not b) active (not_lost losses ring.capacity keeps.all) in
        record {
          put = put_is
              ∙ ap (λ xs. ring.put ++ record { cycle = n + 1; samples = xs } ∷ []) same
              ∙ ap (λ blocks. blocks ++ made n ∷ []) keeps.put
              ∙ sym (kept_blocks-more losses n kept);
          by_cycle = keeps.by_cycle;
          all = λ k d h. later_loss losses ring_after.capacity (get_or losses k d) (subst (λ c. IsLoss course losses recorder n c (get_or losses k d)) (sym capacity_is) (keeps.all k d h));
          rising = keeps.rising;
          least = λ k d h. let low : (get_or losses k d).taken ≤ ring.least = keeps.least k d h in omega (arith, low, puts.least, least_is);
          capacity = capacity_is ∙ keeps.capacity;
        }

    lacked : (look : ℕ) (ring ring_after : Sending) (losses : List Overrun) (overrun : Overrun) → overrun ≡ record { recorder = recorder; cycle = n + 1; sent = length ring.put; taken = look }
        → is_taping course recorder (n + 1) ≡ true → IsFull ring look ring_after → KeepsRing course n recorder ring losses → KeepsRing course (suc n) recorder ring_after (losses ++ overrun ∷ [])
    lacked look ring ring_after losses overrun is active full keeps =
        let put_is : ring_after.put ≡ ring.put = ap (λ (r : Sending). r.put) full.after_is in
        let capacity_is : ring_after.capacity ≡ ring.capacity = ap (λ (r : Sending). r.capacity) full.after_is in
        let least_is : ring_after.least ≡ look = ap (λ (r : Sending). r.least) full.after_is in
        let at : overrun.cycle ≡ n + 1 = ap (λ (o : Overrun). o.cycle) is in
        let taken_is : overrun.taken ≡ look = ap (λ (o : Overrun). o.taken) is in
        let sent_is : overrun.sent ≡ length ring.put = ap (λ (o : Overrun). o.sent) is in
        let lost : is_kept course (losses ++ overrun ∷ []) recorder n ≡ false =
        ap (λ b. is_taping course recorder (n + 1) && not b) (lost_there losses overrun (n + 1) at) ∙ and_false (is_taping course recorder (n + 1)) in
        let old : (o : Overrun) → IsLoss course losses recorder n ring.capacity o → IsLoss course (losses ++ overrun ∷ []) recorder (suc n) ring_after.capacity o = λ o one.
        record {
          recorder_is = one.recorder_is;
          first = one.first;
          last = let low : o.cycle ≤ n = one.last in omega (arith, low);
          active = one.active;
          sent = one.sent ∙ sym (kept_before-later losses overrun n o.cycle at (let low : o.cycle ≤ n = one.last in omega (arith, low)));
          full = one.full ∙ ap (λ c. o.taken + c) (sym capacity_is);
        } in
        let new : IsLoss course (losses ++ overrun ∷ []) recorder (suc n) ring_after.capacity overrun = record {
          recorder_is = ap (λ (o : Overrun). o.recorder) is;
          first = omega (arith, at);
          last = omega (arith, at);
          active = subst (λ k. IsTrue (is_taping course recorder k)) (sym at) active;
          sent = sent_is ∙ ap length keeps.put ∙ kept_blocks-counted losses n ∙ sym (kept_before-later losses overrun n (n + 1) at (omega arith)) ∙ sym (ap (kept_before course (losses ++ overrun ∷ []) recorder) at);
          full = sent_is ∙ full.full ∙ ap₂ (λ t c. t + c) (sym taken_is) (sym capacity_is);
        } in
        record {
          put = put_is ∙ keeps.put ∙ sym (kept_blocks-later losses overrun n at) ∙ sym (append-nil (kept_blocks course (losses ++ overrun ∷ []) recorder n)) ∙ sym (kept_blocks-stay (losses ++ overrun ∷ []) n lost);
          by_cycle = subst IsStrictlyIncreasing (sym (map-append (λ (o : Overrun). o.cycle) losses (overrun ∷ [])))
              (IsStrictlyIncreasing-push (map (λ (o : Overrun). o.cycle) losses) overrun.cycle keeps.by_cycle
              (All-map (λ c. c < overrun.cycle) (λ (o : Overrun). o.cycle) losses (λ k d h. let low : (get_or losses k d).cycle ≤ n = (keeps.all k d h).last in omega (arith, low, at))));
          all = All-push (IsLoss course (losses ++ overrun ∷ []) recorder (suc n) ring_after.capacity) losses overrun (λ k d h. old (get_or losses k d) (keeps.all k d h)) new;
          rising = subst IsNonDecreasing (sym (map-append (λ (o : Overrun). o.taken) losses (overrun ∷ [])))
              (IsNonDecreasing-push (map (λ (o : Overrun). o.taken) losses) overrun.taken keeps.rising
              (All-map (λ t. t ≤ overrun.taken) (λ (o : Overrun). o.taken) losses (λ k d h. let low : (get_or losses k d).taken ≤ ring.least = keeps.least k d h in omega (arith, low, full.least, taken_is))));
          least = All-push (λ (o : Overrun). o.taken ≤ ring_after.least) losses overrun
              (λ k d h. let low : (get_or losses k d).taken ≤ ring.least = keeps.least k d h in omega (arith, low, full.least, least_is))
              (omega (arith, taken_is, least_is));
          capacity = capacity_is ∙ keeps.capacity;
        }
      where
        and_false : (b : Bool) → (b && not true) ≡ false
        and_false true = refl
        and_false false = refl

    -- what the ring keeps before a cycle it keeps behind
    pub KeepsRing-next : (active : Bool) (samples : List ℤ) (ring ring_after : Sending) (losses losses_after : List Overrun)
        → is_taping course recorder (n + 1) ≡ active → (active ≡ true → samples ≡ block course recorder (n + 1))
        → PutsOne (n + 1) recorder active samples ring ring_after losses losses_after → KeepsRing course n recorder ring losses → KeepsRing course (suc n) recorder ring_after losses_after
    KeepsRing-next active samples ring ring_after losses losses_after taping heard (Idle idle same none) keeps =
        let nothing : is_kept course losses recorder n ≡ false = ap (λ b. b && not (is_lost losses (n + 1))) (taping ∙ idle) in
        subst (λ os. KeepsRing course (suc n) recorder ring_after os) (sym none) (subst (λ r. KeepsRing course (suc n) recorder r losses) (sym same) (stays ring losses nothing keeps))
    KeepsRing-next active samples ring ring_after losses losses_after taping heard (Went look on puts none) keeps =
        subst (λ os. KeepsRing course (suc n) recorder ring_after os) (sym none) (went samples look ring ring_after losses (taping ∙ on) (heard on) puts keeps)
    KeepsRing-next active samples ring ring_after losses losses_after taping heard (Lacked look on full more) keeps =
        subst (λ os. KeepsRing course (suc n) recorder ring_after os) (sym more) (lacked look ring ring_after losses _ refl (taping ∙ on) full keeps)
