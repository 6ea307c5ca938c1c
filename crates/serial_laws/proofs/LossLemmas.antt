-- The overruns of serial mode so far, and those behind all cycles.
--     losses-next      a cycle adds an overrun of its own, or none
--     kept_blocks-serial      so many cycles keep the same blocks by both
use Rattle.std.proofs.Common.{◌≡◌, ◌⊎◌, inl, inr, ℕ, zero, suc, ◌+◌, ◌-◌, ◌<◌, ◌≤◌, ◌==◌, ◌&&◌, ◌||◌, not, Bool, true, false, List, [], ◌∷◌, ◌++◌, length, map, if◌then◌else◌, refl, sym, ◌∙◌, ap, arith, ne_eqb}
use Rattle.std.proofs.lemmas.List.Folds.{list_any-append}
use Rattle.jack_types.specs.declared.replies.Overrun.{Overrun}
use Rattle.session_model.specs.Courses.{Course, turn}
use Rattle.session_model.specs.Recorders.{is_lost, is_taping}
use Rattle.session_model.specs.Scripts.{Script, turns}
use Rattle.session_model.specs.Serial.{Counts, counts, put_one, serial_course, serial_overruns}
use Rattle.run_laws.specs.driver_laws.specs.Keeping.{is_kept, kept_blocks}
use Rattle.run_laws.specs.driver_laws.proofs.NumberLemmas.{filter-below_same}
use Rattle.run_laws.specs.driver_laws.proofs.PlaceLemmas.{or_false}
use Rattle.run_laws.specs.driver_laws.proofs.RingLemmas.{made}
use Rattle.serial_laws.proofs.EmptyLemmas.{closed-losses, counted_in-turn, opened}

-- a cycle adds an overrun of its own, or none
abbrev OneMore : ℕ → List Overrun → List Overrun → Type 0
OneMore k losses losses_after = (losses_after ≡ losses) ⊎ ((overrun : Overrun) × (overrun.cycle ≡ k) × (losses_after ≡ losses ++ overrun ∷ []))

put_one-losses : (course : Course) (recorder k : ℕ) (counted : Counts) → OneMore k counted.losses (put_one course recorder k counted).losses
put_one-losses course recorder k counted = go (is_taping course recorder k) (counted.sent == counted.taken + course.script.header.ring)
  where
    overrun : Overrun
    overrun = record { recorder = recorder; cycle = k; sent = counted.sent; taken = counted.taken }

    go : (active full : Bool)
        → OneMore k counted.losses (if not active then counted else if full then record counted { losses = counted.losses ++ overrun ∷ [] } else record counted { sent = counted.sent + 1 }).losses
    go false full = inl refl
    go true true = inr (overrun, refl, refl)
    go true false = inl refl

opened-losses : (freewheel : Bool) (counted : Counts) → (opened freewheel counted).losses ≡ counted.losses
opened-losses true counted = refl
opened-losses false counted = refl

losses-next : (course : Course) (recorder n : ℕ) → OneMore (suc n) (counts course recorder n).losses (counts course recorder (suc n)).losses
losses-next course recorder n = go (put_one-losses course recorder (suc n) first)
  where
    freewheel : Bool
    freewheel = (turn course (suc n)).is_freewheel

    first : Counts
    first = opened freewheel (counts course recorder n)

    before : first.losses ≡ (counts course recorder n).losses
    before = opened-losses freewheel (counts course recorder n)

    behind : (counts course recorder (suc n)).losses ≡ (put_one course recorder (suc n) first).losses
    behind =
        ap (λ (c : Counts). c.losses) (counted_in-turn course recorder (suc n) freewheel (counts course recorder n) refl)
        ∙ closed-losses course.script.header freewheel (put_one course recorder (suc n) first)

    go : OneMore (suc n) first.losses (put_one course recorder (suc n) first).losses → OneMore (suc n) (counts course recorder n).losses (counts course recorder (suc n)).losses
    go (inl same) = inl (behind ∙ same ∙ before)
    go (inr (overrun, now, more)) = inr (overrun, now, behind ∙ more ∙ ap (λ os. os ++ overrun ∷ []) before)

module _ (course : Course) (recorder n : ℕ) where
  -- an overrun of a later cycle changes none of the blocks before it
  kept_blocks-later : (losses : List Overrun) (overrun : Overrun) → n < overrun.cycle → kept_blocks course (losses ++ overrun ∷ []) recorder n ≡ kept_blocks course losses recorder n
  kept_blocks-later losses overrun later =
      ap (map (made course recorder)) (filter-below_same (is_kept course (losses ++ overrun ∷ []) recorder) (is_kept course losses recorder) n (λ i low.
      ap (λ b. is_taping course recorder (i + 1) && not b)
      (list_any-append (λ (o : Overrun). o.cycle == i + 1) losses (overrun ∷ [])
      ∙ ap (λ b. is_lost losses (i + 1) || (b || false)) (ne_eqb overrun.cycle (i + 1) (λ e. omega (arith, e, low, later)))
      ∙ or_false (is_lost losses (i + 1)))))

  kept_blocks-one_more : (k : ℕ) (losses losses_after : List Overrun) → n < k → OneMore k losses losses_after → kept_blocks course losses_after recorder n ≡ kept_blocks course losses recorder n
  kept_blocks-one_more k losses losses_after later (inl same) = ap (λ os. kept_blocks course os recorder n) same
  kept_blocks-one_more k losses losses_after later (inr (overrun, now, more)) = ap (λ os. kept_blocks course os recorder n) more ∙ kept_blocks-later losses overrun (omega (arith, later, now))

  kept_blocks-behind : (serial : Course) (k : ℕ) → kept_blocks course (counts serial recorder (k + n)).losses recorder n ≡ kept_blocks course (counts serial recorder n).losses recorder n
  kept_blocks-behind serial zero = let none : 0 + n ≡ n = omega arith in ap (λ m. kept_blocks course (counts serial recorder m).losses recorder n) none
  kept_blocks-behind serial (suc k) =
      let next : suc k + n ≡ suc (k + n) = omega arith in
      ap (λ m. kept_blocks course (counts serial recorder m).losses recorder n) next
      ∙ kept_blocks-one_more (suc (k + n)) (counts serial recorder (k + n)).losses (counts serial recorder (suc (k + n))).losses (omega arith) (losses-next serial recorder (k + n))
      ∙ kept_blocks-behind serial k

-- what so many cycles keep by the overruns so far they keep by all
pub kept_blocks-serial : (course : Course) (script : Script) (recorder n : ℕ) → n ≤ length (turns script)
    → kept_blocks course (counts (serial_course script) recorder n).losses recorder n ≡ kept_blocks course (serial_overruns script recorder) recorder n
kept_blocks-serial course script recorder n low =
    let size : length (turns script) ≡ (length (turns script) - n) + n = omega (arith, low) in
    sym (ap (λ m. kept_blocks course (counts (serial_course script) recorder m).losses recorder n) size ∙ kept_blocks-behind course recorder n (serial_course script) (length (turns script) - n))
