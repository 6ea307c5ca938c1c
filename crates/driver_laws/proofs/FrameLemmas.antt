-- The capture's frames, the playback's samples and the moments of one cycle more.
--     frames_before-next      the frames of one cycle more, none of a freewheel cycle
--     left-next      what is left of the capture behind them
--     played_so_far-run, played_so_far-freewheel      the samples of a `run` cycle go behind those so far; a freewheel cycle has none
--     moments-next      one moment more
use Rattle.std.proofs.Common.{◌≡◌, ℕ, zero, suc, ◌+◌, ◌-◌, ◌*◌, true, false, cond, not, List, [], ◌∷◌, ◌++◌, map, flat_map, take, drop, sum_by, get_or, refl, sym, ◌∙◌, ap, ap₂, arith}
use Rattle.std.proofs.Math.Nat.{add-mul}
use Rattle.std.proofs.lemmas.Grind.{flat_map-append}
use Rattle.std.proofs.lemmas.List.{map-append, append-nil, drop-drop}
use Rattle.std.proofs.lemmas.List.Sums.{sum_by-cons}
use Rattle.record_ring.specs.session_model.specs.Courses.{Course, turn, no_turn, frames_before}
use Rattle.record_ring.specs.session_model.specs.Playback.{played_in}
use Rattle.record_ring.specs.session_model.specs.Samples.{below}
use Rattle.record_ring.specs.session_model.specs.Scripts.{turns}
use Rattle.record_ring.specs.session_model.specs.Transport.{moment}
use Rattle.driver_laws.specs.Drivers.{frames_read}
use Rattle.driver_laws.specs.Keeping.{run_cycles, played_so_far}
use Rattle.driver_laws.proofs.NumberLemmas.{filter-below_next}

-- a sum over one item more, where nothing is added past the end
sum_by-next : {X : Type 0} (f : X → ℕ) (d : X) → f d ≡ 0 → (xs : List X) (n : ℕ) → sum_by f (take (suc n) xs) ≡ sum_by f (take n xs) + f (get_or xs n d)
sum_by-next f d none [] zero = omega (arith, none)
sum_by-next f d none [] (suc n) = omega (arith, none)
sum_by-next f d none (x ∷ xs) zero = refl
sum_by-next f d none (x ∷ xs) (suc n) =
    let more : sum_by f (x ∷ take (suc n) xs) ≡ f x + sum_by f (take (suc n) xs) = sum_by-cons f x (take (suc n) xs) in
    let less : sum_by f (x ∷ take n xs) ≡ f x + sum_by f (take n xs) = sum_by-cons f x (take n xs) in
    let rest : sum_by f (take (suc n) xs) ≡ sum_by f (take n xs) + f (get_or xs n d) = sum_by-next f d none xs n in
    omega (arith, more, less, rest)

module _ (course : Course) (n : ℕ) where
  next : suc n ≡ n + 1
  next = omega arith

  pub frames_before-next : frames_before course (suc n + 1) ≡ frames_before course (n + 1) + frames_read (turn course (n + 1))
  frames_before-next =
      let after : suc n + 1 - 1 ≡ suc n = omega arith in
      let before : n ≡ n + 1 - 1 = omega arith in
      ap (λ m. sum_by frames_read (take m (turns course.script))) after
      ∙ sum_by-next frames_read no_turn refl (turns course.script) n
      ∙ ap₂ (λ m k. sum_by frames_read (take m (turns course.script)) + frames_read (turn course k)) before next

  -- what is left of the capture
  pub left-next : (channels : ℕ) → drop (frames_read (turn course (n + 1)) * channels) (drop (frames_before course (n + 1) * channels) course.capture) ≡ drop (frames_before course (suc n + 1) * channels) course.capture
  left-next channels =
      drop-drop (frames_read (turn course (n + 1)) * channels) (frames_before course (n + 1) * channels) course.capture
      ∙ ap (λ m. drop m course.capture) (sym (add-mul (frames_before course (n + 1)) (frames_read (turn course (n + 1))) channels) ∙ ap (λ m. m * channels) (sym frames_before-next))

  played_so_far-next : played_so_far course (suc n) ≡ played_so_far course n ++ flat_map (λ i. played_in course (i + 1)) (cond (not (turn course (n + 1)).is_freewheel) (n ∷ []) [])
  played_so_far-next =
      ap (flat_map (λ i. played_in course (i + 1))) (filter-below_next (λ i. not (turn course (i + 1)).is_freewheel) n)
      ∙ flat_map-append (λ i. played_in course (i + 1)) (run_cycles course n) (cond (not (turn course (n + 1)).is_freewheel) (n ∷ []) [])

  pub played_so_far-run : (turn course (n + 1)).is_freewheel ≡ false → played_so_far course (suc n) ≡ played_so_far course n ++ played_in course (n + 1)
  played_so_far-run e =
      played_so_far-next
      ∙ ap (λ b. played_so_far course n ++ flat_map (λ i. played_in course (i + 1)) (cond (not b) (n ∷ []) [])) e
      ∙ ap (λ samples. played_so_far course n ++ samples) (append-nil (played_in course (n + 1)))

  pub played_so_far-freewheel : (turn course (n + 1)).is_freewheel ≡ true → played_so_far course (suc n) ≡ played_so_far course n
  played_so_far-freewheel e =
      played_so_far-next
      ∙ ap (λ b. played_so_far course n ++ flat_map (λ i. played_in course (i + 1)) (cond (not b) (n ∷ []) [])) e
      ∙ append-nil (played_so_far course n)

  pub moments-next : map (λ i. moment course (i + 1)) (below (suc n)) ≡ map (λ i. moment course (i + 1)) (below n) ++ moment course (n + 1) ∷ []
  moments-next = map-append (λ i. moment course (i + 1)) (below n) (n ∷ [])
