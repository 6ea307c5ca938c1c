-- The frames of the cycles of a driver.
--     frames-next      the frames of one cycle more
--     frames-after      the frames behind the next cycle
--     samples-next      of so many channels, the samples of all cycles and of the next one are few
use Rattle.std.proofs.Common.{◌≡◌, ℕ, suc, ◌+◌, ◌*◌, ◌<◌, ◌≤◌, [], ◌∷◌, ◌++◌, length, sum_by, take, ◌∙◌, ap, arith, add-mul}
use Rattle.std.proofs.lemmas.List.{length_push}
use Rattle.session_model.specs.Courses.{no_turn}
use Rattle.session_model.specs.Scripts.{Script, ScriptCycle, turns}
use Rattle.plan_transport.specs.driver_laws.specs.Drivers.{Driver, frames_run, run, turn_of}
use Rattle.cycle_laws.proofs.ListLemmas.{sum-next}

abbrev frames_of : Script → ℕ → ℕ
frames_of script n = sum_by (λ (turn : ScriptCycle). turn.period) (take n (turns script))

-- the frames of one cycle more
frames-next : (script : Script) (n : ℕ) → n < length (turns script) → frames_of script (suc n) ≡ frames_of script n + (turn_of script (n + 1)).period
frames-next script n low =
    let next : suc n ≡ n + 1 = omega arith in
    sum-next (λ (turn : ScriptCycle). turn.period) (turns script) n no_turn low
    ∙ ap (λ k. frames_of script n + (turn_of script k).period) next

module _ (driver : Driver) (left : run driver < length (turns driver.script)) (period : (turn_of driver.script (run driver + 1)).period ≡ driver.set) where
  next-is : frames_of driver.script (suc (run driver)) ≡ frames_run driver + driver.set
  next-is = frames-next driver.script (run driver) left ∙ ap (λ n. frames_run driver + n) period

  -- behind the next cycle
  pub frames-after : (after : Driver) (number : ℕ) → after.script ≡ driver.script → after.numbers ≡ driver.numbers ++ number ∷ [] → frames_run after ≡ frames_run driver + driver.set
  frames-after after number script numbers =
      let size : run after ≡ run driver + 1 = ap length numbers ∙ length_push driver.numbers number in
      let next : run driver + 1 ≡ suc (run driver) = omega arith in
      ap (λ (s : Script). frames_of s (run after)) script
      ∙ ap (frames_of driver.script) (size ∙ next)
      ∙ next-is

  -- of so many channels, the samples of all cycles and of the next one are few
  pub samples-next : (channels : ℕ) → frames_of driver.script (suc (run driver)) * channels ≤ 500000000 → frames_run driver * channels + driver.set * channels ≤ 500000000
  samples-next channels few =
      let both : (frames_run driver + driver.set) * channels ≡ frames_run driver * channels + driver.set * channels = add-mul (frames_run driver) driver.set channels in
      let same : frames_of driver.script (suc (run driver)) * channels ≡ (frames_run driver + driver.set) * channels = ap (λ n. n * channels) next-is in
      omega (arith, few, both, same)
