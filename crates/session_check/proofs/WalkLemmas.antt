-- The cycles of a segment.
--     phase-inside      it is a phase's
--     is-turn      its next cycle
--     behind-segment      behind all of them
use Rattle.std.proofs.Common.{◌≡◌, ℕ, suc, ◌+◌, ◌<◌, ◌≤◌, Bool, List, length, get_or, slice_get, Some, refl, sym, ◌∙◌, ap, ap₂, subst, arith}
use Rattle.session_model.specs.Scripts.{Phase, Script, ScriptCycle, phases, turns}
use Rattle.check_laws.proofs.PlaceLists.{get-of, slice-inside}
use Rattle.driver_laws.specs.Drivers.{turn_of}
use Rattle.driver_laws.specs.Segments.{cycles_before}
use Rattle.check_walk.proofs.LengthLemmas.{sum-next}
use Rattle.script_segments.specs.Segments.{segment_of, segments}
use Rattle.script_segments.specs.declared.lines.Segment.{Segment}
use Rattle.session_check.specs.Passes.{IsTurn}

abbrev pub ArePhases : Type 0
ArePhases = (script : Script) (done : ℕ) (segment : Segment) → slice_get (segments script) done ≡ Some segment → (phase : Phase) × (slice_get (phases script) done ≡ Some phase) × (segment ≡ segment_of phase)

module _ (are : ArePhases) (script : Script) (place : ℕ) (segment : Segment) (here : slice_get (segments script) place ≡ Some segment) where
  found : (phase : Phase) × (slice_get (phases script) place ≡ Some phase) × (segment ≡ segment_of phase)
  found = are script place segment here

  pub phase-inside : place < length (phases script)
  phase-inside = slice-inside (phases script) place found.0 found.1

  pub is-turn : ((script : Script) (done t : ℕ) (phase : Phase) → slice_get (phases script) done ≡ Some phase → t < phase.cycles → cycles_before script done + t < length (turns script))
      → ((script : Script) (done t : ℕ) (phase : Phase) → slice_get (phases script) done ≡ Some phase → t < phase.cycles → turn_of script (cycles_before script done + t + 1) ≡ record { period = phase.period; is_freewheel = phase.is_freewheel; phase = done })
      → (t done period : ℕ) → t < segment.cycles → done ≡ cycles_before script place + t → period ≡ segment.period → IsTurn script (done + 1) place segment.is_freewheel period
  is-turn there is t done period low done_is period_is = record {
    there = let inside = there script place t found.0 found.1 low-phase in omega (arith, inside, done_is);
    turn_is = ap (λ n. turn_of script (n + 1)) done_is ∙ is script place t found.0 found.1 low-phase
        ∙ ap₂ (λ (p : ℕ) (f : Bool). record { period = p; is_freewheel = f; phase = place }) (sym (period_is ∙ ap (λ (s : Segment). s.period) found.2)) (sym (ap (λ (s : Segment). s.is_freewheel) found.2));
  }
    where
      low-phase : t < found.0.cycles
      low-phase = subst (λ n. t < n) (ap (λ (s : Segment). s.cycles) found.2) low

  pub behind-segment : (t done : ℕ) → done ≡ cycles_before script place + t → t ≡ segment.cycles → done ≡ cycles_before script (place + 1)
  behind-segment t done done_is all =
      done_is ∙ ap (λ n. cycles_before script place + n) (all ∙ ap (λ (s : Segment). s.cycles) found.2 ∙ ap (λ (p : Phase). p.cycles) (sym (get-of (phases script) place found.0 found.0 found.1)))
      ∙ sym (sum-next (λ (p : Phase). p.cycles) (phases script) place found.0 phase-inside) ∙ ap (cycles_before script) (sym next)
    where
      next : place + 1 ≡ suc place
      next = omega arith
