-- A tempo of a master's numbers is the master's.
--     HasTempo-numbers
use Rattle.std.proofs.Common.{◌≡◌, ℕ, Option, Some, None, sym, ap}
use Rattle.std.proofs.lemmas.Option.{none-some}
use Rattle.session_model.specs.State.{Master}
use Rattle.tempo_map.specs.declared.tempos.Tempo.{Tempo}
use Rattle.transport.specs.Standings.{HasTempo}
use Rattle.task_laws.specs.cycle_plan.specs.Graphs.{numbers_of, tempo_numbers}

pub HasTempo-numbers : (master : Option Master) (tempo : Option Tempo) → tempo_numbers tempo ≡ numbers_of master → HasTempo master tempo
HasTempo-numbers None None e = tt
HasTempo-numbers None (Some tempo) e = cc
HasTempo-numbers (Some master) None e = cc
HasTempo-numbers (Some master) (Some tempo) e = record {
  mbpm = ap (λ (n : ℕ × ℕ × ℕ). n.0) (sym same);
  beats = ap (λ (n : ℕ × ℕ × ℕ). n.1) (sym same);
  ticks = ap (λ (n : ℕ × ℕ × ℕ). n.2) (sym same);
}
  where
    some_is : (a b : ℕ × ℕ × ℕ) → Some a ≡ Some b → a ≡ b
    some_is a b p = cc

    same : ◌≡◌ {A = ℕ × ℕ × ℕ} (tempo.mbpm, tempo.beats, tempo.ticks) (master.mbpm, master.beats, master.ticks)
    same = some_is (tempo.mbpm, tempo.beats, tempo.ticks) (master.mbpm, master.beats, master.ticks) e
