-- Where the segments of a script begin.
--     cycles_before script phase      the cycles of the first phases
use Rattle.std.specs.Prelude.{ℕ, take, sum_by}
use Rattle.record_ring.specs.session_model.specs.Scripts.{Script, Phase, phases}

-- the cycles of the phases before this one
abbrev pub cycles_before : Script → ℕ → ℕ
cycles_before script phase = sum_by (λ (p : Phase). p.cycles) (take phase (phases script))
