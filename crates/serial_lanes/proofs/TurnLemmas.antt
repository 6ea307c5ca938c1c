-- The cycles of phases, and the turns.
use Rattle.std.proofs.Common.{◌≡◌, ℕ, zero, suc, ◌+◌, ◌-◌, ◌<◌, ◌≤◌, List, [], ◌∷◌, ◌++◌, length, length-append, take, slice_index_or, replicate, sum_by, refl, ◌∙◌, ap, arith}
use Rattle.std.proofs.lemmas.List.Sums.{sum_by_from}
use Rattle.session_model.specs.Courses.{turn, no_turn}
use Rattle.session_model.specs.Scripts.{Phase, ScriptCycle, phases, turns_from}
use Rattle.serial_lanes.proofs.ItemLemmas.{take-whole}
use Rattle.serial_lanes.specs.Laws.{CyclesTotal}

abbrev pub cycles_in : List Phase → ℕ
cycles_in phs = sum_by (λ (p : Phase). p.cycles) phs

pub cycles_more : (phase : Phase) (phs : List Phase) → cycles_in (phase ∷ phs) ≡ phase.cycles + cycles_in phs
cycles_more phase phs =
    let total : cycles_in (phase ∷ phs) ≡ 0 + phase.cycles + cycles_in phs = sum_by_from (λ (p : Phase). p.cycles) (0 + phase.cycles) phs in
    omega (arith, total)

at_front : (n j : ℕ) (t : ScriptCycle) (rest : List ScriptCycle) → j < n → slice_index_or (replicate n t ++ rest) j no_turn ≡ t
at_front zero j t rest h = absurd (omega (arith, h))
at_front (suc n) zero t rest h = refl
at_front (suc n) (suc j) t rest h = at_front n j t rest (omega (arith, h))

behind_front : (n j : ℕ) (t : ScriptCycle) (rest : List ScriptCycle) → slice_index_or (replicate n t ++ rest) (n + j) no_turn ≡ slice_index_or rest j no_turn
behind_front zero j t rest = let e : 0 + j ≡ j = omega arith in ap (λ m. slice_index_or rest m no_turn) e
behind_front (suc n) j t rest =
    let e : suc n + j ≡ suc (n + j) = omega arith in
    ap (λ m. slice_index_or (t ∷ (replicate n t ++ rest)) m no_turn) e ∙ behind_front n j t rest

pub phase_at : (phs : List Phase) (index p j : ℕ) → cycles_in (take p phs) ≤ j → j < cycles_in (take (suc p) phs) → (slice_index_or (turns_from index phs) j no_turn).phase ≡ index + p
phase_at [] index zero j low high = absurd (omega (arith, high))
phase_at [] index (suc p) j low high = absurd (omega (arith, high))
phase_at (phase ∷ phs) index zero j low high =
    let one : ScriptCycle = record { period = phase.period; is_freewheel = phase.is_freewheel; phase = index } in
    let none : cycles_in (phase ∷ []) ≡ phase.cycles + 0 = cycles_more phase [] in
    let here : index ≡ index + 0 = omega arith in
    ap (λ (t : ScriptCycle). t.phase) (at_front phase.cycles j one (turns_from (index + 1) phs) (omega (arith, high, none))) ∙ here
phase_at (phase ∷ phs) index (suc p) j low high =
    let one : ScriptCycle = record { period = phase.period; is_freewheel = phase.is_freewheel; phase = index } in
    let first : cycles_in (phase ∷ take p phs) ≡ phase.cycles + cycles_in (take p phs) = cycles_more phase (take p phs) in
    let second : cycles_in (phase ∷ take (suc p) phs) ≡ phase.cycles + cycles_in (take (suc p) phs) = cycles_more phase (take (suc p) phs) in
    let place : j ≡ phase.cycles + (j - phase.cycles) = omega (arith, low, first) in
    let next : index + 1 + p ≡ index + suc p = omega arith in
    ap (λ m. (slice_index_or (replicate phase.cycles one ++ turns_from (index + 1) phs) m no_turn).phase) place
    ∙ ap (λ (t : ScriptCycle). t.phase) (behind_front phase.cycles (j - phase.cycles) one (turns_from (index + 1) phs))
    ∙ phase_at phs (index + 1) p (j - phase.cycles) (omega (arith, low, first)) (omega (arith, high, second, low, first))
    ∙ next

pub turns_total : (phs : List Phase) (index : ℕ) → cycles_in phs ≡ length (turns_from index phs)
turns_total [] index = refl
turns_total (phase ∷ phs) index =
    let one : ScriptCycle = record { period = phase.period; is_freewheel = phase.is_freewheel; phase = index } in
    omega (arith, cycles_more phase phs, turns_total phs (index + 1), length-append (replicate phase.cycles one) (turns_from (index + 1) phs), many phase.cycles one)
  where
    many : (n : ℕ) (turn : ScriptCycle) → length (replicate n turn) ≡ n
    many zero turn = refl
    many (suc n) turn = ap suc (many n turn)

pub cycles_total : CyclesTotal
cycles_total script = ap cycles_in (take-whole (phases script)) ∙ turns_total (phases script) 0
