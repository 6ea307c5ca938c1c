-- How many cycles a script has.
--     turns-length      those of its phases
--     lines-few      the cycles of its lines are few
use Rattle.std.proofs.Common.{◌≡◌, ℕ, zero, suc, ◌+◌, ◌≤◌, sum_by, List, [], ◌∷◌, ◌++◌, length, replicate, refl, sym, ◌∙◌, ap, arith, length-append}
use Rattle.std.proofs.lemmas.List.Sums.{sum_by-cons}
use Rattle.session_model.specs.Grammar.{IsScript, all_cycles}
use Rattle.session_model.specs.Scripts.{Phase, Script, ScriptCycle, phases, turns, turns_from}
use Rattle.script_needs.specs.Lines.{cycles_on}
use Rattle.script_needs.proofs.LineLemmas.{cycles-on_lines}

turns-count : (index : ℕ) (phs : List Phase) → length (turns_from index phs) ≡ all_cycles phs
turns-count index [] = refl
turns-count index (phase ∷ phs) =
    let turn : ScriptCycle = record { period = phase.period; is_freewheel = phase.is_freewheel; phase = index } in
    let both : length (replicate phase.cycles turn ++ turns_from (index + 1) phs) ≡ length (replicate phase.cycles turn) + length (turns_from (index + 1) phs) = length-append (replicate phase.cycles turn) (turns_from (index + 1) phs) in
    let all : all_cycles (phase ∷ phs) ≡ phase.cycles + all_cycles phs = sum_by-cons (λ (p : Phase). p.cycles) phase phs in
    omega (arith, both, all, run phase.cycles turn, turns-count (index + 1) phs)
  where
    run : (n : ℕ) (turn : ScriptCycle) → length (replicate n turn) ≡ n
    run zero turn = refl
    run (suc n) turn = ap suc (run n turn)

pub turns-length : (script : Script) → sum_by cycles_on script.lines ≡ length (turns script)
turns-length script = cycles-on_lines script ∙ sym (turns-count 0 (phases script))

pub lines-few : (script : Script) → IsScript script → sum_by cycles_on script.lines ≤ 1000000
lines-few script is = let all = cycles-on_lines script in let few = is.few_cycles in omega (arith, all, few)
