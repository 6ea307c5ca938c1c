-- The periods of a script with disks.
--     greatest-first      the greatest is the first
use Rattle.std.proofs.Common.{◌≡◌, ℕ, ◌<◌, max, fold, List, [], ◌∷◌, length, map, take, Some, refl, ◌∙◌, ap, arith}
use Rattle.std.proofs.Math.Nat.{max-eq_left}
use Rattle.std.proofs.lemmas.Option.{slice_get-get_or}
use Rattle.jack_types.specs.declared.commands.Command.{Command}
use Rattle.jack_types.specs.declared.scripts.Body.{Body}
use Rattle.jack_types.specs.declared.scripts.Body.TheVariants.{Do, Run, Freewheel, Lane, Period}
use Rattle.session_model.specs.Grammar.{IsBody, IsScript}
use Rattle.session_model.specs.Scripts.{Script, Phase, phases_of, with_do}
use Rattle.session_laws.proofs.ListLemmas.{Each, Each-from_contains}
use Rattle.driver_laws.specs.Drivers.{greatest_period}

-- a line that sets no period
abbrev Still : Body → Type 0
Still (Do command) = Unit {0}
Still (Run cycles) = Unit {0}
Still (Freewheel cycles) = Unit {0}
Still (Lane lane begun command) = Unit {0}
Still (Period period) = ⊥

periods-do : (command : Command) (phs : List Phase) → map (λ (phase : Phase). phase.period) (with_do command phs) ≡ map (λ (phase : Phase). phase.period) phs
periods-do command [] = refl
periods-do command (phase ∷ phs) = refl

-- the greatest of the periods of these lines' phases, and of the one that holds before them
abbrev most_of : ℕ → ℕ → List Body → ℕ
most_of start period lines = fold max start (map (λ (phase : Phase). phase.period) (phases_of period lines))

most-still : (period : ℕ) (lines : List Body) → Each Still lines → most_of period period lines ≡ period
most-still period [] still = max-eq_left (omega arith)
most-still period (Do command ∷ lines) still = ap (fold max period) (periods-do command (phases_of period lines)) ∙ most-still period lines still.1
most-still period (Run cycles ∷ lines) still = ap (λ start. most_of start period lines) (max-eq_left (omega arith)) ∙ most-still period lines still.1
most-still period (Freewheel cycles ∷ lines) still = ap (λ start. most_of start period lines) (max-eq_left (omega arith)) ∙ most-still period lines still.1
most-still period (Lane lane begun command ∷ lines) still = most-still period lines still.1
most-still period (Period next ∷ lines) still = absurd still.0

-- no line of a script with disks sets one
pub greatest-first : (script : Script) → IsScript script → 0 < length script.header.disks → greatest_period script ≡ script.header.period
greatest-first script is some =
    most-still script.header.period script.lines
    (Each-from_contains Still script.lines (λ line m. still line (take m.0 script.lines) (is.lines m.0 line (slice_get-get_or script.lines m.0 line m.1 ∙ ap Some m.2))))
  where
    still : (line : Body) (earlier : List Body) → IsBody script.header earlier line → Still line
    still (Do command) earlier body = tt
    still (Run cycles) earlier body = tt
    still (Freewheel cycles) earlier body = tt
    still (Lane lane begun command) earlier body = tt
    still (Period period) earlier body = let none : length script.header.disks ≡ 0 = ap length body.1 in omega (arith, none, some)
