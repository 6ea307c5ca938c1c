-- The periods and the cycles of the phases, line by line.
--     greatest-from      the greatest period
--     cycles-on_lines      the cycles
use Rattle.std.proofs.Common.{◌≡◌, ℕ, ◌+◌, max, fold, sum_by, List, [], ◌∷◌, map, refl, sym, ◌∙◌, ap, arith}
use Rattle.std.proofs.lemmas.List.Sums.{sum_by-cons}
use Rattle.jack_types.specs.declared.commands.Command.{Command}
use Rattle.jack_types.specs.declared.scripts.Body.{Body}
use Rattle.jack_types.specs.declared.scripts.Body.TheVariants.{Do, Run, Freewheel, Lane, Period}
use Rattle.jack_types.specs.declared.scripts.Header.{Header}
use Rattle.session_model.specs.Grammar.{all_cycles}
use Rattle.session_model.specs.Scripts.{Phase, Script, phases, phases_of, with_do}
use Rattle.grammar_laws.proofs.GrammarLimits.{all_cycles-append, cycles_in}
use Rattle.task_laws.specs.driver_laws.specs.Drivers.{greatest_period}
use Rattle.script_needs.specs.Lines.{cycles_on, first_periods, longest, past}

abbrev periods_in : List Phase → List ℕ
periods_in phs = map (λ (phase : Phase). phase.period) phs

do-periods : (command : Command) (phs : List Phase) → periods_in (with_do command phs) ≡ periods_in phs
do-periods command [] = refl
do-periods command (phase ∷ phs) = refl

periods-on_lines : (lines : List Body) (set greatest : ℕ) → longest (fold past (record { set = set; greatest = greatest }) lines) ≡ fold max greatest (periods_in (phases_of set lines))
periods-on_lines [] set greatest = refl
periods-on_lines (Do command ∷ lines) set greatest = periods-on_lines lines set greatest ∙ ap (fold max greatest) (sym (do-periods command (phases_of set lines)))
periods-on_lines (Run cycles ∷ lines) set greatest = periods-on_lines lines set (max greatest set)
periods-on_lines (Freewheel cycles ∷ lines) set greatest = periods-on_lines lines set (max greatest set)
periods-on_lines (Lane lane begun command ∷ lines) set greatest = periods-on_lines lines set greatest
periods-on_lines (Period next ∷ lines) set greatest = periods-on_lines lines next greatest

greatest-on_lines : (script : Script) → longest (fold past (first_periods script.header.period) script.lines) ≡ greatest_period script
greatest-on_lines script = periods-on_lines script.lines script.header.period script.header.period

-- what is found over the lines of a script is its greatest period
pub greatest-from : (script : Script) (header : Header) (lines : List Body) (found : ℕ) → header ≡ script.header → lines ≡ script.lines
    → found ≡ longest (fold past (first_periods header.period) lines) → found ≡ greatest_period script
greatest-from script header lines found h l e =
    e
    ∙ ap (λ ls. longest (fold past (first_periods header.period) ls)) l
    ∙ ap (λ (hd : Header). longest (fold past (first_periods hd.period) script.lines)) h
    ∙ greatest-on_lines script

same-cycles : (lines : List Body) → sum_by cycles_on lines ≡ sum_by cycles_in lines
same-cycles [] = refl
same-cycles (line ∷ lines) =
    sum_by-cons cycles_on line lines
    ∙ ap (λ n. cycles_on line + n) (same-cycles lines)
    ∙ ap (λ n. n + sum_by cycles_in lines) (here line)
    ∙ sym (sum_by-cons cycles_in line lines)
  where
    here : (l : Body) → cycles_on l ≡ cycles_in l
    here (Do _) = refl
    here (Run cycles) = refl
    here (Freewheel cycles) = refl
    here (Lane _ _ _) = refl
    here (Period _) = refl

pub cycles-on_lines : (script : Script) → sum_by cycles_on script.lines ≡ all_cycles (phases script)
cycles-on_lines script = let all = all_cycles-append script.header.period [] script.lines in let same = same-cycles script.lines in omega (arith, all, same)
