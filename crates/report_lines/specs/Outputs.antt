-- What parts of a report say, as lists that a server keeps.
--     text_of lines      the bytes of the lines, one after the other
--     cycles_of numbers moments      cycles, each of a number and a moment
--     overruns_on overruns recorder, underruns_on underruns disk      those of one recorder, and of one disk
use Rattle.std.specs.Prelude.{ℕ, ◌==◌, List, [], ◌∷◌, filter, flat_map}
use Rattle.jack_types.specs.declared.moments.Moment.{Moment}
use Rattle.jack_types.specs.declared.replies.Overrun.{Overrun}
use Rattle.jack_types.specs.declared.replies.Underrun.{Underrun}
use Rattle.session_model.specs.Reports.{PrintedCycle}

abbrev pub text_of : List (List ℕ) → List ℕ
text_of lines = flat_map (λ text. text) lines

-- each number with the moment at its place; what has no partner is left out
abbrev pub cycles_of : List ℕ → List Moment → List PrintedCycle
cycles_of [] moments = []
cycles_of (number ∷ numbers) [] = []
cycles_of (number ∷ numbers) (moment ∷ moments) = record { number = number; moment = moment } ∷ cycles_of numbers moments

abbrev pub overruns_on : List Overrun → ℕ → List Overrun
overruns_on overruns recorder = filter (λ (overrun : Overrun). overrun.recorder == recorder) overruns

abbrev pub underruns_on : List Underrun → ℕ → List Underrun
underruns_on underruns disk = filter (λ (underrun : Underrun). underrun.disk == disk) underruns
