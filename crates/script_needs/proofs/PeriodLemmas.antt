-- The periods of a script's cycles.
--     turns-have      what holds of the first period and of those that lines set holds of each cycle's
--     turns-within      none is longer than the greatest
--     greatest-has      the greatest is one of them
use Rattle.std.proofs.Common.{◌≡◌, ℕ, zero, suc, ◌+◌, ◌<◌, ◌≤◌, max, fold, ◌⊎◌, inl, inr, List, [], ◌∷◌, ◌++◌, length, map, take, replicate, get_or, slice_get, Some, refl, sym, ◌∙◌, ap, subst, arith, append_assoc}
use Rattle.std.proofs.Math.Nat.{le-max_left, le-max_right, max-eq_left, max-eq_right}
use Rattle.std.proofs.lemmas.Bool.{cases_lt}
use Rattle.jack_types.specs.declared.commands.Command.{Command}
use Rattle.jack_types.specs.declared.scripts.Body.{Body}
use Rattle.jack_types.specs.declared.scripts.Body.TheVariants.{Do, Run, Freewheel, Lane, Period}
use Rattle.session_model.specs.Courses.{no_turn}
use Rattle.session_model.specs.Grammar.{IsBody, IsPeriod, IsScript}
use Rattle.session_model.specs.Scripts.{Script, Phase, ScriptCycle, with_do, phases, phases_of, turns, turns_from}
use Rattle.session_laws.proofs.ListLemmas.{Each, Each-append, Each-map}
use Rattle.task_laws.specs.driver_laws.specs.Drivers.{greatest_period, turn_of}

abbrev pub HasPeriod : (ℕ → Type 0) → Phase → Type 0
HasPeriod P phase = P phase.period

module _ (P : ℕ → Type 0) where
  -- what a `period` line sets
  abbrev Sets : Body → Type 0
  Sets (Period next) = P next
  Sets _ = Unit {0}

  do-has : (command : Command) (phs : List Phase) → Each (HasPeriod P) phs → Each (HasPeriod P) (with_do command phs)
  do-has command [] h = tt
  do-has command (phase ∷ phs) h = (h.0, h.1)

  phases-have : (lines : List Body) (period : ℕ) → P period → Each Sets lines → Each (HasPeriod P) (phases_of period lines)
  phases-have [] period p h = (p, tt)
  phases-have (Do command ∷ lines) period p h = do-has command (phases_of period lines) (phases-have lines period p h.1)
  phases-have (Run cycles ∷ lines) period p h = (p, phases-have lines period p h.1)
  phases-have (Freewheel cycles ∷ lines) period p h = (p, phases-have lines period p h.1)
  phases-have (Lane lane begun command ∷ lines) period p h = phases-have lines period p h.1
  phases-have (Period next ∷ lines) period p h = phases-have lines next h.0 h.1

  turns-each : (index : ℕ) (phs : List Phase) → Each (HasPeriod P) phs → Each (λ (turn : ScriptCycle). P turn.period) (turns_from index phs)
  turns-each index [] h = tt
  turns-each index (phase ∷ phs) h =
      Each-append (λ (turn : ScriptCycle). P turn.period) (replicate phase.cycles (record { period = phase.period; is_freewheel = phase.is_freewheel; phase = index })) (turns_from (index + 1) phs)
      (each phase.cycles) (turns-each (index + 1) phs h.1)
    where
      each : (n : ℕ) → Each (λ (turn : ScriptCycle). P turn.period) (replicate n (record { period = phase.period; is_freewheel = phase.is_freewheel; phase = index }))
      each zero = tt
      each (suc n) = (h.0, each n)

  turn-at : (ts : List ScriptCycle) → Each (λ (turn : ScriptCycle). P turn.period) ts → (i : ℕ) → i < length ts → P (get_or ts i no_turn).period
  turn-at [] h i q = absurd (omega (arith, q))
  turn-at (t ∷ ts) h zero q = h.0
  turn-at (t ∷ ts) h (suc i) q = turn-at ts h.1 i (omega (arith, q))

  pub turns-have : (script : Script) → Each (HasPeriod P) (phases script) → (k : ℕ) → k < length (turns script) → P (turn_of script (k + 1)).period
  turns-have script h k low =
      let next : k + 1 ≡ suc k = omega arith in
      subst (λ m. P (turn_of script m).period) (sym next) (turn-at (turns script) (turns-each 0 (phases script) h) k low)

  pub greatest-has : ((a b : ℕ) → P a → P b → P (max a b)) → (start : ℕ) (periods : List ℕ) → P start → Each P periods → P (fold max start periods)
  greatest-has most start [] p h = p
  greatest-has most start (period ∷ periods) p h = greatest-has most (max start period) periods (most start period p h.0) h.1

-- the lines of a lawful script set lawful periods
lines-set : (script : Script) → IsScript script → (earlier lines : List Body) → script.lines ≡ earlier ++ lines → Each (Sets IsPeriod) lines
lines-set script is earlier [] e = tt
lines-set script is earlier (line ∷ lines) e = (
  go line (is.lines (length earlier) line (ap (λ ls. slice_get ls (length earlier)) e ∙ there earlier line lines)),
  lines-set script is (earlier ++ line ∷ []) lines (e ∙ sym (append_assoc earlier (line ∷ []) lines)),
)
  where
    there : {X : Type 0} (xs : List X) (x : X) (ys : List X) → slice_get (xs ++ x ∷ ys) (length xs) ≡ Some x
    there [] x ys = refl
    there (y ∷ xs) x ys = there xs x ys

    go : (body : Body) → IsBody script.header (take (length earlier) script.lines) body → Sets IsPeriod body
    go (Do command) h = tt
    go (Run cycles) h = tt
    go (Freewheel cycles) h = tt
    go (Lane lane begun command) h = tt
    go (Period period) h = h.2

pub phases-lawful : (script : Script) → IsScript script → Each (HasPeriod IsPeriod) (phases script)
phases-lawful script is = phases-have IsPeriod script.lines script.header.period is.header.period (lines-set script is [] script.lines refl)

pub max-lawful : (a b : ℕ) → IsPeriod a → IsPeriod b → IsPeriod (max a b)
max-lawful a b p q = go (cases_lt a b)
  where
    go : (a < b) ⊎ (b ≤ a) → IsPeriod (max a b)
    go (inl low) = subst IsPeriod (sym (max-eq_right (omega (arith, low)))) q
    go (inr high) = subst IsPeriod (sym (max-eq_left high)) p

pub greatest-lawful : (script : Script) → IsScript script → IsPeriod (greatest_period script)
greatest-lawful script is =
    greatest-has IsPeriod max-lawful script.header.period (map (λ (phase : Phase). phase.period) (phases script)) is.header.period
    (Each-map IsPeriod (λ (phase : Phase). phase.period) (phases script) (phases-lawful script is))

pub start-within : (periods : List ℕ) (start : ℕ) → start ≤ fold max start periods
start-within [] start = omega arith
start-within (period ∷ periods) start = let rest = start-within periods (max start period) in let first = le-max_left start period in omega (arith, rest, first)

phases-within : (phs : List Phase) (start : ℕ) → Each (HasPeriod (λ n. n ≤ fold max start (map (λ (phase : Phase). phase.period) phs))) phs
phases-within [] start = tt
phases-within (phase ∷ phs) start = (
  (let rest = start-within (map (λ (p : Phase). p.period) phs) (max start phase.period) in let first = le-max_right start phase.period in omega (arith, rest, first)),
  phases-within phs (max start phase.period),
)

pub turns-within : (script : Script) (k : ℕ) → k < length (turns script) → (turn_of script (k + 1)).period ≤ greatest_period script
turns-within script k low = turns-have (λ n. n ≤ greatest_period script) script (phases-within (phases script) script.header.period) k low
