-- A script with disks keeps its first period.
--     period-first      in every cycle
use Rattle.std.proofs.Common.{◌≡◌, ℕ, zero, suc, ◌+◌, ◌<◌, false, List, [], ◌∷◌, ◌++◌, length, take, replicate, get_or, slice_get, Some, refl, sym, ◌∙◌, ap, subst, arith, append_assoc, true≢false}
use Rattle.record_ring.specs.jack_types.specs.declared.scripts.Body.{Body}
use Rattle.record_ring.specs.jack_types.specs.declared.scripts.Body.TheVariants.{Do, Run, Freewheel, Lane, Period}
use Rattle.record_ring.specs.jack_types.specs.declared.commands.Command.{Command}
use Rattle.record_ring.specs.session_model.specs.Courses.{no_turn}
use Rattle.record_ring.specs.session_model.specs.Grammar.{IsBody, IsScript, is_period_line}
use Rattle.record_ring.specs.session_model.specs.Scripts.{Script, Phase, ScriptCycle, with_do, phases, phases_of, turns, turns_from}
use Rattle.cycle_plan.specs.session_laws.proofs.ListLemmas.{Each, Each-append}
use Rattle.driver_laws.specs.Drivers.{turn_of}

-- phases and turns of one period
abbrev HavePeriod : ℕ → List Phase → Type 0
HavePeriod period phs = Each (λ (phase : Phase). phase.period ≡ period) phs

HavePeriod-with_do : (period : ℕ) (command : Command) (phs : List Phase) → HavePeriod period phs → HavePeriod period (with_do command phs)
HavePeriod-with_do period command [] h = tt
HavePeriod-with_do period command (phase ∷ phs) h = (h.0, h.1)

-- lines without a `period` line make phases of one period
phases-first : (period : ℕ) (lines : List Body) → Each (λ line. is_period_line line ≡ false) lines → HavePeriod period (phases_of period lines)
phases-first period [] h = (refl, tt)
phases-first period (Do command ∷ lines) h = HavePeriod-with_do period command (phases_of period lines) (phases-first period lines h.1)
phases-first period (Run cycles ∷ lines) h = (refl, phases-first period lines h.1)
phases-first period (Freewheel cycles ∷ lines) h = (refl, phases-first period lines h.1)
phases-first period (Lane lane begun command ∷ lines) h = phases-first period lines h.1
phases-first period (Period next ∷ lines) h = absurd (true≢false h.0)

turns-first : (period index : ℕ) (phs : List Phase) → HavePeriod period phs → Each (λ (turn : ScriptCycle). turn.period ≡ period) (turns_from index phs)
turns-first period index [] h = tt
turns-first period index (phase ∷ phs) h =
    Each-append (λ (turn : ScriptCycle). turn.period ≡ period) (replicate phase.cycles (record { period = phase.period; is_freewheel = phase.is_freewheel; phase = index })) (turns_from (index + 1) phs)
    (each phase.cycles) (turns-first period (index + 1) phs h.1)
  where
    each : (n : ℕ) → Each (λ (turn : ScriptCycle). turn.period ≡ period) (replicate n (record { period = phase.period; is_freewheel = phase.is_freewheel; phase = index }))
    each zero = tt
    each (suc n) = (h.0, each n)

-- no line of a script with disks sets a period
no_period : (script : Script) → IsScript script → 0 < length script.header.disks → (earlier lines : List Body) → script.lines ≡ earlier ++ lines → Each (λ line. is_period_line line ≡ false) lines
no_period script is some earlier [] e = tt
no_period script is some earlier (line ∷ lines) e = (
  go line refl,
  no_period script is some (earlier ++ line ∷ []) lines (e ∙ sym (append_assoc earlier (line ∷ []) lines)),
)
  where
    there : {X : Type 0} (xs : List X) (x : X) (ys : List X) → slice_get (xs ++ x ∷ ys) (length xs) ≡ Some x
    there [] x ys = refl
    there (y ∷ xs) x ys = there xs x ys

    body : IsBody script.header (take (length earlier) script.lines) line
    body = is.lines (length earlier) line (ap (λ ls. slice_get ls (length earlier)) e ∙ there earlier line lines)

    go : (other : Body) → line ≡ other → is_period_line other ≡ false
    go (Do command) q = refl
    go (Run cycles) q = refl
    go (Freewheel cycles) q = refl
    go (Lane lane begun command) q = refl
    go (Period period) q =
        let lawful : IsBody script.header (take (length earlier) script.lines) (Period period) = subst (IsBody script.header (take (length earlier) script.lines)) q body in
        let none : length script.header.disks ≡ 0 = ap length lawful.1 in
        absurd (omega (arith, none, some))

-- every cycle of a script with disks has the first period
pub period-first : (script : Script) → IsScript script → 0 < length script.header.disks → (k : ℕ) → k < length (turns script) → (turn_of script (k + 1)).period ≡ script.header.period
period-first script is some k low =
    let next : k + 1 ≡ suc k = omega arith in
    ap (λ m. (turn_of script m).period) next
    ∙ at (turns script) (turns-first script.header.period 0 (phases script) (phases-first script.header.period script.lines (no_period script is some [] script.lines refl))) k low
  where
    at : (ts : List ScriptCycle) → Each (λ (turn : ScriptCycle). turn.period ≡ script.header.period) ts → (i : ℕ) → i < length ts → (get_or ts i no_turn).period ≡ script.header.period
    at [] h i q = absurd (omega (arith, q))
    at (t ∷ ts) h zero q = h.0
    at (t ∷ ts) h (suc i) q = at ts h.1 i (omega (arith, q))
