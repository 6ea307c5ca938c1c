-- What holds of all commands of a script holds of all its planned calls, of all changes that are of its calls, and, step by step, behind these.
--     planned-all      from the lines to the planned calls
--     changes-all      from the planned calls to the changes
--     planned-lawful      the commands of a lawful script are in their ranges
--     replay-keeps      what each accepted command keeps holds behind all changes
use Rattle.std.proofs.Common.{◌≡◌, ℕ, suc, ◌+◌, ◌*◌, Bool, true, false, cond, List, [], ◌∷◌, ◌++◌, map, filter_map, take, slice_get, Contains, Option, Some, None, is_none, refl, subst}
use Rattle.std.specs.List.{cons_option}
use Rattle.std.proofs.lemmas.List.Elements.{All-contains}
use Rattle.jack_types.specs.declared.commands.Call.{Call}
use Rattle.jack_types.specs.declared.commands.Change.{Change}
use Rattle.jack_types.specs.declared.commands.Command.{Command}
use Rattle.jack_types.specs.declared.scripts.Body.{Body}
use Rattle.jack_types.specs.declared.scripts.Body.TheVariants.{Do, Run, Freewheel, Lane, Period}
use Rattle.driver_laws.specs.session_model.specs.Commands.{after, effect, refusal, replay}
use Rattle.driver_laws.specs.session_model.specs.Grammar.{IsScript, IsBody, IsCommand}
use Rattle.driver_laws.specs.session_model.specs.Scripts.{Script, Phase, LaneCall, Planned, Uncounted, phases, phases_of, planned, uncounted, lane_calls, with_do}
use Rattle.driver_laws.specs.session_model.specs.State.{State}
use Rattle.driver_laws.specs.session_laws.proofs.ListLemmas.{Each, Each-append, Each-contains, Each-from_contains, Each-map, Each-unmap}
use Rattle.driver_laws.specs.session_laws.proofs.SerialCallsLemmas.{Each-counted, dos_of, calls_at}
use Rattle.driver_laws.specs.session_laws.proofs.SoundLemmas.{contains-map}
use Rattle.driver_laws.specs.Keeping.{AreOfCalls}

each-at : {X : Type 0} (P : X → Type 0) (xs : List X) → ((i : ℕ) (x : X) → slice_get xs i ≡ Some x → P x) → Each P xs
each-at P [] h = tt
each-at P (x ∷ xs) h = (h 0 x refl, each-at P xs (λ i y e. h (suc i) y e))

module _ (P : Command → Type 0) where
  abbrev pub BodyHas : Body → Type 0
  BodyHas (Do command) = P command
  BodyHas (Lane _ _ command) = P command
  BodyHas _ = Unit {0}

  abbrev PhaseHas : Phase → Type 0
  PhaseHas phase = Each P phase.dos × Each (λ (call : LaneCall). P call.command) phase.calls

  lanes-have : (lines : List Body) → Each BodyHas lines → Each (λ (call : LaneCall). P call.command) (lane_calls lines)
  lanes-have [] h = tt
  lanes-have (Do _ ∷ lines) h = tt
  lanes-have (Run _ ∷ lines) h = tt
  lanes-have (Freewheel _ ∷ lines) h = tt
  lanes-have (Period _ ∷ lines) h = tt
  lanes-have (Lane lane begun command ∷ lines) h = (h.0, lanes-have lines h.1)

  with_do-has : (command : Command) (phs : List Phase) → P command → Each PhaseHas phs → Each PhaseHas (with_do command phs)
  with_do-has command [] c h = tt
  with_do-has command (phase ∷ phs) c h = (((c, h.0.0), h.0.1), h.1)

  phases-have : (lines : List Body) (period : ℕ) → Each BodyHas lines → Each PhaseHas (phases_of period lines)
  phases-have [] period h = ((tt, tt), tt)
  phases-have (Do command ∷ lines) period h = with_do-has command (phases_of period lines) h.0 (phases-have lines period h.1)
  phases-have (Run cycles ∷ lines) period h = ((tt, lanes-have lines h.1), phases-have lines period h.1)
  phases-have (Freewheel cycles ∷ lines) period h = ((tt, lanes-have lines h.1), phases-have lines period h.1)
  phases-have (Lane lane begun command ∷ lines) period h = phases-have lines period h.1
  phases-have (Period next ∷ lines) period h = phases-have lines next h.1

  uncounted-have : (phs : List Phase) (index base : ℕ) → Each PhaseHas phs → Each (λ (u : Uncounted). P u.command) (uncounted index base phs)
  uncounted-have [] index base h = tt
  uncounted-have (phase ∷ phs) index base h =
      Each-append (λ (u : Uncounted). P u.command) (dos_of index phase ++ calls_at index base phase) (uncounted (index + 1) (base + phase.cycles) phs)
      (Each-append (λ (u : Uncounted). P u.command) (dos_of index phase) (calls_at index base phase)
      (Each-map (λ (u : Uncounted). P u.command) (λ (command : Command). record { lane = 0; command = command; stage = 2 * index; asked = 0 }) phase.dos h.0.0)
      (Each-map (λ (u : Uncounted). P u.command) (λ (call : LaneCall). record { lane = call.lane; command = call.command; stage = 2 * index + 1; asked = base + call.begun }) phase.calls h.0.1))
      (uncounted-have phs (index + 1) (base + phase.cycles) h.1)

  pub planned-all : (script : Script) → Each BodyHas script.lines → Each (λ (plan : Planned). P plan.call.command) (planned script)
  planned-all script h = Each-counted (λ (u : Uncounted). P u.command) [] (uncounted 0 0 (phases script)) (uncounted-have (phases script) 0 0 (phases-have script.lines script.header.period h))

  pub changes-all : (script : Script) (changes : List Change) → AreOfCalls script changes → Each (λ (plan : Planned). P plan.call.command) (planned script) → Each (λ (change : Change). P change.command) changes
  changes-all script changes of h =
      Each-unmap P (λ (change : Change). change.command) changes (subst (Each P) of.commands (Each-map P (λ (call : Call). call.command) of.calls
      (Each-from_contains (λ (call : Call). P call.command) of.calls (λ call m. one call (All-contains (Contains (map (λ (plan : Planned). plan.call) (planned script))) of.calls call of.planned_ones m)))))
    where
      one : (call : Call) → Contains (map (λ (plan : Planned). plan.call) (planned script)) call → P call.command
      one call m =
          let w = contains-map (λ (plan : Planned). plan.call) (planned script) call m in
          subst (λ (c : Call). P c.command) w.2 (Each-contains (λ (plan : Planned). P plan.call.command) (planned script) w.0 h w.1)

pub planned-lawful : (script : Script) → IsScript script → Each (λ (plan : Planned). IsCommand script.header plan.call.command) (planned script)
planned-lawful script is = planned-all (IsCommand script.header) script (each-at (BodyHas (IsCommand script.header)) script.lines (λ i body e. one (take i script.lines) body (is.lines i body e)))
  where
    one : (earlier : List Body) (body : Body) → IsBody script.header earlier body → BodyHas (IsCommand script.header) body
    one earlier (Do command) h = h
    one earlier (Run cycles) h = tt
    one earlier (Freewheel cycles) h = tt
    one earlier (Lane lane begun command) h = h.3
    one earlier (Period period) h = tt

pub each-filter_map : {X Y : Type 0} (P : Y → Type 0) (f : X → Option Y) (xs : List X) → Each (λ x. (y : Y) → f x ≡ Some y → P y) xs → Each P (filter_map f xs)
each-filter_map P f [] h = tt
each-filter_map {X} {Y} P f (x ∷ xs) h = go (f x) h.0 (each-filter_map P f xs h.1)
  where
    go : (o : Option Y) → ((y : Y) → o ≡ Some y → P y) → Each P (filter_map f xs) → Each P (cons_option o (filter_map f xs))
    go None here rest = rest
    go (Some y) here rest = (here y refl, rest)

module _ (P : State → Type 0) (Asks : Command → Type 0)
    (step : (state : State) (number : ℕ) (command : Command) → Asks command → is_none (refusal state command) ≡ true → P state → P (effect state number command)) where
  pub replay-keeps : (changes : List Change) (state : State) → Each (λ (change : Change). Asks change.command) changes → P state → P (replay state changes)
  replay-keeps [] state asked h = h
  replay-keeps (change ∷ changes) state asked h = replay-keeps changes (after state change.number change.command) asked.1 (go (is_none (refusal state change.command)) refl)
    where
      go : (b : Bool) → is_none (refusal state change.command) ≡ b → P (cond b (effect state change.number change.command) state)
      go true e = step state change.number change.command asked.0 e h
      go false e = h
