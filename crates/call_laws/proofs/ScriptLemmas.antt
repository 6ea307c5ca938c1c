-- What a lawful script says of its calls.
use Rattle.std.proofs.Common.{◌≡◌, ℕ, suc, ◌+◌, ◌*◌, ◌≤◌, cond, count_by, List, [], ◌∷◌, ◌++◌, length, length-append, Contains, refl, ap, subst, arith, append-nil}
use Rattle.std.proofs.lemmas.List.Sums.{sum_by-cons}
use Rattle.jack_types.specs.declared.commands.Command.{Command}
use Rattle.jack_types.specs.declared.scripts.Body.{Body}
use Rattle.jack_types.specs.declared.scripts.Body.TheVariants.{Do, Run, Freewheel, Lane, Period}
use Rattle.jack_types.specs.declared.scripts.Header.{Header}
use Rattle.session_model.specs.Grammar.{IsScript, IsBody, IsCommand, is_call}
use Rattle.session_model.specs.Scripts.{Script, Phase, LaneCall, Planned, Uncounted, phases, phases_of, planned, uncounted, counted, lane_calls, with_do}
use Rattle.session_laws.proofs.ListLemmas.{Each, Each-append, Each-contains, Each-map}
use Rattle.session_laws.proofs.SerialCallsLemmas.{Each-counted, dos_of, calls_at}
use Rattle.session_laws.proofs.SerialLawfulLemmas.{AreBodies, AreBodies-rest}
use Rattle.call_laws.proofs.ItemLemmas.{length-mapped}

-- all commands of a phase are lawful
abbrev pub HasLawful : Header → Phase → Type 0
HasLawful header phase = Each (IsCommand header) phase.dos × Each (λ (call : LaneCall). IsCommand header call.command) phase.calls

module _ (header : Header) where
  first-body : (earlier : List Body) (line : Body) (lines : List Body) → AreBodies header earlier (line ∷ lines) → IsBody header earlier line
  first-body earlier line lines h = subst (λ es. IsBody header es line) (append-nil earlier) (h 0 line refl)

  lanes-lawful : (earlier lines : List Body) → AreBodies header earlier lines → Each (λ (call : LaneCall). IsCommand header call.command) (lane_calls lines)
  lanes-lawful earlier [] h = tt
  lanes-lawful earlier (Do _ ∷ lines) h = tt
  lanes-lawful earlier (Run _ ∷ lines) h = tt
  lanes-lawful earlier (Freewheel _ ∷ lines) h = tt
  lanes-lawful earlier (Period _ ∷ lines) h = tt
  lanes-lawful earlier (Lane lane begun command ∷ lines) h =
      let b : IsBody header earlier (Lane lane begun command) = first-body earlier (Lane lane begun command) lines h in
      (b.3, lanes-lawful (earlier ++ Lane lane begun command ∷ []) lines (AreBodies-rest header earlier (Lane lane begun command) lines h))

  with_do-lawful : (command : Command) (phs : List Phase) → IsCommand header command → Each (HasLawful header) phs → Each (HasLawful header) (with_do command phs)
  with_do-lawful command [] c h = tt
  with_do-lawful command (phase ∷ phs) c h = (((c, h.0.0), h.0.1), h.1)

  phases-lawful : (lines earlier : List Body) (period : ℕ) → AreBodies header earlier lines → Each (HasLawful header) (phases_of period lines)
  phases-lawful [] earlier period h = ((tt, tt), tt)
  phases-lawful (Do command ∷ lines) earlier period h =
      with_do-lawful command (phases_of period lines) (first-body earlier (Do command) lines h) (phases-lawful lines (earlier ++ Do command ∷ []) period (AreBodies-rest header earlier (Do command) lines h))
  phases-lawful (Run cycles ∷ lines) earlier period h =
      let rest : AreBodies header (earlier ++ Run cycles ∷ []) lines = AreBodies-rest header earlier (Run cycles) lines h in
      ((tt, lanes-lawful (earlier ++ Run cycles ∷ []) lines rest), phases-lawful lines (earlier ++ Run cycles ∷ []) period rest)
  phases-lawful (Freewheel cycles ∷ lines) earlier period h =
      let rest : AreBodies header (earlier ++ Freewheel cycles ∷ []) lines = AreBodies-rest header earlier (Freewheel cycles) lines h in
      ((tt, lanes-lawful (earlier ++ Freewheel cycles ∷ []) lines rest), phases-lawful lines (earlier ++ Freewheel cycles ∷ []) period rest)
  phases-lawful (Lane lane begun command ∷ lines) earlier period h = phases-lawful lines (earlier ++ Lane lane begun command ∷ []) period (AreBodies-rest header earlier (Lane lane begun command) lines h)
  phases-lawful (Period next ∷ lines) earlier period h = phases-lawful lines (earlier ++ Period next ∷ []) next (AreBodies-rest header earlier (Period next) lines h)

  uncounted-lawful : (phs : List Phase) (index base : ℕ) → Each (HasLawful header) phs → Each (λ (u : Uncounted). IsCommand header u.command) (uncounted index base phs)
  uncounted-lawful [] index base h = tt
  uncounted-lawful (phase ∷ phs) index base h =
      Each-append (λ (u : Uncounted). IsCommand header u.command) (dos_of index phase ++ calls_at index base phase) (uncounted (index + 1) (base + phase.cycles) phs)
      (Each-append (λ (u : Uncounted). IsCommand header u.command) (dos_of index phase) (calls_at index base phase)
      (Each-map (λ (u : Uncounted). IsCommand header u.command) (λ (command : Command). record { lane = 0; command = command; stage = 2 * index; asked = 0 }) phase.dos h.0.0)
      (Each-map (λ (u : Uncounted). IsCommand header u.command) (λ (call : LaneCall). record { lane = call.lane; command = call.command; stage = 2 * index + 1; asked = base + call.begun }) phase.calls h.0.1))
      (uncounted-lawful phs (index + 1) (base + phase.cycles) h.1)

pub planned-lawful : (script : Script) → IsScript script → (plan : Planned) → Contains (planned script) plan → IsCommand script.header plan.call.command
planned-lawful script is plan there =
    Each-contains (λ (p : Planned). IsCommand script.header p.call.command) (planned script) plan
    (Each-counted (λ (u : Uncounted). IsCommand script.header u.command) [] (uncounted 0 0 (phases script)) (uncounted-lawful script.header (phases script) 0 0 (phases-lawful script.header script.lines [] script.header.period is.lines))) there

pub counted-length : (earlier us : List Uncounted) → length (counted earlier us) ≡ length us
counted-length earlier [] = refl
counted-length earlier (u ∷ us) = ap suc (counted-length (earlier ++ u ∷ []) us)

-- so many calls of some phases
abbrev pub calls_in : List Phase → ℕ
calls_in [] = 0
calls_in (phase ∷ phs) = length phase.dos + length phase.calls + calls_in phs

pub uncounted-length : (phs : List Phase) (index base : ℕ) → length (uncounted index base phs) ≡ calls_in phs
uncounted-length [] index base = refl
uncounted-length (phase ∷ phs) index base =
    let dos : length (dos_of index phase) ≡ length phase.dos = length-mapped (λ (command : Command). record { lane = 0; command = command; stage = 2 * index; asked = 0 }) phase.dos in
    let calls : length (calls_at index base phase) ≡ length phase.calls = length-mapped (λ (call : LaneCall). record { lane = call.lane; command = call.command; stage = 2 * index + 1; asked = base + call.begun }) phase.calls in
    let rest : length (uncounted (index + 1) (base + phase.cycles) phs) ≡ calls_in phs = uncounted-length phs (index + 1) (base + phase.cycles) in
    let first : length (dos_of index phase ++ calls_at index base phase) ≡ length (dos_of index phase) + length (calls_at index base phase) = length-append (dos_of index phase) (calls_at index base phase) in
    let all : length (dos_of index phase ++ calls_at index base phase ++ uncounted (index + 1) (base + phase.cycles) phs) ≡ length (dos_of index phase ++ calls_at index base phase) + length (uncounted (index + 1) (base + phase.cycles) phs) =
    length-append (dos_of index phase ++ calls_at index base phase) (uncounted (index + 1) (base + phase.cycles) phs) in
    omega (arith, dos, calls, rest, first, all)

pub calls-within : (lines : List Body) (period : ℕ) → calls_in (phases_of period lines) + length (lane_calls lines) ≤ count_by is_call lines
calls-within [] period = omega arith
calls-within (Do command ∷ lines) period =
    let sum : count_by is_call (Do command ∷ lines) ≡ 1 + count_by is_call lines = sum_by-cons (λ (l : Body). cond (is_call l) 1 0) (Do command) lines in
    let rest = calls-within lines period in
    omega (arith, sum, rest, more (phases_of period lines))
  where
    more : (phs : List Phase) → calls_in (with_do command phs) ≤ 1 + calls_in phs
    more [] = omega arith
    more (phase ∷ phs) = omega arith
calls-within (Run cycles ∷ lines) period =
    let sum : count_by is_call (Run cycles ∷ lines) ≡ 0 + count_by is_call lines = sum_by-cons (λ (l : Body). cond (is_call l) 1 0) (Run cycles) lines in
    let rest = calls-within lines period in
    omega (arith, sum, rest)
calls-within (Freewheel cycles ∷ lines) period =
    let sum : count_by is_call (Freewheel cycles ∷ lines) ≡ 0 + count_by is_call lines = sum_by-cons (λ (l : Body). cond (is_call l) 1 0) (Freewheel cycles) lines in
    let rest = calls-within lines period in
    omega (arith, sum, rest)
calls-within (Lane lane begun command ∷ lines) period =
    let sum : count_by is_call (Lane lane begun command ∷ lines) ≡ 1 + count_by is_call lines = sum_by-cons (λ (l : Body). cond (is_call l) 1 0) (Lane lane begun command) lines in
    let rest = calls-within lines period in
    omega (arith, sum, rest)
calls-within (Period next ∷ lines) period =
    let sum : count_by is_call (Period next ∷ lines) ≡ 0 + count_by is_call lines = sum_by-cons (λ (l : Body). cond (is_call l) 1 0) (Period next) lines in
    let rest = calls-within lines next in
    omega (arith, sum, rest)

pub planned-few : (script : Script) → IsScript script → length (planned script) ≤ 4096
planned-few script is =
    let size : length (planned script) ≡ length (uncounted 0 0 (phases script)) = counted-length [] (uncounted 0 0 (phases script)) in
    let count : length (uncounted 0 0 (phases script)) ≡ calls_in (phases script) = uncounted-length (phases script) 0 0 in
    let within = calls-within script.lines script.header.period in
    let few = is.few_calls in
    omega (arith, size, count, within, few)
