-- The bounds of what the transport shows.
--     moment-fits      the frame, and the bar, beat and tick
use Rattle.std.proofs.Common.{ℕ, zero, suc, ◌+◌, ◌-◌, ◌*◌, ◌/◌, ◌%◌, ◌≤◌, Bool, true, false, cond, List, [], ◌∷◌, ◌++◌, fold, take, drop, replicate, Option, Some, None, option_map, refl, arith}
use native.Mathlib.Nat.{div-mul-le_self, div-le_self, mod-le, mul-le-mul, mul-le-mul_left}
use Rattle.jack_types.specs.declared.commands.Change.{Change}
use Rattle.jack_types.specs.declared.commands.Command.{Command}
use Rattle.jack_types.specs.declared.commands.Command.TheVariants.{Open, Close, Activate, Deactivate, Register, Unregister, Connect, Disconnect, Start, Stop, Locate, Timeout, Slow, Timebase, TimebaseIf, Release, Latency}
use Rattle.jack_types.specs.declared.moments.TransportState.{TransportState}
use Rattle.jack_types.specs.declared.moments.TransportState.TheVariants.{Stopped, Rolling, Starting}
use Rattle.jack_types.specs.declared.scripts.Body.{Body}
use Rattle.jack_types.specs.declared.scripts.Body.TheVariants.{Do, Run, Freewheel, Lane, Period}
use Rattle.jack_types.specs.declared.scripts.Header.{Header}
use Rattle.session_model.specs.Courses.{Course, no_turn, number, adopted, period, graph, first_state}
use Rattle.session_model.specs.Grammar.{IsScript, IsCommand, IsTempo, IsPeriod, periods}
use Rattle.session_model.specs.Scripts.{Script, Phase, ScriptCycle, phases, phases_of, with_do, turns, turns_from}
use Rattle.session_model.specs.State.{Master, is_active_in}
use Rattle.session_model.specs.Tempo.{bbt, ticks_at}
use Rattle.session_model.specs.Transport.{Row, row, next_frame, asked_frame, moment, active_master}
use Rattle.grammar_laws.specs.session_laws.proofs.ListLemmas.{Each, Each-append, Each-contains, Each-drop}
use Rattle.grammar_laws.specs.session_laws.proofs.SerialLawfulLemmas.{AreBodies, AreBodies-rest}
use Rattle.check_model.specs.Checking.{IsBbtForm}
use Rattle.check_laws.proofs.StateFits.{AreCommands, MasterFits, Each-take, Each-get, replay-fits, opening-fits}

-- ---- periods

period-low : (p : ℕ) → IsPeriod p → p ≤ 4096
period-low p h = Each-contains (λ q. q ≤ 4096) periods p (omega arith, (omega arith, (omega arith, (omega arith, (omega arith, (omega arith, (omega arith, (omega arith, (omega arith, (omega arith, (omega arith, tt))))))))))) h

abbrev IsLow : Phase → Type 0
IsLow phase = phase.period ≤ 4096

with_do-low : (command : Command) (phs : List Phase) → Each IsLow phs → Each IsLow (with_do command phs)
with_do-low command [] h = tt
with_do-low command (phase ∷ phs) h = (h.0, h.1)

phases-low : (header : Header) (lines earlier : List Body) (period : ℕ) → period ≤ 4096 → AreBodies header earlier lines → Each IsLow (phases_of period lines)
phases-low header [] earlier period low h = (low, tt)
phases-low header (Do command ∷ lines) earlier period low h = with_do-low command (phases_of period lines) (phases-low header lines (earlier ++ Do command ∷ []) period low (AreBodies-rest header earlier (Do command) lines h))
phases-low header (Run cycles ∷ lines) earlier period low h = (low, phases-low header lines (earlier ++ Run cycles ∷ []) period low (AreBodies-rest header earlier (Run cycles) lines h))
phases-low header (Freewheel cycles ∷ lines) earlier period low h = (low, phases-low header lines (earlier ++ Freewheel cycles ∷ []) period low (AreBodies-rest header earlier (Freewheel cycles) lines h))
phases-low header (Lane lane begun command ∷ lines) earlier period low h = phases-low header lines (earlier ++ Lane lane begun command ∷ []) period low (AreBodies-rest header earlier (Lane lane begun command) lines h)
phases-low header (Period next ∷ lines) earlier period low h = phases-low header lines (earlier ++ Period next ∷ []) next (period-low next (h 0 (Period next) refl).2) (AreBodies-rest header earlier (Period next) lines h)

turns-low : (index : ℕ) (phs : List Phase) → Each IsLow phs → Each (λ (t : ScriptCycle). t.period ≤ 4096) (turns_from index phs)
turns-low index [] h = tt
turns-low index (phase ∷ phs) h =
    Each-append (λ (t : ScriptCycle). t.period ≤ 4096) (replicate phase.cycles (record { period = phase.period; is_freewheel = phase.is_freewheel; phase = index })) (turns_from (index + 1) phs) (run phase.cycles) (turns-low (index + 1) phs h.1)
  where
    run : (n : ℕ) → Each (λ (t : ScriptCycle). t.period ≤ 4096) (replicate n (record { period = phase.period; is_freewheel = phase.is_freewheel; phase = index }))
    run zero = tt
    run (suc n) = (h.0, run n)

-- ---- targets

abbrev TargetFits : Option ℕ → Type 0
TargetFits None = Unit {0}
TargetFits (Some frame) = frame ≤ 2147483647

target-step : (script : Script) (before : Option ℕ) (command : Command) → IsCommand script.header command → TargetFits before → TargetFits (asked_frame before command)
target-step script before (Open client kind) c h = h
target-step script before (Close client) c h = h
target-step script before (Activate client) c h = h
target-step script before (Deactivate client) c h = h
target-step script before (Register port way kind) c h = h
target-step script before (Unregister port) c h = h
target-step script before (Connect source destination) c h = h
target-step script before (Disconnect source destination) c h = h
target-step script before Start c h = h
target-step script before Stop c h = h
target-step script before (Locate frame) c h = c
target-step script before (Timeout cycles) c h = h
target-step script before (Slow client cycles) c h = h
target-step script before (Timebase client mbpm beats ticks) c h = h
target-step script before (TimebaseIf client mbpm beats ticks) c h = h
target-step script before (Release client) c h = h
target-step script before (Latency mode port) c h = h

targets-fit : (script : Script) (changes : List Change) (before : Option ℕ) → AreCommands script changes → TargetFits before → TargetFits (fold (λ now (change : Change). asked_frame now change.command) before changes)
targets-fit script [] before c h = h
targets-fit script (change ∷ changes) before c h = targets-fit script changes (asked_frame before change.command) c.1 (target-step script before change.command c.0 h)

-- ---- rows

record RowFits (k : ℕ) (r : Row) : Type 0 where
  pub frame : r.frame ≤ 2147483647 + 4096 * k
  pub period : r.period ≤ 4096
  pub target : TargetFits r.target

next_frame-fits : (k : ℕ) (r : Row) → RowFits k r → next_frame r ≤ 2147483647 + 4096 * suc k
next_frame-fits k r h = go r.target r.state h.target
  where
    go : (o : Option ℕ) (s : TransportState) → TargetFits o → next_frame (record { state = s; frame = r.frame; wait = r.wait; target = o; period = r.period }) ≤ 2147483647 + 4096 * suc k
    go (Some frame) s t = omega (arith, t)
    go None Rolling t = omega (arith, h.frame, h.period)
    go None Stopped t = omega (arith, h.frame)
    go None Starting t = omega (arith, h.frame)

module _ (course : Course) (script_is : IsScript course.script) (commands : AreCommands course.script course.changes) where
  pub period-fits : (k : ℕ) → period course k ≤ 4096
  period-fits k =
      Each-get (λ (t : ScriptCycle). t.period ≤ 4096) (no_turn ∷ turns course.script) k no_turn
      (omega arith, turns-low 0 (phases course.script) (phases-low course.script.header course.script.lines [] course.script.header.period (period-low course.script.header.period script_is.header.period) script_is.lines))
      (omega arith)

  row-fits : (k : ℕ) → RowFits k (row course k)
  row-fits zero = record { frame = omega arith; period = omega arith; target = tt }
  row-fits (suc k) = record {
    frame = next_frame-fits k (row course k) (row-fits k);
    period = period-fits (suc k);
    target = targets-fit course.script (adopted course (suc k)) None
        (Each-take (λ (change : Change). IsCommand course.script.header change.command) (number course (suc k) - number course (suc k - 1)) (drop (number course (suc k - 1)) course.changes)
        (Each-drop (λ (change : Change). IsCommand course.script.header change.command) (number course (suc k - 1)) course.changes commands)) tt;
  }

  pub frame-fits : (k : ℕ) → (moment course k).frame ≤ 2147483647 + 4096 * k
  frame-fits k = (row-fits k).frame

  -- ---- tempos

  graph-master : (k : ℕ) → MasterFits (graph course k).master
  graph-master k =
      (replay-fits course.script 16 (take (number course k) course.changes) (first_state course)
      (Each-take (λ (change : Change). IsCommand course.script.header change.command) (number course k) course.changes commands) (opening-fits course.script script_is)).master

  ticks-fit : (mbpm ticks frame rate : ℕ) → mbpm ≤ 999999 → ticks ≤ 9600 → frame ≤ 2147483647 + 4096 * 1000000 → 8000 ≤ rate → ticks_at mbpm ticks frame rate ≤ 1000000000000
  ticks-fit mbpm ticks frame rate hm ht hf hr =
      let x : ℕ = frame * mbpm * ticks in
      let d : ℕ = 60000 * rate in
      let low : x / d * d ≤ x = div-mul-le_self x d in
      let f : frame ≤ 6243483647 = omega (arith, hf) in
      let fm : frame * mbpm ≤ 6243483647 * 999999 = mul-le-mul {n₁ = frame} {m₁ = mbpm} {n₂ = 6243483647} {m₂ = 999999} f hm in
      let top : x ≤ 6243483647 * 999999 * 9600 = mul-le-mul {n₁ = frame * mbpm} {m₁ = ticks} {n₂ = 6243483647 * 999999} {m₂ = 9600} fm ht in
      let big : 480000000 ≤ d = omega (arith, hr) in
      let up : x / d * 480000000 ≤ x / d * d = mul-le-mul_left (x / d) big in
      let t : x / d * 480000000 ≤ 6243483647 * 999999 * 9600 = omega (arith, low, top, up) in
      omega (arith, t)

  bbt-form : (frame rate : ℕ) (master : Master) → frame ≤ 2147483647 + 4096 * 1000000 → 8000 ≤ rate → IsTempo master.mbpm master.beats master.ticks → IsBbtForm (Some (bbt master.mbpm master.beats master.ticks frame rate))
  bbt-form frame rate master hf hr tempo =
      let t : ℕ = ticks_at master.mbpm master.ticks frame rate in
      let low : t ≤ 1000000000000 = ticks-fit master.mbpm master.ticks frame rate tempo.mbpm_in.1 tempo.ticks_in.1 hf hr in
      let a : t / master.ticks ≤ t = div-le_self t master.ticks in
      let b : t / master.ticks / master.beats ≤ t / master.ticks = div-le_self (t / master.ticks) master.beats in
      let c : t / master.ticks % master.beats ≤ t / master.ticks = mod-low (t / master.ticks) master.beats in
      let e : t % master.ticks ≤ t = mod-low t master.ticks in
      (omega (arith, low, a, b), omega (arith, low, a, c), omega (arith, low, e))
    where
      mod-low : (m n : ℕ) → m % n ≤ m
      mod-low m n = mod-le m n

  pub moment-bbt : (k : ℕ) → k ≤ 1000000 → IsBbtForm (moment course k).bbt
  moment-bbt k h = go (graph course k).master (graph-master k)
    where
      frame-low : (moment course k).frame ≤ 2147483647 + 4096 * 1000000
      frame-low = omega (arith, frame-fits k, h)

      go : (o : Option Master) → MasterFits o → IsBbtForm (option_map (λ (master : Master). bbt master.mbpm master.beats master.ticks (row course k).frame course.script.header.rate) (active_master (record (graph course k) { master = o })))
      go None fits = tt
      go (Some master) fits = active (is_active_in (graph course k) master.client)
        where
          active : (b : Bool) → IsBbtForm (option_map (λ (m : Master). bbt m.mbpm m.beats m.ticks (row course k).frame course.script.header.rate) (cond b (Some master) None))
          active true = bbt-form (row course k).frame course.script.header.rate master frame-low script_is.header.rate.0 fits
          active false = tt
