-- The run of a session in serial mode, between its segments and behind all.
--     SerialBehind-phase      behind the last round of a phase
--     history-behind, numbers-behind, RanPhases-behind      behind all phases
--     AtPhase-behind, overruns-behind      and of what was given
use Rattle.std.proofs.Common.{◌≡◌, ℕ, zero, suc, ◌+◌, ◌<◌, List, [], ◌∷◌, length, take, slice_get, IsSome, Some, sym, ◌∙◌, ap, subst, arith, true≢false, sum_by}
use Rattle.std.specs.List.Sorted.{IsNonDecreasing}
use Rattle.std.proofs.Math.Seq.{take-length}
use Rattle.std.proofs.lemmas.List.Sums.{sum_by-cons}
use Rattle.std.proofs.lemmas.Option.{none-some, slice_get_within}
use Rattle.session_model.specs.Explanations.{Given}
use Rattle.session_model.specs.Grammar.{IsScript}
use Rattle.session_model.specs.Histories.{Cycles}
use Rattle.session_model.specs.Scripts.{Phase, Script, phases, turns}
use Rattle.session_model.specs.Serial.{serial, serial_history, serial_numbers, serial_overruns, counts, serial_course}
use Rattle.disk_player.specs.Playing.{Playing}
use Rattle.serial_lanes.specs.control_desk.specs.Laws.{OfCallsAccepted}
use Rattle.driver_laws.specs.Drivers.{overruns_on}
use Rattle.driver_laws.specs.Keeping.{Fits}
use Rattle.serial_lanes.specs.Laws.{BehindAll, BehindLastRound, CyclesTotal}
use Rattle.serial_lanes.specs.Lanes.{BehindPhases}
use Rattle.run_laws.specs.Runs.{AreWithin, AtPhase, DisksAtRest, RanPhases}
use Rattle.run_laws.specs.SerialRuns.{SerialAt, SerialBehind, SerialKept}
use Rattle.run_laws.specs.Sessions.{Session, course_in, printed_of}
use Rattle.run_laws.proofs.CourseLemmas.{Fits-met, FitsDisk-rest}
use Rattle.run_laws.proofs.PlaceLemmas.{map-below, some_at}

some-same : {X : Type 0} (x y : X) → Some x ≡ Some y → x ≡ y
some-same x y e = cc

-- one phase more
cycles-next : (phs : List Phase) (done : ℕ) (phase : Phase) → slice_get phs done ≡ Some phase
    → sum_by (λ (p : Phase). p.cycles) (take (suc done) phs) ≡ sum_by (λ (p : Phase). p.cycles) (take done phs) + phase.cycles
cycles-next [] done phase e = absurd (none-some phase e)
cycles-next (p ∷ phs) zero phase e =
    let cycles : p.cycles ≡ phase.cycles = ap (λ (q : Phase). q.cycles) (some-same p phase e) in
    let one : sum_by (λ (q : Phase). q.cycles) (p ∷ []) ≡ p.cycles + 0 = sum_by-cons (λ (q : Phase). q.cycles) p [] in
    omega (arith, cycles, one)
cycles-next (p ∷ phs) (suc done) phase e =
    let more = cycles-next phs done phase e in
    omega (arith, sum_by-cons (λ (q : Phase). q.cycles) p (take (suc done) phs), sum_by-cons (λ (q : Phase). q.cycles) p (take done phs), more)

pub SerialBehind-phase : BehindLastRound → (session : Session) (done : ℕ) (phase : Phase) → slice_get (phases session.script) done ≡ Some phase → SerialAt session done phase.cycles (phase.cycles + 1) → SerialBehind session (suc done)
SerialBehind-phase last session done phase there at =
    let one = at.so_far.one in
    record {
      so_far = at.so_far;
      desk = last session.desk done phase (subst IsScript (sym one.desk_script) one.lawful) (subst (λ (s : Script). slice_get (phases s) done ≡ Some phase) (sym one.desk_script) there) at.desk;
      cycles_are = at.cycles_are ∙ sym (cycles-next (phases session.script) done phase there);
    }

-- the numbers of serial mode are within their bounds
abbrev pub SerialIsLegal : Type 0
SerialIsLegal = (script : Script) → IsScript script → Cycles script (serial script).history (serial script).numbers

pub history-behind : BehindAll → (session : Session) → SerialBehind session (length (phases session.script)) → session.desk.history ≡ (serial session.script).history
history-behind all session behind =
    let same : session.desk.script ≡ session.script = behind.so_far.one.desk_script in
    all session.desk (subst (λ (s : Script). BehindPhases session.desk (length (phases s))) (sym same) behind.desk) ∙ ap serial_history same

pub numbers-behind : SerialIsLegal → CyclesTotal → (session : Session) → SerialBehind session (length (phases session.script)) → session.driver.numbers ≡ (serial session.script).numbers
numbers-behind legal total session behind =
    let each : length (serial_numbers session.script) ≡ length (turns session.script) = (legal session.script behind.so_far.one.lawful).each in
    behind.so_far.numbers ∙ ap (λ n. take n (serial_numbers session.script)) (behind.cycles_are ∙ total session.script ∙ sym each) ∙ take-length (serial_numbers session.script)

pub RanPhases-behind : BehindAll → SerialIsLegal → CyclesTotal → (session : Session) → SerialBehind session (length (phases session.script)) → RanPhases session (length (phases session.script))
RanPhases-behind all legal total session behind =
    let lawful : Cycles session.script (serial session.script).history (serial session.script).numbers = legal session.script behind.so_far.one.lawful in
    let numbers : (serial session.script).numbers ≡ session.driver.numbers = sym (numbers-behind legal total session behind) in
    record {
      one = behind.so_far.one;
      phase = behind.desk.phase;
      used = behind.desk.used;
      cycles = behind.cycles_are;
      met = behind.so_far.met;
      rising = subst IsNonDecreasing numbers lawful.rising;
      within = subst (λ ns. AreWithin session.script session.desk.history ns) numbers
          (subst (λ h. AreWithin session.script h (serial session.script).numbers) (sym (history-behind all session behind)) lawful.bounds);
      misses = behind.so_far.misses;
    }

player_there : (session : Session) → SerialBehind session (length (phases session.script)) → (disk : ℕ) → disk < length session.script.header.disks → (player : Playing) × (slice_get session.players disk ≡ Some player)
player_there session behind disk h = some_at session.players disk (subst (λ n. disk < n) (sym behind.so_far.one.disk_ends) h)

Fits-behind : OfCallsAccepted → (session : Session) (given : Given) → SerialBehind session (length (phases session.script)) → SerialKept given session → DisksAtRest given session → Fits session.driver (course_in given session)
Fits-behind of_calls session given behind kept rest = Fits-met of_calls session given behind.so_far.one kept.own behind.so_far.met.met
    (λ disk got there.
    let as_many : length session.driver.disks ≡ length session.script.header.disks = behind.so_far.one.rings.disks ∙ ap (λ (s : Script). length s.header.disks) behind.so_far.one.driver_script in
    let low : disk < length session.driver.disks = slice_get_within session.driver.disks disk got there in
    let player = player_there session behind disk (subst (λ n. disk < n) as_many low) in
    FitsDisk-rest session given disk player.0.sending got (rest disk player.0 got player.1 there))

pub AtPhase-behind : OfCallsAccepted → BehindAll → SerialIsLegal → CyclesTotal → (session : Session) (given : Given) → SerialBehind session (length (phases session.script)) → SerialKept given session → DisksAtRest given session
    → AtPhase session given (length (phases session.script))
AtPhase-behind of_calls all legal total session given behind kept rest = record {
  ran = RanPhases-behind all legal total session behind;
  given_kept = record { own = kept.own; fits = Fits-behind of_calls session given behind kept rest; keeps = kept.keeps };
  files = behind.so_far.files;
  rings = λ threads. absurd (no_threads threads);
  plays = kept.plays;
  disks = rest;
  misses = λ threads. absurd (no_threads threads);
}
  where
    no_threads : IsSome session.script.header.threads → ⊥
    no_threads threads = true≢false (sym threads ∙ behind.so_far.serial)

-- the overruns are those of serial mode
pub overruns-behind : CyclesTotal → (session : Session) (given : Given) → SerialBehind session (length (phases session.script)) → SerialKept given session → (printed_of session).overruns ≡ (serial session.script).overruns
overruns-behind total session given behind kept = map-below (overruns_on session.driver.overruns) (serial_overruns session.script) (length session.script.header.recorders) (λ recorder h.
    let as_many : length session.driver.rings ≡ length session.script.header.recorders = behind.so_far.one.rings.recorders ∙ ap (λ (s : Script). length s.header.recorders) behind.so_far.one.driver_script in
    let ring = some_at session.driver.rings recorder (subst (λ n. recorder < n) (sym as_many) h) in
    let got = some_at session.getting recorder (subst (λ n. recorder < n) (sym behind.so_far.one.recorder_ends) h) in
    (kept.rings recorder ring.0 got.0 ring.1 got.1).losses ∙ ap (λ n. (counts (serial_course session.script) recorder n).losses) (behind.cycles_are ∙ total session.script))
