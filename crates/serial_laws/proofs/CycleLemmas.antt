-- Where a session in serial mode is behind the front of a phase, and behind each of its cycles.
--     SerialAt-begun, SerialKept-begun      the front of a phase
--     SerialAt-turned, SerialKept-turned      a cycle of it
use Rattle.std.proofs.Common.{◌≡◌, ℕ, suc, ◌+◌, ◌<◌, Bool, true, false, length, slice_get, IsNone, Some, sym, ◌∙◌, ap, subst, arith}
use Rattle.session_model.specs.Explanations.{Given}
use Rattle.session_model.specs.Scripts.{Phase, Script, ScriptCycle, phases, turns}
use Rattle.driver_words.specs.Rings.{Getting, Sending}
use Rattle.run_laws.specs.driver_laws.specs.Drivers.{run, turn_of}
use Rattle.run_laws.specs.driver_laws.specs.Segments.{cycles_before}
use Rattle.run_laws.specs.serial_lanes.specs.Lanes.{BehindPhases, SerialDesk}
use Rattle.run_laws.specs.Runs.{PlaysAll}
use Rattle.run_laws.specs.SerialRuns.{DisksSerial, RingSerial, SerialAt, SerialBehind, SerialKept, SerialSoFar}
use Rattle.run_laws.specs.Sessions.{IsFor, Session}
use Rattle.disk_runs.proofs.AloneLemmas.{DisksSerial-alone, PlaysAll-alone}
use Rattle.serial_laws.specs.Steps.{AreExact, Begun, Emptied, IsSettled, IsSound, KeepsOwn, Turned}
use Rattle.serial_laws.proofs.ReelLemmas.{Disks, Lists, disks-met, disks-rounded, disks_of, lists-met, lists-rounded, lists_of}

-- ---- between the words of the steps and those of the run

AreExact-so_far : (session : Session) → SerialSoFar session → AreExact session
AreExact-so_far session so_far = record { numbers = so_far.numbers; rows = so_far.rows; met = so_far.met }

SerialSoFar-exact : (session : Session) → IsNone session.script.header.threads → IsSound session → AreExact session → SerialSoFar session
SerialSoFar-exact session serial sound exact = record {
  one = sound.one;
  serial = serial;
  numbers = exact.numbers;
  rows = exact.rows;
  met = exact.met;
  misses = sound.misses;
  files = sound.files;
}

-- each recorder's counts are those of the definition
abbrev AreSerial : Session → Type 0
AreSerial session = (recorder : ℕ) (ring : Sending) (got : Getting) → slice_get session.driver.rings recorder ≡ Some ring → slice_get session.getting recorder ≡ Some got → RingSerial session recorder ring got

SerialKept-own : (given : Given) (session : Session) → KeepsOwn given session → AreSerial session → PlaysAll given session → DisksSerial given session → SerialKept given session
SerialKept-own given session own rings plays turned = record {
  own = own.own;
  keeps = own.keeps;
  rings = rings;
  plays = plays;
  turned = turned;
}

KeepsOwn-kept : (given : Given) (session : Session) → SerialKept given session → KeepsOwn given session
KeepsOwn-kept given session kept = record { own = kept.own; keeps = kept.keeps }

-- ---- the front of a phase

-- its steps leave the script
script-begun : (done : ℕ) (session after : Session) → Begun done session after → after.script ≡ session.script
script-begun done session after begun =
    ap (λ (s : Session). s.script) begun.meets_again.same
    ∙ ap (λ (s : Session). s.script) begun.rounds.same
    ∙ ap (λ (s : Session). s.script) begun.meets.same
    ∙ ap (λ (s : Session). s.script) begun.group_same

-- what the laws of its parts say
abbrev BegunSound : Type 0
BegunSound = (done : ℕ) (session after : Session) → IsSound session → Begun done session after → IsSound after

abbrev BegunKeeps : Type 0
BegunKeeps = (given : Given) (done : ℕ) (session after : Session) → Begun done session after → KeepsOwn given session → KeepsOwn given after

abbrev BegunExact : Type 0
BegunExact = (session after : Session) (done : ℕ) (phase : Phase) → slice_get (phases session.script) done ≡ Some phase → run session.driver ≡ cycles_before session.script done
    → IsSound session → BehindPhases session.desk done → Begun done session after → AreExact session → AreExact after

abbrev BegunDesk : Type 0
BegunDesk = (session after : Session) (done : ℕ) (phase : Phase) → slice_get (phases session.script) done ≡ Some phase → run session.driver ≡ cycles_before session.script done
    → IsSound session → BehindPhases session.desk done → Begun done session after → AreExact session → SerialDesk after.desk done 1

abbrev BegunRuns : Type 0
BegunRuns = (session after : Session) (done : ℕ) → Begun done session after → run after.driver ≡ run session.driver

abbrev BegunCounts : Type 0
BegunCounts = (session after : Session) (done : ℕ) → Begun done session after → AreSerial session → AreSerial after

pub SerialAt-begun : BegunExact → BegunDesk → BegunRuns → BegunSound → (session after : Session) (done : ℕ) (phase : Phase) → slice_get (phases session.script) done ≡ Some phase
    → IsSound session → SerialBehind session done → Begun done session after → SerialAt after done 0 1
SerialAt-begun exact_behind desk_behind same_cycles sound_behind session after done phase there sound behind begun =
    let exact : AreExact session = AreExact-so_far session behind.so_far in
    let runs : run after.driver ≡ run session.driver = same_cycles session after done begun in
    let cycles : cycles_before session.script done ≡ cycles_before after.script done = ap (λ (s : Script). cycles_before s done) (sym (script-begun done session after begun)) in
    record {
      so_far = SerialSoFar-exact after (subst (λ (s : Script). IsNone s.header.threads) (sym (script-begun done session after begun)) behind.so_far.serial) (sound_behind done session after sound begun) (exact_behind session after done phase there behind.cycles_are sound behind.desk begun exact);
      desk = desk_behind session after done phase there behind.cycles_are sound behind.desk begun exact;
      cycles_are = omega (arith, runs, behind.cycles_are, cycles);
    }

-- the front of a phase leaves the disks alone
players-begun : (done : ℕ) (session after : Session) → Begun done session after → after.players ≡ session.players
players-begun done session after begun =
    ap (λ (s : Session). s.players) begun.meets_again.same
    ∙ ap (λ (s : Session). s.players) begun.rounds.same
    ∙ ap (λ (s : Session). s.players) begun.meets.same
    ∙ ap (λ (s : Session). s.players) begun.group_same

DisksSerial-begun : (given : Given) (done : ℕ) (session after : Session) → Begun done session after → DisksSerial given session → DisksSerial given after
DisksSerial-begun given done session after begun =
    let lists : lists_of after ≡ lists_of session =
    lists-met begun.rounded after begun.meets_again ∙ lists-rounded begun.met begun.rounded begun.rounds ∙ lists-met begun.grouped begun.met begun.meets ∙ ap lists_of begun.group_same in
    let disks : disks_of after ≡ disks_of session =
    disks-met begun.rounded after begun.meets_again ∙ disks-rounded begun.met begun.rounded begun.rounds ∙ disks-met begun.grouped begun.met begun.meets ∙ ap disks_of begun.group_same in
    DisksSerial-alone session after given (ap (λ (d : Disks). d.players) disks) (ap (λ (d : Disks). d.disks) disks) (ap (λ (l : Lists). l.numbers) lists) (ap (λ (l : Lists). l.underruns) lists)

pub SerialKept-begun : BegunCounts → BegunKeeps → (given : Given) (session after : Session) (done : ℕ) → Begun done session after → SerialKept given session → SerialKept given after
SerialKept-begun counts_behind keeps_behind given session after done begun kept =
    SerialKept-own given after (keeps_behind given done session after begun (KeepsOwn-kept given session kept)) (counts_behind session after done begun kept.rings)
    (PlaysAll-alone session after given (players-begun done session after begun) kept.plays) (DisksSerial-begun given done session after begun kept.turned)

-- ---- a cycle

-- what leaves the rings before it leaves the script
script-emptied : (freewheel : Bool) (session after : Session) → Emptied freewheel session after → after.script ≡ session.script
script-emptied true session after empties = ap (λ (s : Session). s.script) empties.same
script-emptied false session after empties = ap (λ (s : Session). s.script) empties

script-turned : (freewheel : Bool) (session after : Session) → Turned freewheel session after → after.script ≡ session.script
script-turned freewheel session after turned =
    ap (λ (s : Session). s.script) turned.meets_again.same
    ∙ ap (λ (s : Session). s.script) turned.rounds.same
    ∙ ap (λ (s : Session). s.script) turned.meets.same
    ∙ ap (λ (s : Session). s.script) turned.drains.same
    ∙ ap (λ (s : Session). s.script) turned.tells.same
    ∙ ap (λ (s : Session). s.script) turned.cycles.same
    ∙ ap (λ (s : Session). s.script) turned.reads.same
    ∙ script-emptied freewheel session turned.emptied turned.empties

-- what the laws of its parts say
abbrev CyclesThere : Type 0
CyclesThere = (script : Script) (done t : ℕ) (phase : Phase) → slice_get (phases script) done ≡ Some phase → t < phase.cycles → cycles_before script done + t < length (turns script)

abbrev CyclesAre : Type 0
CyclesAre = (script : Script) (done t : ℕ) (phase : Phase) → slice_get (phases script) done ≡ Some phase → t < phase.cycles
    → turn_of script (cycles_before script done + t + 1) ≡ record { period = phase.period; is_freewheel = phase.is_freewheel; phase = done }

abbrev TurnedSettled : Type 0
TurnedSettled = (freewheel : Bool) (session after : Session) → IsSettled session → run session.driver < length (turns session.script)
    → (turn_of session.script (run session.driver + 1)).is_freewheel ≡ freewheel → Turned freewheel session after → IsSettled after

abbrev TurnedKeeps : Type 0
TurnedKeeps = (given : Given) (freewheel : Bool) (session after : Session) → IsSettled session → run session.driver < length (turns session.script)
    → (turn_of session.script (run session.driver + 1)).is_freewheel ≡ freewheel → Turned freewheel session after → KeepsOwn given session → KeepsOwn given after

abbrev TurnedExact : Type 0
TurnedExact = (freewheel : Bool) (session after : Session) (done t : ℕ) (phase : Phase) → slice_get (phases session.script) done ≡ Some phase → t < phase.cycles
    → run session.driver ≡ cycles_before session.script done + t → IsSettled session → SerialDesk session.desk done (suc t) → Turned freewheel session after → AreExact session → AreExact after

abbrev TurnedDesk : Type 0
TurnedDesk = (freewheel : Bool) (session after : Session) (done t : ℕ) (phase : Phase) → slice_get (phases session.script) done ≡ Some phase → t < phase.cycles
    → run session.driver ≡ cycles_before session.script done + t → IsSettled session → SerialDesk session.desk done (suc t) → Turned freewheel session after → AreExact session → SerialDesk after.desk done (suc (suc t))

abbrev TurnedRuns : Type 0
TurnedRuns = (freewheel : Bool) (session after : Session) → Turned freewheel session after → run after.driver ≡ run session.driver + 1

abbrev TurnedCounts : Type 0
TurnedCounts = (given : Given) (freewheel : Bool) (session after : Session) → IsSettled session → run session.driver < length (turns session.script)
    → (turn_of session.script (run session.driver + 1)).is_freewheel ≡ freewheel → Turned freewheel session after → AreExact after → IsFor session given → DisksSerial given session
    → AreSerial session → AreSerial after

abbrev TurnedDisks : Type 0
TurnedDisks = (given : Given) (freewheel : Bool) (session after : Session) → IsSettled session → run session.driver < length (turns session.script)
    → (turn_of session.script (run session.driver + 1)).is_freewheel ≡ freewheel → Turned freewheel session after → AreExact after → IsFor session given → DisksSerial given session → DisksSerial given after

abbrev TurnedPlays : Type 0
TurnedPlays = (given : Given) (freewheel : Bool) (session after : Session) → IsSettled session → run session.driver < length (turns session.script)
    → (turn_of session.script (run session.driver + 1)).is_freewheel ≡ freewheel → Turned freewheel session after → PlaysAll given session → PlaysAll given after

module _ (there : CyclesThere) (are : CyclesAre) (exact_behind : TurnedExact) (settled_behind : TurnedSettled) (session after : Session) (done t : ℕ) (phase : Phase) (phase_there : slice_get (phases session.script) done ≡ Some phase)
    (early : t < phase.cycles) (settled : IsSettled session) (at : SerialAt session done t (suc t)) (turned : Turned phase.is_freewheel session after) where
  -- it is the script's next cycle, and of the phase's kind
  is_left : run session.driver < length (turns session.script)
  is_left = subst (λ n. n < length (turns session.script)) (sym at.cycles_are) (there session.script done t phase phase_there early)

  kind_is : (turn_of session.script (run session.driver + 1)).is_freewheel ≡ phase.is_freewheel
  kind_is = ap (λ n. (turn_of session.script (n + 1)).is_freewheel) at.cycles_are ∙ ap (λ (turn : ScriptCycle). turn.is_freewheel) (are session.script done t phase phase_there early)

  exact : AreExact session
  exact = AreExact-so_far session at.so_far

  exact_after : AreExact after
  exact_after = exact_behind phase.is_freewheel session after done t phase phase_there early at.cycles_are settled at.desk turned exact

  sound_after : IsSound after
  sound_after = (settled_behind phase.is_freewheel session after settled is_left kind_is turned).sound

  pub SerialAt-turned : TurnedDesk → TurnedRuns → SerialAt after done (suc t) (suc (suc t))
  SerialAt-turned desk_behind one_more =
      let runs : run after.driver ≡ run session.driver + 1 = one_more phase.is_freewheel session after turned in
      let cycles : cycles_before session.script done ≡ cycles_before after.script done = ap (λ (s : Script). cycles_before s done) (sym (script-turned phase.is_freewheel session after turned)) in
      record {
        so_far = SerialSoFar-exact after (subst (λ (s : Script). IsNone s.header.threads) (sym (script-turned phase.is_freewheel session after turned)) at.so_far.serial) sound_after exact_after;
        desk = desk_behind phase.is_freewheel session after done t phase phase_there early at.cycles_are settled at.desk turned exact;
        cycles_are = omega (arith, runs, at.cycles_are, cycles);
      }

  pub SerialKept-turned : TurnedKeeps → TurnedCounts → TurnedDisks → TurnedPlays → (given : Given) → SerialKept given session → SerialKept given after
  SerialKept-turned keeps_behind counts_behind disks_behind plays_behind given kept =
      SerialKept-own given after (keeps_behind given phase.is_freewheel session after settled is_left kind_is turned (KeepsOwn-kept given session kept))
      (counts_behind given phase.is_freewheel session after settled is_left kind_is turned exact_after kept.own kept.turned kept.rings)
      (plays_behind given phase.is_freewheel session after settled is_left kind_is turned kept.plays)
      (disks_behind given phase.is_freewheel session after settled is_left kind_is turned exact_after kept.own kept.turned)
