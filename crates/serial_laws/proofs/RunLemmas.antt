-- A serial session behind its last phase.
--     Runs-serial      its lists, its overruns, its underruns and all that was kept are those of serial mode
use Rattle.std.proofs.Common.{◌≡◌, ℕ, ◌<◌, length, IsNone, sym, ◌∙◌, ap, subst}
use Rattle.session_model.specs.Disks.{IsSerial, Played}
use Rattle.session_model.specs.Explanations.{Given}
use Rattle.session_model.specs.Recorders.{Lost}
use Rattle.session_model.specs.Scripts.{Script, phases, turns}
use Rattle.session_model.specs.Serial.{serial, serial_underruns}
use Rattle.run_laws.specs.driver_laws.specs.Drivers.{overruns_on, run}
use Rattle.run_laws.specs.serial_lanes.specs.Laws.{CyclesTotal}
use Rattle.run_laws.specs.Runs.{AtPhase, DisksAtRest, PlaysAll, RanPhases}
use Rattle.run_laws.specs.SerialRuns.{DisksSerial, SerialBehind, SerialKept}
use Rattle.run_laws.specs.Sessions.{IsFor, IsGiven, IsOne, Session, course_in, printed_of}
use Rattle.run_laws.specs.Told.{HasLists, Runs}
use Rattle.disk_runs.specs.Rests.{DisksTell}
use Rattle.serial_laws.specs.Steps.{IsSettled}

-- what the laws of serial mode say of a session behind all phases
pub record SerialEnds : Type 0 where
  pub history : (session : Session) → SerialBehind session (length (phases session.script)) → session.desk.history ≡ (serial session.script).history
  pub numbers : (session : Session) → SerialBehind session (length (phases session.script)) → session.driver.numbers ≡ (serial session.script).numbers
  pub ran : (session : Session) → SerialBehind session (length (phases session.script)) → RanPhases session (length (phases session.script))
  pub at_end : (session : Session) (given : Given) → SerialBehind session (length (phases session.script)) → SerialKept given session → DisksAtRest given session → AtPhase session given (length (phases session.script))
  pub overruns : (session : Session) (given : Given) → SerialBehind session (length (phases session.script)) → SerialKept given session → (printed_of session).overruns ≡ (serial session.script).overruns

-- and those of each mode
abbrev pub ListsWhereRan : Type 0
ListsWhereRan = (session : Session) → RanPhases session (length (phases session.script)) → HasLists session

abbrev pub LostWhereRan : Type 0
LostWhereRan =
    (session : Session) (given : Given) → AtPhase session given (length (phases session.script))
    → (recorder : ℕ) → recorder < length session.script.header.recorders → Lost (course_in given session) (overruns_on session.driver.overruns recorder) recorder

-- where serial mode's underruns are the stated ones, all are ones that can be
abbrev pub PlayedWhereRan : Type 0
PlayedWhereRan =
    (session : Session) (given : Given) → AtPhase session given (length (phases session.script))
    → (disk : ℕ) → disk < length session.script.header.disks → (IsNone session.script.header.threads → IsSerial (course_in given session) disk) → Played (course_in given session) disk

-- where its disks were counted, they are
abbrev pub StatedUnderruns : Type 0
StatedUnderruns =
    (given : Given) (session : Session) → IsOne session → IsFor session given → session.desk.history ≡ (serial session.script).history → session.driver.numbers ≡ (serial session.script).numbers
    → run session.driver ≡ length (turns session.script) → DisksSerial given session → (disk : ℕ) → disk < length session.script.header.disks → IsSerial (course_in given session) disk

-- and so does its report print them
abbrev pub PrintedUnderruns : Type 0
PrintedUnderruns =
    (given : Given) (session : Session) → IsOne session → IsFor session given → run session.driver ≡ length (turns session.script) → DisksSerial given session → (printed_of session).underruns ≡ serial_underruns given

-- players that go on, and ends that know how far the others are, leave the rings at rest
abbrev pub RestWhereTold : Type 0
RestWhereTold = (session : Session) (given : Given) → PlaysAll given session → DisksTell session → DisksAtRest given session

pub Runs-serial : SerialEnds → ListsWhereRan → LostWhereRan → PlayedWhereRan → StatedUnderruns → PrintedUnderruns → RestWhereTold → CyclesTotal → (before after : Session) → after.script ≡ before.script → IsSettled after
    → SerialBehind after (length (phases after.script)) → ((given : Given) → IsGiven before given → SerialKept given after) → Runs before after
Runs-serial ends lists lost played stated printed rest total before after same settled behind kept = record {
  script = same;
  lists = lists after (ends.ran after behind);
  at_end = λ given is_given. subst (λ (s : Script). AtPhase after given (length (phases s))) same (at given is_given);
  lost = λ given is_given recorder h. lost after given (at given is_given) recorder (subst (λ (s : Script). recorder < length s.header.recorders) (sym same) h);
  disks = λ given is_given disk h. disks given is_given disk (subst (λ (s : Script). disk < length s.header.disks) (sym same) h);
  serial_history = λ none. ends.history after behind ∙ ap (λ (s : Script). (serial s).history) same;
  serial_numbers = λ none. ends.numbers after behind ∙ ap (λ (s : Script). (serial s).numbers) same;
  serial_overruns = λ none given is_given. ends.overruns after given behind (kept given is_given) ∙ ap (λ (s : Script). (serial s).overruns) same;
  serial_underruns = λ none given is_given. printed given after settled.sound.one (kept given is_given).own (behind.cycles_are ∙ total after.script) (kept given is_given).turned;
}
  where
    at : (given : Given) → IsGiven before given → AtPhase after given (length (phases after.script))
    at given is_given = ends.at_end after given behind (kept given is_given) (rest after given (kept given is_given).plays settled.tells)

    disks : (given : Given) → IsGiven before given → (disk : ℕ) → disk < length after.script.header.disks → Played (course_in given after) disk
    disks given is_given disk low = played after given (at given is_given) disk low (λ none.
        stated given after settled.sound.one (kept given is_given).own (ends.history after behind) (ends.numbers after behind) (behind.cycles_are ∙ total after.script) (kept given is_given).turned disk low)
