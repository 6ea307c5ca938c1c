-- The lists behind all phases.
--     HasLists-ran      the history is legal, and the numbers are within their bounds
--     is_taping-serial      a recorder is active where it is in serial mode
use Rattle.std.proofs.Common.{◌≡◌, ℕ, ◌∷◌, length, take, slice_index, ◌∙◌, sym, ap, ap₂, subst}
use Rattle.std.specs.Prelude.{find, is_some}
use Rattle.session_model.specs.Commands.{replay}
use Rattle.session_model.specs.Courses.{Course, players}
use Rattle.session_model.specs.Grammar.{IsScript}
use Rattle.session_model.specs.Histories.{KeepsAsked, Legal, accepted}
use Rattle.session_model.specs.Recorders.{is_tape, is_taping}
use Rattle.session_model.specs.Scripts.{Script, phases}
use Rattle.session_model.specs.Serial.{serial_course, serial_history, serial_numbers}
use Rattle.session_model.specs.State.{OpenClient, opening}
use Rattle.serial_lanes.specs.control_desk.specs.Laws.{LegalWhereDone}
use Rattle.serial_lanes.specs.Laws.{CyclesTotal}
use Rattle.run_laws.specs.Runs.{RanPhases}
use Rattle.run_laws.specs.Sessions.{Session}
use Rattle.run_laws.specs.Told.{HasLists}
use Rattle.run_laws.proofs.MeetingLemmas.{KeepsAsked-met}

pub HasLists-ran : LegalWhereDone → CyclesTotal → (session : Session) → RanPhases session (length (phases session.script)) → HasLists session
HasLists-ran legal total session ran =
    let same : session.desk.script ≡ session.script = ran.one.desk_script in
    record {
      legal = subst (λ (s : Script). Legal s session.desk.history) same
          (legal session.desk (subst IsScript (sym same) ran.one.lawful) ran.one.desk (ran.phase ∙ ap (λ (s : Script). length (phases s)) (sym same)) ran.used);
      cycles = record {
        each = ran.cycles ∙ total session.script;
        rising = ran.rising;
        bounds = ran.within;
        asked = subst (λ (s : Script). KeepsAsked s session.desk.history session.driver.numbers) same (KeepsAsked-met session.desk session.driver ran.one.desk ran.one.rows ran.met.met);
      };
    }

pub is_taping-serial : (script : Script) (course : Course) (recorder k : ℕ) → course.script ≡ script → course.changes ≡ accepted (serial_history script)
    → slice_index (0 ∷ course.numbers) k ≡ slice_index (0 ∷ serial_numbers script) k → is_taping course recorder k ≡ is_taping (serial_course script) recorder k
is_taping-serial script course recorder k same changes numbers =
    ap₂ (λ (s : Script) (n : ℕ). is_some (find (λ (client : OpenClient). is_tape recorder client.kind) (players (replay (opening s.header.capture s.header.playback) (take n course.changes))))) same numbers
    ∙ ap (λ cs. is_some (find (λ (client : OpenClient). is_tape recorder client.kind) (players (replay (opening script.header.capture script.header.playback) (take (slice_index (0 ∷ serial_numbers script) k) cs))))) changes
