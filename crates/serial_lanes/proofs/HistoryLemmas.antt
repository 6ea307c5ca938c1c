-- A desk in serial mode and the whole history: its front, the numbers, and a meeting.
use Rattle.std.proofs.Common.{◌≡◌, ℕ, suc, ◌+◌, ◌-◌, ◌≤◌, List, [], ◌++◌, length, take, slice_get, Some, refl, sym, ◌∙◌, ap, subst, arith, append_assoc, take_at}
use Rattle.std.specs.Prelude.{flat_map}
use Rattle.std.proofs.lemmas.Option.{slice_get_within}
use Rattle.jack_types.specs.declared.replies.Entry.{Entry}
use Rattle.session_model.specs.Histories.{accepted}
use Rattle.session_model.specs.Samples.{below}
use Rattle.session_model.specs.Scripts.{Script, Phase, Planned, phases}
use Rattle.session_model.specs.Serial.{do_calls, lanes_at, history_with, serial_calls, serial_history}
use Rattle.control_desk.specs.Desks.{IsDone, cycles_before}
use Rattle.serial_lanes.specs.Lanes.{BehindPhases, SerialDesk, calls_behind, calls_until}
use Rattle.serial_lanes.specs.Laws.{BehindWhereMet, DoneWhereMet, HistoryFront, PublishedNumber, SerialWhereMet}
use Rattle.serial_lanes.proofs.CallFronts.{calls-next_phase}
use Rattle.serial_lanes.proofs.NumberLemmas.{history_append, history_front, serial_number_is}
use Rattle.serial_lanes.proofs.RoundLemmas.{calls_split, rounds_split}

-- all calls begin with those up to a place
calls_front : (script : Script) (done rounds : ℕ) (phase : Phase) → slice_get (phases script) done ≡ Some phase → rounds ≤ phase.cycles + 1 → (later : List Planned) × (serial_calls script ≡ calls_until script done rounds ++ later)
calls_front script done rounds phase here few =
    let base : ℕ = cycles_before script done in
    let start : List Planned = calls_behind script done ++ do_calls script done in
    let until : List Planned = calls_until script done rounds in
    let more = rounds_split script done base rounds (phase.cycles + 1 - rounds) in
    let behind = calls_split script (phases script) 0 0 (suc done) (slice_get_within (phases script) done phase here) in
    let count : phase.cycles + 1 ≡ rounds + (phase.cycles + 1 - rounds) = omega (arith, few) in
    let whole : calls_behind script (suc done) ≡ until ++ more.0 =
    sym (calls-next_phase script done phase here)
    ∙ ap (λ m. start ++ flat_map (λ t. lanes_at script done (base + t)) (below m)) count
    ∙ ap (λ xs. start ++ xs) more.1
    ∙ sym (append_assoc start (flat_map (λ t. lanes_at script done (base + t)) (below rounds)) more.0) in
    (more.0 ++ behind.0, behind.1 ∙ ap (λ xs. xs ++ behind.0) whole ∙ append_assoc until more.0 behind.0)

pub front-is : HistoryFront
front-is desk done rounds phase here few serial =
    let script : Script = desk.script in
    let first : List Entry = history_with script [] (calls_until script done rounds) in
    let later = calls_front script done rounds phase here few in
    let more = history_front script first later.0 in
    let whole : serial_history script ≡ first ++ more.0 = ap (history_with script []) later.1 ∙ history_append script [] (calls_until script done rounds) later.0 ∙ more.1 in
    serial.history
    ∙ sym (ap (take (length first)) whole ∙ take_at first more.0 (length first) refl)
    ∙ ap (λ es. take (length es) (serial_history script)) (sym serial.history)

pub published-is : PublishedNumber
published-is desk done t phase is_script is here low serial =
    serial_number_is desk.script done t phase is_script here low
    ∙ ap (λ es. length (accepted es)) (sym serial.history)
    ∙ ap length (sym is.published)

pub serial-met : SerialWhereMet
serial-met desk after done rounds same serial = subst (λ d. SerialDesk d done rounds) (sym same) (record { history = serial.history; phase = serial.phase })

pub behind-met : BehindWhereMet
behind-met desk after done same behind = subst (λ d. BehindPhases d done) (sym same) (record { history = behind.history; phase = behind.phase; used = behind.used })

pub done-met : DoneWhereMet
done-met desk after lane same done = subst (λ d. IsDone d lane) (sym same) done
