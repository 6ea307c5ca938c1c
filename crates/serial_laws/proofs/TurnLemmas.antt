-- One cycle of serial mode, and the front of a phase.
--     LeavesRest session after      blocks that left the rings, and readings of the disks, changed nothing else
--     run-turned, AreExact-turned, SerialDesk-turned      one cycle
--     run-begun, AreExact-begun, SerialDesk-begun      the front of a phase
use Rattle.std.proofs.Common.{◌≡◌, ℕ, suc, ◌+◌, ◌<◌, Bool, true, false, List, [], ◌∷◌, ◌++◌, length, take, All, slice_get, Some, sym, ◌∙◌, ap, ap₂, subst, arith}
use Rattle.std.proofs.lemmas.List.{length_push}
use Rattle.session_model.specs.Grammar.{IsScript}
use Rattle.session_model.specs.Histories.{accepted}
use Rattle.session_model.specs.Scripts.{Phase, Script, phases}
use Rattle.session_model.specs.Serial.{serial_history, serial_numbers}
use Rattle.graph_word.specs.declared.view.TakenRow.{TakenRow}
use Rattle.graph_word.specs.Publications.{HaveMet, IsFront, Reading, last_row}
use Rattle.run_laws.specs.control_desk.specs.Desks.{Desk}
use Rattle.run_laws.specs.driver_laws.specs.Cycling.{StepsOnce}
use Rattle.run_laws.specs.driver_laws.specs.Drivers.{run}
use Rattle.run_laws.specs.driver_laws.specs.Segments.{cycles_before}
use Rattle.run_laws.specs.serial_lanes.specs.Lanes.{IsRound, SerialDesk, cycles_begun}
use Rattle.run_laws.specs.serial_lanes.specs.Laws.{HistoryFront, PublishedNumber, RoundOfLanes, SerialWhereMet}
use Rattle.run_laws.specs.Sessions.{Session}
use Rattle.disk_runs.specs.Readings.{DisksBroke}
use Rattle.disk_runs.proofs.StepLemmas.{tried-read, tried-told}
use Rattle.serial_laws.specs.Steps.{AreExact, Begun, Emptied, GiveUp, IsSound, Turned, most_blocks, most_filled}
use Rattle.serial_laws.proofs.DeskLemmas.{IsMet-behind, SerialDesk-behind, numbers-stay, rows-stay, script-stays}
use Rattle.serial_laws.proofs.NumberLemmas.{cycle-there}
use Rattle.serial_laws.proofs.PublishedLemmas.{HasNext, HasNext-desk, SerialIsLegal, numbers-stepped, rows-stepped}
use Rattle.serial_laws.proofs.RowLemmas.{last_row-counted}

-- blocks that left the rings, and readings of the disks, changed nothing else
record LeavesRest (session after : Session) : Type 0 where
  script : after.script ≡ session.script
  desk : after.desk ≡ session.desk
  reading : after.driver.reading ≡ session.driver.reading
  numbers : after.driver.numbers ≡ session.driver.numbers

LeavesRest-given_up : (most : ℕ) (session after : Session) → GiveUp most session after → LeavesRest session after
LeavesRest-given_up most session after gives = record {
  script = ap (λ (s : Session). s.script) gives.same;
  desk = ap (λ (s : Session). s.desk) gives.same;
  reading = ap (λ (s : Session). s.driver.reading) gives.same;
  numbers = ap (λ (s : Session). s.driver.numbers) gives.same;
}

LeavesRest-emptied : (freewheel : Bool) (session after : Session) → Emptied freewheel session after → LeavesRest session after
LeavesRest-emptied true session after gives = LeavesRest-given_up session.script.header.ring session after gives
LeavesRest-emptied false session after same = record {
  script = ap (λ (s : Session). s.script) same;
  desk = ap (λ (s : Session). s.desk) same;
  reading = ap (λ (s : Session). s.driver.reading) same;
  numbers = ap (λ (s : Session). s.driver.numbers) same;
}

LeavesRest-tried : (most : ℕ) (session after : Session) → DisksBroke most session after → LeavesRest session after
LeavesRest-tried most session after tried = record {
  script = ap (λ (s : Session). s.script) tried.same;
  desk = ap (λ (s : Session). s.desk) tried.same;
  reading = ap (λ (s : Session). s.driver.reading) tried.same;
  numbers = ap (λ (s : Session). s.driver.numbers) tried.same;
}

LeavesRest-on : (session between after : Session) → LeavesRest session between → LeavesRest between after → LeavesRest session after
LeavesRest-on session between after first second = record {
  script = second.script ∙ first.script;
  desk = second.desk ∙ first.desk;
  reading = second.reading ∙ first.reading;
  numbers = second.numbers ∙ first.numbers;
}

module _ (freewheel : Bool) (session after : Session) (turned : Turned freewheel session after) where
  steps : StepsOnce turned.read.driver turned.cycled.driver
  steps = turned.cycles.cycles.steps

  first : LeavesRest session turned.read
  first =
      LeavesRest-on session turned.emptied turned.read (LeavesRest-emptied freewheel session turned.emptied turned.empties)
      (LeavesRest-tried (most_filled session.script.header freewheel) turned.emptied turned.read (tried-read (most_filled session.script.header freewheel) turned.emptied turned.read turned.reads))

  second : LeavesRest turned.cycled turned.drained
  second =
      LeavesRest-on turned.cycled turned.told turned.drained (LeavesRest-tried 0 turned.cycled turned.told (tried-told 0 turned.cycled turned.told turned.tells))
      (LeavesRest-given_up (most_blocks session.script.header freewheel) turned.told turned.drained turned.drains)

  desk-same : turned.drained.desk ≡ session.desk
  desk-same = second.desk ∙ ap (λ (s : Session). s.desk) turned.cycles.same ∙ first.desk

  script-same : after.script ≡ session.script
  script-same = script-stays turned.drained turned.met turned.rounded after turned.meets turned.rounds turned.meets_again ∙ second.script ∙ ap (λ (s : Session). s.script) turned.cycles.same ∙ first.script

  numbers-drained : turned.drained.driver.numbers ≡ session.driver.numbers ++ steps.number ∷ []
  numbers-drained = second.numbers ∙ steps.numbers ∙ ap (λ (ns : List ℕ). ns ++ steps.number ∷ []) first.numbers

  run-drained : run turned.drained.driver ≡ run session.driver + 1
  run-drained = ap length numbers-drained ∙ length_push session.driver.numbers steps.number

  numbers-after : after.driver.numbers ≡ session.driver.numbers ++ steps.number ∷ []
  numbers-after = numbers-stay turned.drained turned.met turned.rounded after turned.meets turned.rounds turned.meets_again ∙ numbers-drained

  -- a cycle is one number more
  pub run-turned : run after.driver ≡ run session.driver + 1
  run-turned = ap length numbers-after ∙ length_push session.driver.numbers steps.number

  -- the meeting behind the cycle is one of the desk before it
  met-cycled : HaveMet session.desk.publishing turned.cycled.driver.reading
  met-cycled = subst (λ (d : Desk). HaveMet d.publishing turned.cycled.driver.reading) desk-same (subst (HaveMet turned.drained.desk.publishing) second.reading turned.meets.meets.met)

  -- the rows behind the cycle are as many as the cycles
  rows-counted : last_row turned.drained.driver.reading.rows ≡ run turned.drained.driver
  rows-counted =
      ap (λ (r : Reading). last_row r.rows) second.reading
      ∙ last_row-counted turned.cycled.driver.reading.rows (run turned.cycled.driver) steps.own_rows.cycles
      ∙ sym (ap length second.numbers)

  module _ (done t : ℕ) (phase : Phase) (here : slice_get (phases session.script) done ≡ Some phase) (low : t < phase.cycles) (at : run session.driver ≡ cycles_before session.script done + t)
      (sound : IsSound session) (desk : SerialDesk session.desk done (suc t)) where
    desk-script : session.desk.script ≡ session.script
    desk-script = sound.one.desk_script

    lawful : IsScript session.desk.script
    lawful = subst IsScript (sym desk-script) sound.one.lawful

    here-desk : slice_get (phases session.desk.script) done ≡ Some phase
    here-desk = subst (λ (s : Script). slice_get (phases s) done ≡ Some phase) (sym desk-script) here

    -- the desk has gone a round more
    pub SerialDesk-turned : RoundOfLanes → SerialWhereMet → SerialDesk after.desk done (suc (suc t))
    SerialDesk-turned round where_met =
        let drained : Session = turned.drained in
        let begun : last_row drained.driver.reading.rows ≡ cycles_begun session.desk.script done (suc t) =
        rows-counted ∙ run-drained ∙ (let more : run session.driver + 1 ≡ cycles_before session.script done + suc t = omega (arith, at) in more) ∙ ap (λ (s : Script). cycles_begun s done (suc t)) (sym desk-script) in
        SerialDesk-behind drained turned.met turned.rounded after turned.meets turned.rounds turned.meets_again round where_met done (suc t)
        (subst (λ (d : Desk). IsScript d.script) (sym desk-same) lawful)
        (subst (λ (d : Desk). IsRound d.script done (suc t)) (sym desk-same) (record { phase = phase; there = here-desk; within = omega (arith, low) }))
        (subst (λ (d : Desk). SerialDesk d done (suc t)) (sym desk-same) desk)
        (begun ∙ ap (λ (d : Desk). cycles_begun d.script done (suc t)) (sym desk-same))

    -- what was taken is what serial mode takes
    pub AreExact-turned : AreExact session → SerialIsLegal → PublishedNumber → HistoryFront → AreExact after
    AreExact-turned exact legal published fronts =
        let next : HasNext session = HasNext-desk published fronts session done t phase here low at sound desk in
        let numbers : turned.cycled.driver.numbers ≡ take (run turned.cycled.driver) (serial_numbers session.script) =
        numbers-stepped session exact next turned.read.driver turned.cycled.driver steps first.reading first.numbers met-cycled legal sound.one.lawful (omega (arith, at, cycle-there session.script done t phase here low)) in
        let rows : All (λ (row : TakenRow). IsFront row.changes (accepted (serial_history session.script))) turned.cycled.driver.reading.rows =
        rows-stepped session exact next turned.read.driver turned.cycled.driver steps first.reading first.numbers met-cycled in
        let numbers_same : after.driver.numbers ≡ turned.cycled.driver.numbers =
        numbers-stay turned.drained turned.met turned.rounded after turned.meets turned.rounds turned.meets_again ∙ second.numbers in
        record {
          numbers = numbers_same ∙ numbers ∙ ap₂ (λ (ns : List ℕ) (s : Script). take (length ns) (serial_numbers s)) (sym numbers_same) (sym script-same);
          rows = subst (λ (rows : List TakenRow). All (λ (row : TakenRow). IsFront row.changes (accepted (serial_history after.script))) rows)
              (sym (rows-stay turned.drained turned.met turned.rounded after turned.meets turned.rounds turned.meets_again ∙ ap (λ (r : Reading). r.rows) second.reading))
              (subst (λ (s : Script). All (λ (row : TakenRow). IsFront row.changes (accepted (serial_history s))) turned.cycled.driver.reading.rows) (sym script-same) rows);
          met = IsMet-behind turned.drained turned.met turned.rounded after turned.meets turned.rounds turned.meets_again rows-counted;
        }

module _ (session after : Session) (done : ℕ) (begun : Begun done session after) where
  grouped-numbers : begun.grouped.driver.numbers ≡ session.driver.numbers
  grouped-numbers = ap (λ (s : Session). s.driver.numbers) begun.group_same

  grouped-rows : begun.grouped.driver.reading.rows ≡ session.driver.reading.rows
  grouped-rows = ap (λ (s : Session). s.driver.reading.rows) begun.group_same

  grouped-script : begun.grouped.desk.script ≡ session.desk.script
  grouped-script = ap (λ (s : Session). s.desk.script) begun.group_same

  begun-numbers : after.driver.numbers ≡ session.driver.numbers
  begun-numbers = numbers-stay begun.grouped begun.met begun.rounded after begun.meets begun.rounds begun.meets_again ∙ grouped-numbers

  begun-script : after.script ≡ session.script
  begun-script = script-stays begun.grouped begun.met begun.rounded after begun.meets begun.rounds begun.meets_again ∙ ap (λ (s : Session). s.script) begun.group_same

  -- the front of a phase is no cycle
  pub run-begun : run after.driver ≡ run session.driver
  run-begun = ap length begun-numbers

  module _ (sound : IsSound session) where
    grouped-counted : last_row begun.grouped.driver.reading.rows ≡ run begun.grouped.driver
    grouped-counted = ap last_row grouped-rows ∙ last_row-counted session.driver.reading.rows (run session.driver) sound.one.rows.cycles ∙ sym (ap length grouped-numbers)

    -- what was taken is still what serial mode takes
    pub AreExact-begun : AreExact session → AreExact after
    AreExact-begun exact = record {
      numbers = begun-numbers ∙ exact.numbers ∙ ap₂ (λ n (s : Script). take n (serial_numbers s)) (sym run-begun) (sym begun-script);
      rows = subst (λ (rows : List TakenRow). All (λ (row : TakenRow). IsFront row.changes (accepted (serial_history after.script))) rows)
          (sym (rows-stay begun.grouped begun.met begun.rounded after begun.meets begun.rounds begun.meets_again ∙ grouped-rows))
          (subst (λ (s : Script). All (λ (row : TakenRow). IsFront row.changes (accepted (serial_history s))) session.driver.reading.rows) (sym begun-script) exact.rows);
      met = IsMet-behind begun.grouped begun.met begun.rounded after begun.meets begun.rounds begun.meets_again grouped-counted;
    }

    -- the desk has gone the phase's first round
    pub SerialDesk-begun : RoundOfLanes → SerialWhereMet → (phase : Phase) → slice_get (phases session.script) done ≡ Some phase → run session.driver ≡ cycles_before session.script done → SerialDesk after.desk done 1
    SerialDesk-begun round where_met phase here at =
        let script : begun.grouped.desk.script ≡ session.script = grouped-script ∙ sound.one.desk_script in
        let begun_so_far : last_row begun.grouped.driver.reading.rows ≡ cycles_begun session.script done 0 =
        grouped-counted ∙ ap length grouped-numbers ∙ at ∙ (let none : cycles_before session.script done ≡ cycles_before session.script done + 0 = omega arith in none) in
        SerialDesk-behind begun.grouped begun.met begun.rounded after begun.meets begun.rounds begun.meets_again round where_met done 0
        (subst IsScript (sym script) sound.one.lawful)
        (subst (λ (s : Script). IsRound s done 0) (sym script) (record { phase = phase; there = here; within = omega arith }))
        begun.group
        (begun_so_far ∙ ap (λ (s : Script). cycles_begun s done 0) (sym script))
