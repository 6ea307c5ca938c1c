-- A round of the lanes between two meetings, and what it leaves.
--     script-stays, numbers-stay, rows-stay      the driver's lists are those before it
--     IsMet-behind      desk and driver met, where the rows before it are as many as the cycles
--     SerialDesk-behind      the desk has gone one round more of serial mode, where those are the cycles begun
use Rattle.std.proofs.Common.{◌≡◌, ℕ, suc, length, sym, ◌∙◌, ap, subst, le_of_eq}
use Rattle.session_model.specs.Grammar.{IsScript}
use Rattle.session_model.specs.Scripts.{Script}
use Rattle.graph_word.specs.Publications.{HaveMet, Publishing, Reading, last_row}
use Rattle.run_laws.specs.driver_laws.specs.Drivers.{Driver, run}
use Rattle.run_laws.specs.serial_lanes.specs.Lanes.{IsRound, SawUpTo, SerialDesk, cycles_begun}
use Rattle.run_laws.specs.serial_lanes.specs.Laws.{RoundOfLanes, SerialWhereMet}
use Rattle.run_laws.specs.Sessions.{IsMet, Session}
use Rattle.serial_laws.specs.Steps.{Met, Rounded}
use Rattle.serial_laws.proofs.RowLemmas.{HaveMet-later}

-- a meeting keeps the script, the numbers and the rows
met-script : (session after : Session) → Met session after → after.script ≡ session.script
met-script session after met = ap (λ (s : Session). s.script) met.same

met-numbers : (session after : Session) → Met session after → after.driver.numbers ≡ session.driver.numbers
met-numbers session after met = ap (λ (s : Session). s.driver.numbers) met.same

met-rows : (session after : Session) → Met session after → after.driver.reading.rows ≡ session.driver.reading.rows
met-rows session after met = ap (λ (s : Session). s.driver.reading.rows) met.same ∙ ap (λ (r : Reading). r.rows) met.meets.reader_is

-- and the desk but for its publication
met-desk : (session after : Session) → Met session after → after.desk ≡ record session.desk { publishing = after.desk.publishing }
met-desk session after met = ap (λ (s : Session). s.desk) met.same ∙ ap (λ (p : Publishing). record session.desk { publishing = p }) (sym (ap (λ (s : Session). s.desk.publishing) met.same))

met-desk_script : (session after : Session) → Met session after → after.desk.script ≡ session.desk.script
met-desk_script session after met = ap (λ (s : Session). s.desk.script) met.same

-- the publisher's bound behind it is the last row
met-least : (session after : Session) → Met session after → after.desk.publishing.least ≡ last_row session.driver.reading.rows
met-least session after met = ap (λ (s : Session). s.desk.publishing.least) met.same ∙ ap (λ (p : Publishing). p.least) met.meets.publisher_is

module _ (before met rounded after : Session) (meets : Met before met) (rounds : Rounded met rounded) (again : Met rounded after) where
  driver-stays : rounded.driver ≡ met.driver
  driver-stays = ap (λ (s : Session). s.driver) rounds.same

  pub script-stays : after.script ≡ before.script
  script-stays = met-script rounded after again ∙ ap (λ (s : Session). s.script) rounds.same ∙ met-script before met meets

  pub numbers-stay : after.driver.numbers ≡ before.driver.numbers
  numbers-stay = met-numbers rounded after again ∙ ap (λ (d : Driver). d.numbers) driver-stays ∙ met-numbers before met meets

  rows-rounded : rounded.driver.reading.rows ≡ before.driver.reading.rows
  rows-rounded = ap (λ (d : Driver). d.reading.rows) driver-stays ∙ met-rows before met meets

  pub rows-stay : after.driver.reading.rows ≡ before.driver.reading.rows
  rows-stay = met-rows rounded after again ∙ rows-rounded

  publishing-is : after.desk.publishing ≡ record rounded.desk.publishing { least = last_row rounded.driver.reading.rows }
  publishing-is = ap (λ (s : Session). s.desk.publishing) again.same ∙ again.meets.publisher_is

  reading-is : after.driver.reading ≡ record rounded.driver.reading { least = length rounded.desk.publishing.all }
  reading-is = ap (λ (s : Session). s.driver.reading) again.same ∙ again.meets.reader_is

  -- desk and driver met, where the rows before it are as many as the cycles
  pub IsMet-behind : last_row before.driver.reading.rows ≡ run before.driver → IsMet after
  IsMet-behind counted = record {
    met = subst (λ (p : Publishing). HaveMet p after.driver.reading) (sym publishing-is)
        (subst (λ (r : Reading). HaveMet (record rounded.desk.publishing { least = last_row rounded.driver.reading.rows }) r) (sym reading-is)
        (HaveMet-later rounded.desk.publishing rounded.driver.reading (last_row rounded.driver.reading.rows) (length rounded.desk.publishing.all) again.meets.met));
    reader = ap (λ (r : Reading). r.least) reading-is ∙ sym (ap (λ (p : Publishing). length p.all) publishing-is);
    publisher = met-least rounded after again ∙ ap last_row rows-rounded ∙ counted ∙ sym (ap length numbers-stay);
  }

  -- the desk has gone one round more of serial mode, where those are the cycles begun
  pub SerialDesk-behind : RoundOfLanes → SerialWhereMet → (done rounds : ℕ) → IsScript before.desk.script → IsRound before.desk.script done rounds → SerialDesk before.desk done rounds
      → last_row before.driver.reading.rows ≡ cycles_begun before.desk.script done rounds → SerialDesk after.desk done (suc rounds)
  SerialDesk-behind round where_met done rounds_gone lawful is_round serial begun =
      let script : met.desk.script ≡ before.desk.script = met-desk_script before met meets in
      let least : met.desk.publishing.least ≡ cycles_begun met.desk.script done rounds_gone = met-least before met meets ∙ begun ∙ ap (λ (s : Script). cycles_begun s done rounds_gone) (sym script) in
      let seen : SawUpTo (last_row rounded.driver.reading.rows) rounded.desk = again.meets.met.seen in
      let up_to : last_row rounded.driver.reading.rows ≡ cycles_begun met.desk.script done rounds_gone = ap last_row rows-rounded ∙ begun ∙ ap (λ (s : Script). cycles_begun s done rounds_gone) (sym script) in
      where_met rounded.desk after.desk done (suc rounds_gone) (met-desk rounded after again)
      (round met.desk rounded.desk done rounds_gone
      (subst IsScript (sym script) lawful)
      (subst (λ (s : Script). IsRound s done rounds_gone) (sym script) is_round)
      (where_met before.desk met.desk done rounds_gone (met-desk before met meets) serial)
      (le_of_eq (sym least))
      rounds.runs
      (subst (λ cycle. SawUpTo cycle rounded.desk) up_to seen))
