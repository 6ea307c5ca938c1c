-- What a cycle takes of what the desk has published.
--     HasNext session      that is what serial mode takes in the next cycle
--     HasNext-desk      so it is where the desk is at its place of serial mode
--     number-published, numbers-stepped, rows-stepped      then the cycle's number and row are those of serial mode, where desk and driver met behind it
use Rattle.std.proofs.Common.{◌≡◌, ℕ, suc, ◌+◌, ◌<◌, ◌≤◌, List, [], ◌∷◌, ◌++◌, length, take, All, slice_get, slice_index, Some, sym, ◌∙◌, ap, subst, arith}
use Rattle.std.proofs.lemmas.List.{length_push}
use Rattle.jack_types.specs.declared.commands.Change.{Change}
use Rattle.session_model.specs.Grammar.{IsScript}
use Rattle.session_model.specs.Histories.{Cycles, accepted}
use Rattle.session_model.specs.Scripts.{Phase, Script, phases, turns}
use Rattle.session_model.specs.Serial.{serial, serial_history, serial_numbers}
use Rattle.graph_word.specs.declared.view.TakenRow.{TakenRow}
use Rattle.graph_word.specs.Publications.{HaveMet, IsFront, Reading}
use Rattle.run_laws.specs.driver_laws.specs.Cycling.{StepsOnce}
use Rattle.run_laws.specs.driver_laws.specs.Drivers.{Driver, run}
use Rattle.run_laws.specs.driver_laws.specs.Segments.{cycles_before}
use Rattle.run_laws.specs.serial_lanes.specs.Lanes.{SerialDesk}
use Rattle.run_laws.specs.serial_lanes.specs.Laws.{HistoryFront, PublishedNumber}
use Rattle.run_laws.specs.Sessions.{Session}
use Rattle.serial_laws.specs.Steps.{AreExact, IsSound}
use Rattle.serial_laws.proofs.NumberLemmas.{number-exact, numbers-next}
use Rattle.serial_laws.proofs.RowLemmas.{accepted-front, front-of_front}

-- the numbers of serial mode are as many as the cycles
abbrev pub SerialIsLegal : Type 0
SerialIsLegal = (script : Script) → IsScript script → Cycles script (serial script).history (serial script).numbers

-- what the desk has published is a front of what serial mode accepts, and as much as the next cycle takes there
pub record HasNext (session : Session) : Type 0 where
  pub number : slice_index (serial_numbers session.script) (run session.driver) ≡ length session.desk.publishing.all
  pub front : IsFront session.desk.publishing.all (accepted (serial_history session.script))

pub HasNext-desk : PublishedNumber → HistoryFront → (session : Session) (done t : ℕ) (phase : Phase) → slice_get (phases session.script) done ≡ Some phase → t < phase.cycles
    → run session.driver ≡ cycles_before session.script done + t → IsSound session → SerialDesk session.desk done (suc t) → HasNext session
HasNext-desk published fronts session done t phase here low at sound desk =
    let desk_script : session.desk.script ≡ session.script = sound.one.desk_script in
    let here_desk : slice_get (phases session.desk.script) done ≡ Some phase = subst (λ (s : Script). slice_get (phases s) done ≡ Some phase) (sym desk_script) here in
    record {
      number = ap (slice_index (serial_numbers session.script)) at
          ∙ subst (λ (s : Script). slice_index (serial_numbers s) (cycles_before s done + t) ≡ length session.desk.publishing.all) desk_script
          (published session.desk done t phase (subst IsScript (sym desk_script) sound.one.lawful) sound.one.desk here_desk low desk);
      front = subst (λ (cs : List Change). IsFront cs (accepted (serial_history session.script))) (sym sound.one.desk.published)
          (subst (λ (s : Script). IsFront (accepted session.desk.history) (accepted (serial_history s))) desk_script
          (accepted-front session.desk.history (serial_history session.desk.script) (fronts session.desk done (suc t) phase here_desk (omega (arith, low)) desk)));
    }

module _ (session : Session) (exact : AreExact session) (next : HasNext session) (before driver : Driver) (steps : StepsOnce before driver)
    (reading : before.reading ≡ session.driver.reading) (numbers : before.numbers ≡ session.driver.numbers) (met : HaveMet session.desk.publishing driver.reading) where
  -- the number is what the desk has published
  number-published : steps.number ≡ length session.desk.publishing.all
  number-published =
      number-exact before.reading steps.taken steps.number (length session.desk.publishing.all) steps.takes
      (ap (λ (r : Reading). r.least) reading ∙ exact.met.reader)
      (subst (λ (ns : List ℕ). All (λ n. n ≤ length session.desk.publishing.all) ns) (ap (λ (r : Reading). r.reads) steps.begins.after_is) met.reads)

  numbers-more : driver.numbers ≡ session.driver.numbers ++ steps.number ∷ []
  numbers-more = steps.numbers ∙ ap (λ (ns : List ℕ). ns ++ steps.number ∷ []) numbers

  pub numbers-stepped : SerialIsLegal → IsScript session.script → run session.driver < length (turns session.script) → driver.numbers ≡ take (run driver) (serial_numbers session.script)
  numbers-stepped legal lawful left =
      let each : length (serial_numbers session.script) ≡ length (turns session.script) = (legal session.script lawful).each in
      numbers-more
      ∙ numbers-next (serial_numbers session.script) session.driver.numbers (run session.driver) steps.number exact.numbers (omega (arith, each, left)) (next.number ∙ sym number-published)
      ∙ ap (λ n. take n (serial_numbers session.script)) (sym (ap length numbers-more ∙ length_push session.driver.numbers steps.number))

  -- what each row took is a front of what serial mode accepts
  pub rows-stepped : All (λ (row : TakenRow). IsFront row.changes (accepted (serial_history session.script))) driver.reading.rows
  rows-stepped = λ k row inside. front-of_front _ session.desk.publishing.all (accepted (serial_history session.script)) (met.rows k row inside) next.front
