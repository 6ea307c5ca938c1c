-- The transport of one cycle more, and the graph of the last one, in the driver's own terms.
--     graph-last, number-last      the graph and the number of the cycle before
--     adopted-now      the changes that the cycle adopts
--     row-now, moment-now      its row, and what it shows
use Rattle.std.proofs.Common.{◌≡◌, ℕ, zero, suc, ◌+◌, ◌-◌, List, [], ◌∷◌, length, take, drop, slice_get, slice_index, slice_index_or, get_or, Some, refl, sym, ◌∙◌, ap, ap₂, arith}
use Rattle.std.proofs.Math.Seq.{take-nil}
use Rattle.std.proofs.lemmas.List.{get_or-take}
use Rattle.record_ring.specs.jack_types.specs.declared.commands.Change.{Change}
use Rattle.record_ring.specs.session_model.specs.Courses.{Course, period, graph, number, adopted}
use Rattle.record_ring.specs.session_model.specs.Scripts.{Script}
use Rattle.record_ring.specs.session_model.specs.State.{State}
use Rattle.record_ring.specs.session_model.specs.Transport.{Row, row, moment, next_row, shown, slow_numbers, timeout_of, active_master}
use Rattle.cycle_plan.specs.graph_word.specs.declared.view.TakenRow.{TakenRow}
use Rattle.driver_laws.specs.Drivers.{Driver, run, turn_of, graph_of, last_content, content_now, graph_now}
use Rattle.driver_laws.specs.Keeping.{Fits}
use Rattle.driver_laws.specs.Cycling.{StepsOnce}
use Rattle.driver_laws.specs.Playing.{last_number, adopted_now, moment_now}
use Rattle.driver_laws.proofs.StepLemmas.{rows_before, content-taken, row_there, graph-of_row, graph-now, script-same}
use Rattle.driver_laws.proofs.FitLemmas.{Fits-earlier}

-- the number behind a front of the numbers
number_behind : (numbers front : List ℕ) → front ≡ take (length front) numbers → slice_index (0 ∷ numbers) (length front) ≡ slice_index (0 ∷ front) (length front)
number_behind numbers [] e = refl
number_behind numbers (n ∷ front) e = sym (get_or-take (suc (length front)) numbers (length front) 0 (omega arith)) ∙ ap (λ ns. get_or ns (length front) 0) (sym e)

-- the last row stands at the last place
last_there : (first : TakenRow) (rows : List TakenRow) → (taken : TakenRow) × (slice_get (first ∷ rows) (length rows) ≡ Some taken) × (last_content (first ∷ rows) ≡ taken.changes)
last_there first [] = (first, refl, refl)
last_there first (next ∷ rows) = last_there next rows

content_behind : (rows : List TakenRow) (numbers : List ℕ) (changes : List Change) → ((k : ℕ) (taken : TakenRow) → slice_get rows k ≡ Some taken → taken.changes ≡ take (slice_index_or numbers k 0) changes)
    → last_content rows ≡ take (slice_index (0 ∷ numbers) (length rows)) changes
content_behind [] numbers changes h = refl
content_behind (first ∷ rows) numbers changes h = let w = last_there first rows in w.2 ∙ h (length rows) w.0 w.1

-- a front behind some items is a slice
drop_take : {X : Type 0} (a n : ℕ) (xs : List X) → drop a (take n xs) ≡ take (n - a) (drop a xs)
drop_take zero n xs = let e : n ≡ n - 0 = omega arith in ap (λ m. take m xs) e
drop_take (suc a) zero xs = let e : 0 ≡ 0 - suc a = omega arith in ap (λ m. take m (drop (suc a) xs)) e
drop_take (suc a) (suc n) [] = sym (take-nil (suc n - suc a))
drop_take (suc a) (suc n) (x ∷ xs) = let e : n - a ≡ suc n - suc a = omega arith in drop_take a n xs ∙ ap (λ m. take m (drop a xs)) e

module _ (driver after : Driver) (steps : StepsOnce driver after) (course : Course) (fits : Fits after course) where
  next : suc (run driver) ≡ run driver + 1
  next = omega arith

  pub number-last : number course (run driver) ≡ last_number driver
  number-last = number_behind course.numbers driver.numbers (Fits-earlier driver after course steps fits).numbers

  -- the graph of the cycle before
  pub graph-last : graph course (run driver) ≡ graph_now driver
  graph-last =
      let before : Fits driver course = Fits-earlier driver after course steps fits in
      let content : last_content driver.reading.rows ≡ take (number course (run driver)) course.changes =
      content_behind driver.reading.rows course.numbers course.changes before.rows ∙ ap (λ m. take (number course m) course.changes) (rows_before driver after steps) in
      ap (λ (s : Script). graph_of s (take (number course (run driver)) course.changes)) before.script ∙ ap (graph_of driver.script) (sym content)

  content-now : content_now after ≡ take (number course (suc (run driver))) course.changes
  content-now = content-taken driver after steps ∙ fits.rows (run driver) (record { cycle = run driver + 1; changes = steps.taken.held }) (row_there driver after steps)

  -- the changes that the cycle adopts
  pub adopted-now : adopted course (suc (run driver)) ≡ adopted_now driver after
  adopted-now =
      let before : suc (run driver) - 1 ≡ run driver = omega arith in
      ap (λ m. take (number course (suc (run driver)) - number course m) (drop (number course m) course.changes)) before
      ∙ sym (drop_take (number course (run driver)) (number course (suc (run driver))) course.changes)
      ∙ ap₂ drop number-last (sym content-now)

  -- the period of the cycle, and of the one before
  pub period-now : (turn_of driver.script (run driver + 1)).period ≡ driver.set → period course (suc (run driver)) ≡ driver.set
  period-now set = ap₂ (λ (s : Script) m. (turn_of s m).period) (script-same driver after steps course fits) next ∙ set

  pub period-last : period course (run driver) ≡ (turn_of driver.script (run driver)).period
  period-last = ap (λ (s : Script). (turn_of s (run driver)).period) (script-same driver after steps course fits)

  -- one step of the transport
  abbrev row_by : Row → List Change → State → Script → ℕ → Row
  row_by before changes state script frames = next_row before changes (slow_numbers state) (timeout_of state script.header.rate frames) frames

  pub row-now : (turn_of driver.script (run driver + 1)).period ≡ driver.set → driver.transport ≡ row course (run driver)
      → after.transport ≡ next_row driver.transport (adopted_now driver after) (slow_numbers (graph_now after)) (timeout_of (graph_now after) driver.script.header.rate driver.set) driver.set
      → after.transport ≡ row course (suc (run driver))
  row-now set before step =
      step
      ∙ ap (λ r. row_by r (adopted_now driver after) (graph_now after) driver.script driver.set) before
      ∙ ap₂ (λ changes state. row_by (row course (run driver)) changes state driver.script driver.set) (sym adopted-now) (sym (graph-of_row driver after steps course fits))
      ∙ ap₂ (λ (s : Script) frames. row_by (row course (run driver)) (adopted course (suc (run driver))) (graph course (suc (run driver))) s frames) (sym (script-same driver after steps course fits)) (sym (period-now set))

  -- what it shows
  pub moment-now : after.transport ≡ row course (suc (run driver)) → moment_now driver after ≡ moment course (run driver + 1)
  moment-now row_is =
      ap₂ (λ (r : Row) (s : Script). shown (run driver + 1) r s.header.rate (active_master (graph_now after))) (row_is ∙ ap (row course) next) (sym (script-same driver after steps course fits))
      ∙ ap (λ state. shown (run driver + 1) (row course (run driver + 1)) course.script.header.rate (active_master state)) (sym (graph-now driver after steps course fits))
