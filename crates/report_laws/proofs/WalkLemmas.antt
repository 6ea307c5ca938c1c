-- The lines of a placed report lead from the start to the end.
--     walk-append, walk-more, walk-prefix      one part after the other
--     report-walks      all lines of a report
--     overruns-pass, recorders-pass, ..      the lines of a kind
use Rattle.std.proofs.Common.{◌≡◌, ℕ, suc, ◌+◌, ◌-◌, ◌<◌, ◌≤◌, ◌==◌, true, nat_lt, nat_le, List, [], ◌∷◌, ◌++◌, length, map, flat_map, slice_get, Option, Some, None, refl, sym, ◌∙◌, ap, subst, arith, append_assoc}
use Rattle.std.specs.Prelude.{option_and_then}
use Rattle.std.proofs.lemmas.Bool.Decides.{nat_tests}
use Rattle.jack_types.specs.declared.replies.Overrun.{Overrun}
use Rattle.jack_types.specs.declared.replies.Underrun.{Underrun}
use Rattle.session_model.specs.Reports.{Report, PrintedCall, PrintedCycle, PrintedMeter, PrintedEvent, PrintedRecorder, PrintedDisk}
use Rattle.session_model.specs.Scripts.{Script}
use Rattle.session_laws.proofs.ListLemmas.{Each, Each-weaker}
use Rattle.report_reader.specs.check_laws.proofs.SameLemmas.{Each-from_all}
use Rattle.report_reader.specs.Reports.{IsPlaced, IsPlacedRecorder, IsPlacedDisk, call_row, cycle_row, disk_rows, event_row, meter_row, overrun_row, recorder_rows, report_rows, underrun_row}
use Rattle.report_reader.specs.declared.rows.Line.{Line}
use Rattle.report_reader.specs.declared.rows.Line.TheVariants.{Report as ReportLine, Call, Cycle, Meter, Midi, Recorder, Overrun as OverrunLine, Disk, Underrun as UnderrunLine, End}
use Rattle.report_laws.specs.Places.{limits_of, next, walk}
use Rattle.report_laws.specs.declared.places.Limits.{Limits}
use Rattle.report_laws.specs.declared.places.Place.{Place}
use Rattle.report_laws.specs.declared.places.Place.TheVariants.{Start, Calls, Cycles, Meters, Events, Recorders, Disks, Done}

pub walk-append : (limits : Limits) (p : Place) (xs ys : List Line) → walk limits p (xs ++ ys) ≡ option_and_then (λ q. walk limits q ys) (walk limits p xs)
walk-append limits p [] ys = refl
walk-append limits p (x ∷ xs) ys = go (next limits p x) (λ q. walk-append limits q xs ys)
  where
    go : (o : Option Place) → ((q : Place) → walk limits q (xs ++ ys) ≡ option_and_then (λ r. walk limits r ys) (walk limits q xs))
        → option_and_then (λ q. walk limits q (xs ++ ys)) o ≡ option_and_then (λ q. walk limits q ys) (option_and_then (λ q. walk limits q xs) o)
    go None f = refl
    go (Some q) f = f q

-- one line more
pub walk-more : (limits : Limits) (p q : Place) (lines : List Line) (line : Line) → walk limits p lines ≡ Some q → walk limits p (lines ++ line ∷ []) ≡ next limits q line
walk-more limits p q lines line there = walk-append limits p lines (line ∷ []) ∙ ap (option_and_then (λ r. walk limits r (line ∷ []))) there ∙ last (next limits q line)
  where
    last : (o : Option Place) → option_and_then (λ r. walk limits r []) o ≡ o
    last None = refl
    last (Some r) = refl

pub walk-prefix : (limits : Limits) (p q : Place) (xs ys : List Line) → walk limits p (xs ++ ys) ≡ Some q → (r : Place) × (walk limits p xs ≡ Some r)
walk-prefix limits p q xs ys h = go (walk limits p xs) refl (sym (walk-append limits p xs ys) ∙ h)
  where
    go : (o : Option Place) → walk limits p xs ≡ o → option_and_then (λ r. walk limits r ys) o ≡ Some q → (r : Place) × (walk limits p xs ≡ Some r)
    go None e k = absurd cc
    go (Some r) e k = (r, e)

-- ---- which kinds may begin what is left

abbrev rank : Line → ℕ
rank ReportLine = 0
rank (Call x) = 1
rank (Cycle x) = 2
rank (Meter x) = 3
rank (Midi x) = 4
rank (Recorder x) = 5
rank (OverrunLine x) = 5
rank (Disk x) = 6
rank (UnderrunLine x) = 6
rank End = 7

abbrev Starts : ℕ → List Line → Type 0
Starts r [] = ⊥
Starts r (x ∷ xs) = r ≤ rank x

starts-sooner : (r q : ℕ) (xs : List Line) → r ≤ q → Starts q xs → Starts r xs
starts-sooner r q [] le s = s
starts-sooner r q (x ∷ xs) le s = omega (arith, le, s)

starts-map : {X : Type 0} (r q : ℕ) (row : X → Line) → ((x : X) → r ≤ rank (row x)) → (items : List X) (ys : List Line) → r ≤ q → Starts q ys → Starts r (map row items ++ ys)
starts-map r q row f [] ys le s = starts-sooner r q ys le s
starts-map r q row f (x ∷ items) ys le s = f x

starts-recorders : (items : List PrintedRecorder) (ys : List Line) → Starts 6 ys → Starts 5 (flat_map recorder_rows items ++ ys)
starts-recorders [] ys s = starts-sooner 5 6 ys (omega arith) s
starts-recorders (x ∷ items) ys s = omega arith

starts-disks : (items : List PrintedDisk) → Starts 6 (flat_map disk_rows items ++ End ∷ [])
starts-disks [] = omega arith
starts-disks (x ∷ items) = omega arith

module _ (script : Script) where
  abbrev limits : Limits
  limits = limits_of script

  skip-calls : (xs : List Line) → Starts 2 xs → (n : ℕ) → walk limits (Calls n) xs ≡ walk limits (Cycles 0) xs
  skip-calls [] s n = absurd s
  skip-calls (ReportLine ∷ xs) s n = absurd (omega (arith, s))
  skip-calls (Call x ∷ xs) s n = absurd (omega (arith, s))
  skip-calls (Cycle x ∷ xs) s n = refl
  skip-calls (Meter x ∷ xs) s n = refl
  skip-calls (Midi x ∷ xs) s n = refl
  skip-calls (Recorder x ∷ xs) s n = refl
  skip-calls (OverrunLine x ∷ xs) s n = refl
  skip-calls (Disk x ∷ xs) s n = refl
  skip-calls (UnderrunLine x ∷ xs) s n = refl
  skip-calls (End ∷ xs) s n = refl

  same : (n : ℕ) → (n == n) ≡ true
  same n = grind (arith, nat_tests)

  skip-cycles : (xs : List Line) → Starts 3 xs → walk limits (Cycles limits.cycles) xs ≡ walk limits (Meters 0) xs
  skip-cycles [] s = absurd s
  skip-cycles (ReportLine ∷ xs) s = absurd (omega (arith, s))
  skip-cycles (Call x ∷ xs) s = absurd (omega (arith, s))
  skip-cycles (Cycle x ∷ xs) s = absurd (omega (arith, s))
  skip-cycles (Meter x ∷ xs) s = rw (same limits.cycles) refl
  skip-cycles (Midi x ∷ xs) s = rw (same limits.cycles) refl
  skip-cycles (Recorder x ∷ xs) s = rw (same limits.cycles) refl
  skip-cycles (OverrunLine x ∷ xs) s = rw (same limits.cycles) refl
  skip-cycles (Disk x ∷ xs) s = rw (same limits.cycles) refl
  skip-cycles (UnderrunLine x ∷ xs) s = rw (same limits.cycles) refl
  skip-cycles (End ∷ xs) s = rw (same limits.cycles) refl

  skip-meters : (xs : List Line) → Starts 4 xs → (n : ℕ) → walk limits (Meters n) xs ≡ walk limits (Events 0) xs
  skip-meters [] s n = absurd s
  skip-meters (ReportLine ∷ xs) s n = absurd (omega (arith, s))
  skip-meters (Call x ∷ xs) s n = absurd (omega (arith, s))
  skip-meters (Cycle x ∷ xs) s n = absurd (omega (arith, s))
  skip-meters (Meter x ∷ xs) s n = absurd (omega (arith, s))
  skip-meters (Midi x ∷ xs) s n = refl
  skip-meters (Recorder x ∷ xs) s n = refl
  skip-meters (OverrunLine x ∷ xs) s n = refl
  skip-meters (Disk x ∷ xs) s n = refl
  skip-meters (UnderrunLine x ∷ xs) s n = refl
  skip-meters (End ∷ xs) s n = refl

  skip-events : (xs : List Line) → Starts 5 xs → (n : ℕ) → walk limits (Events n) xs ≡ walk limits (Recorders 0 0) xs
  skip-events [] s n = absurd s
  skip-events (ReportLine ∷ xs) s n = absurd (omega (arith, s))
  skip-events (Call x ∷ xs) s n = absurd (omega (arith, s))
  skip-events (Cycle x ∷ xs) s n = absurd (omega (arith, s))
  skip-events (Meter x ∷ xs) s n = absurd (omega (arith, s))
  skip-events (Midi x ∷ xs) s n = absurd (omega (arith, s))
  skip-events (Recorder x ∷ xs) s n = refl
  skip-events (OverrunLine x ∷ xs) s n = refl
  skip-events (Disk x ∷ xs) s n = refl
  skip-events (UnderrunLine x ∷ xs) s n = refl
  skip-events (End ∷ xs) s n = refl

  skip-recorders : (xs : List Line) → Starts 6 xs → walk limits (Recorders limits.recorders 0) xs ≡ walk limits (Disks 0 0) xs
  skip-recorders [] s = absurd s
  skip-recorders (ReportLine ∷ xs) s = absurd (omega (arith, s))
  skip-recorders (Call x ∷ xs) s = absurd (omega (arith, s))
  skip-recorders (Cycle x ∷ xs) s = absurd (omega (arith, s))
  skip-recorders (Meter x ∷ xs) s = absurd (omega (arith, s))
  skip-recorders (Midi x ∷ xs) s = absurd (omega (arith, s))
  skip-recorders (Recorder x ∷ xs) s = absurd (omega (arith, s))
  skip-recorders (OverrunLine x ∷ xs) s = absurd (omega (arith, s))
  skip-recorders (Disk x ∷ xs) s = rw (same limits.recorders) refl
  skip-recorders (UnderrunLine x ∷ xs) s = rw (same limits.recorders) refl
  skip-recorders (End ∷ xs) s = rw (same limits.recorders) refl

  -- ---- the lines of a kind

  calls-pass : (ys : List Line) → ((m : ℕ) → walk limits (Calls m) ys ≡ Some Done) → (calls : List PrintedCall) (n : ℕ) → n + length calls ≤ limits.calls → walk limits (Calls n) (map call_row calls ++ ys) ≡ Some Done
  calls-pass ys f [] n h = f n
  calls-pass ys f (x ∷ calls) n h =
      let low : n < limits.calls = omega (arith, h) in
      let test : nat_lt n limits.calls ≡ true = grind (arith, nat_tests) in
      rw test (calls-pass ys f calls (n + 1) (omega (arith, h)))

  meters-pass : (ys : List Line) → ((m : ℕ) → walk limits (Meters m) ys ≡ Some Done) → (meters : List PrintedMeter) (n : ℕ) → n + length meters ≤ limits.meters → walk limits (Meters n) (map meter_row meters ++ ys) ≡ Some Done
  meters-pass ys f [] n h = f n
  meters-pass ys f (x ∷ meters) n h =
      let low : n < limits.meters = omega (arith, h) in
      let test : nat_lt n limits.meters ≡ true = grind (arith, nat_tests) in
      rw test (meters-pass ys f meters (n + 1) (omega (arith, h)))

  events-pass : (ys : List Line) → ((m : ℕ) → walk limits (Events m) ys ≡ Some Done) → (events : List PrintedEvent) (n : ℕ) → n + length events ≤ limits.events → walk limits (Events n) (map event_row events ++ ys) ≡ Some Done
  events-pass ys f [] n h = f n
  events-pass ys f (x ∷ events) n h =
      let low : n < limits.events = omega (arith, h) in
      let test : nat_lt n limits.events ≡ true = grind (arith, nat_tests) in
      rw test (events-pass ys f events (n + 1) (omega (arith, h)))

  pub cycles-pass : (ys : List Line) → walk limits (Cycles limits.cycles) ys ≡ Some Done → (cycles : List PrintedCycle) (n : ℕ) → n + length cycles ≡ limits.cycles
      → ((i : ℕ) (cycle : PrintedCycle) → slice_get cycles i ≡ Some cycle → cycle.moment.cycle ≡ n + i + 1) → walk limits (Cycles n) (map cycle_row cycles ++ ys) ≡ Some Done
  cycles-pass ys f [] n h k = let e : limits.cycles ≡ n = omega (arith, h) in subst (λ m. walk limits (Cycles m) ys ≡ Some Done) e f
  cycles-pass ys f (x ∷ cycles) n h k =
      let low : n < limits.cycles = omega (arith, h) in
      let first : x.moment.cycle ≡ n + 0 + 1 = k 0 x refl in
      let numbered : x.moment.cycle ≡ n + 1 = omega (arith, first) in
      let test : nat_lt n limits.cycles ≡ true = grind (arith, nat_tests) in
      let number : (x.moment.cycle == n + 1) ≡ true = grind (arith, nat_tests) in
      rw (test, number) (cycles-pass ys f cycles (n + 1) (omega (arith, h)) (λ i y e. later i y (k (suc i) y e)))
    where
      later : (i : ℕ) (y : PrintedCycle) → y.moment.cycle ≡ n + suc i + 1 → y.moment.cycle ≡ n + 1 + i + 1
      later i y e = omega (arith, e)

  pub overruns-pass : (r : ℕ) (ys : List Line) → walk limits (Recorders r 0) ys ≡ Some Done → (overruns : List Overrun) → Each (λ o. o.recorder + 1 ≡ r) overruns
      → walk limits (Recorders r (length overruns)) (map overrun_row overruns ++ ys) ≡ Some Done
  overruns-pass r ys f [] h = f
  overruns-pass r ys f (x ∷ overruns) h =
      let its : x.recorder + 1 ≡ r = h.0 in
      let some : nat_lt 0 (suc (length overruns)) ≡ true = grind (arith, nat_tests) in
      let number : (x.recorder + 1 == r) ≡ true = grind (arith, nat_tests) in
      let less : length overruns ≡ suc (length overruns) - 1 = omega arith in
      rw (some, number) (subst (λ m. walk limits (Recorders r m) (map overrun_row overruns ++ ys) ≡ Some Done) less (overruns-pass r ys f overruns h.1))

  pub underruns-pass : (d : ℕ) (ys : List Line) → walk limits (Disks d 0) ys ≡ Some Done → (underruns : List Underrun) → Each (λ o. o.disk + 1 ≡ d) underruns
      → walk limits (Disks d (length underruns)) (map underrun_row underruns ++ ys) ≡ Some Done
  underruns-pass d ys f [] h = f
  underruns-pass d ys f (x ∷ underruns) h =
      let its : x.disk + 1 ≡ d = h.0 in
      let some : nat_lt 0 (suc (length underruns)) ≡ true = grind (arith, nat_tests) in
      let number : (x.disk + 1 == d) ≡ true = grind (arith, nat_tests) in
      let less : length underruns ≡ suc (length underruns) - 1 = omega arith in
      rw (some, number) (subst (λ m. walk limits (Disks d m) (map underrun_row underruns ++ ys) ≡ Some Done) less (underruns-pass d ys f underruns h.1))

  pub recorders-pass : (ys : List Line) → walk limits (Recorders limits.recorders 0) ys ≡ Some Done → (recorders : List PrintedRecorder) (r : ℕ) → r + length recorders ≡ limits.recorders
      → ((i : ℕ) (recorder : PrintedRecorder) → slice_get recorders i ≡ Some recorder → IsPlacedRecorder script (r + i) recorder) → walk limits (Recorders r 0) (flat_map recorder_rows recorders ++ ys) ≡ Some Done
  recorders-pass ys f [] r h k = let e : limits.recorders ≡ r = omega (arith, h) in subst (λ m. walk limits (Recorders m 0) ys ≡ Some Done) e f
  recorders-pass ys f (x ∷ recorders) r h k =
      let low : r < limits.recorders = omega (arith, h) in
      let placed = k 0 x refl in
      let its : x.recorder ≡ r = omega (arith, placed.number_is) in
      let few : length x.overruns ≤ limits.cycles = placed.few in
      let test : nat_lt r limits.recorders ≡ true = grind (arith, nat_tests) in
      let number : (x.recorder == r) ≡ true = grind (arith, nat_tests) in
      let told : nat_le (length x.overruns) limits.cycles ≡ true = grind (arith, nat_tests) in
      let each : Each (λ (o : Overrun). o.recorder + 1 ≡ r + 1) x.overruns =
      Each-weaker (λ (o : Overrun). o.recorder ≡ r + 0) (λ (o : Overrun). o.recorder + 1 ≡ r + 1) (λ o e. omega (arith, e)) x.overruns (Each-from_all (λ (o : Overrun). o.recorder ≡ r + 0) x.overruns placed.each) in
      let behind = recorders-pass ys f recorders (r + 1) (omega (arith, h)) (λ i y e. subst (λ j. IsPlacedRecorder script j y) (further i) (k (suc i) y e)) in
      rw (test, number, told)
      (subst (λ (zs : List Line). walk limits (Recorders (r + 1) (length x.overruns)) zs ≡ Some Done) (sym (append_assoc (map overrun_row x.overruns) (flat_map recorder_rows recorders) ys))
      (overruns-pass (r + 1) (flat_map recorder_rows recorders ++ ys) behind x.overruns each))
    where
      further : (i : ℕ) → r + suc i ≡ r + 1 + i
      further i = omega arith

  pub disks-pass : (ys : List Line) → walk limits (Disks limits.disks 0) ys ≡ Some Done → (disks : List PrintedDisk) (d : ℕ) → d + length disks ≡ limits.disks
      → ((i : ℕ) (disk : PrintedDisk) → slice_get disks i ≡ Some disk → IsPlacedDisk script (d + i) disk) → walk limits (Disks d 0) (flat_map disk_rows disks ++ ys) ≡ Some Done
  disks-pass ys f [] d h k = let e : limits.disks ≡ d = omega (arith, h) in subst (λ m. walk limits (Disks m 0) ys ≡ Some Done) e f
  disks-pass ys f (x ∷ disks) d h k =
      let low : d < limits.disks = omega (arith, h) in
      let placed = k 0 x refl in
      let its : x.disk ≡ d = omega (arith, placed.number_is) in
      let few : length x.underruns ≤ limits.cycles = placed.few in
      let test : nat_lt d limits.disks ≡ true = grind (arith, nat_tests) in
      let number : (x.disk == d) ≡ true = grind (arith, nat_tests) in
      let told : nat_le (length x.underruns) limits.cycles ≡ true = grind (arith, nat_tests) in
      let each : Each (λ (o : Underrun). o.disk + 1 ≡ d + 1) x.underruns =
      Each-weaker (λ (o : Underrun). o.disk ≡ d + 0) (λ (o : Underrun). o.disk + 1 ≡ d + 1) (λ o e. omega (arith, e)) x.underruns (Each-from_all (λ (o : Underrun). o.disk ≡ d + 0) x.underruns placed.each) in
      let behind = disks-pass ys f disks (d + 1) (omega (arith, h)) (λ i y e. subst (λ j. IsPlacedDisk script j y) (further i) (k (suc i) y e)) in
      rw (test, number, told)
      (subst (λ (zs : List Line). walk limits (Disks (d + 1) (length x.underruns)) zs ≡ Some Done) (sym (append_assoc (map underrun_row x.underruns) (flat_map disk_rows disks) ys))
      (underruns-pass (d + 1) (flat_map disk_rows disks ++ ys) behind x.underruns each))
    where
      further : (i : ℕ) → d + suc i ≡ d + 1 + i
      further i = omega arith

  pub end-passes : walk limits (Disks limits.disks 0) (End ∷ []) ≡ Some Done
  end-passes = rw (same limits.disks) refl

  -- ---- a whole report

  pub disks-walk : (disks : List PrintedDisk) → length disks ≡ limits.disks → ((i : ℕ) (disk : PrintedDisk) → slice_get disks i ≡ Some disk → IsPlacedDisk script i disk)
      → walk limits (Disks 0 0) (flat_map disk_rows disks ++ End ∷ []) ≡ Some Done
  disks-walk disks h k = disks-pass (End ∷ []) end-passes disks 0 (omega (arith, h)) (λ i y e. subst (λ j. IsPlacedDisk script j y) (zero-first i) (k i y e))
    where
      zero-first : (i : ℕ) → i ≡ 0 + i
      zero-first i = omega arith

  pub behind-recorders : (disks : List PrintedDisk) → walk limits (Disks 0 0) (flat_map disk_rows disks ++ End ∷ []) ≡ Some Done → walk limits (Recorders limits.recorders 0) (flat_map disk_rows disks ++ End ∷ []) ≡ Some Done
  behind-recorders disks h = skip-recorders (flat_map disk_rows disks ++ End ∷ []) (starts-disks disks) ∙ h

  pub behind-cycles : (recorders : List PrintedRecorder) (disks : List PrintedDisk)
      → walk limits (Recorders 0 0) (flat_map recorder_rows recorders ++ (flat_map disk_rows disks ++ End ∷ [])) ≡ Some Done
      → (walk limits (Cycles limits.cycles) (flat_map recorder_rows recorders ++ (flat_map disk_rows disks ++ End ∷ [])) ≡ Some Done)
      × ((m : ℕ) → walk limits (Meters m) (flat_map recorder_rows recorders ++ (flat_map disk_rows disks ++ End ∷ [])) ≡ Some Done)
      × ((m : ℕ) → walk limits (Events m) (flat_map recorder_rows recorders ++ (flat_map disk_rows disks ++ End ∷ [])) ≡ Some Done)
  behind-cycles recorders disks h = (
    skip-cycles lines (starts-sooner 3 5 lines (omega arith) starts) ∙ meters 0,
    meters,
    events,
  )
    where
      lines : List Line
      lines = flat_map recorder_rows recorders ++ (flat_map disk_rows disks ++ End ∷ [])

      starts : Starts 5 lines
      starts = starts-recorders recorders (flat_map disk_rows disks ++ End ∷ []) (starts-disks disks)

      events : (m : ℕ) → walk limits (Events m) lines ≡ Some Done
      events m = skip-events lines starts m ∙ h

      meters : (m : ℕ) → walk limits (Meters m) lines ≡ Some Done
      meters m = skip-meters lines (starts-sooner 4 5 lines (omega arith) starts) m ∙ events 0

  pub behind-calls : (cycles : List PrintedCycle) (ys : List Line) → Starts 3 ys → walk limits (Cycles 0) (map cycle_row cycles ++ ys) ≡ Some Done → (m : ℕ) → walk limits (Calls m) (map cycle_row cycles ++ ys) ≡ Some Done
  behind-calls cycles ys s h m = skip-calls (map cycle_row cycles ++ ys) (starts-map 2 3 cycle_row (λ x. omega arith) cycles ys (omega arith) s) m ∙ h

  pub recorders-start : (recorders : List PrintedRecorder) (disks : List PrintedDisk) → Starts 3 (flat_map recorder_rows recorders ++ (flat_map disk_rows disks ++ End ∷ []))
  recorders-start recorders disks =
      starts-sooner 3 5 (flat_map recorder_rows recorders ++ (flat_map disk_rows disks ++ End ∷ [])) (omega arith) (starts-recorders recorders (flat_map disk_rows disks ++ End ∷ []) (starts-disks disks))

  module _ (report : Report) (placed : IsPlaced script report) where
    abbrev disk_lines : List Line
    disk_lines = flat_map disk_rows report.disks ++ End ∷ []

    abbrev recorder_lines : List Line
    recorder_lines = flat_map recorder_rows report.recorders ++ disk_lines

    abbrev event_lines : List Line
    event_lines = map event_row report.events ++ recorder_lines

    abbrev meter_lines : List Line
    meter_lines = map meter_row report.meters ++ event_lines

    abbrev cycle_lines : List Line
    cycle_lines = map cycle_row report.cycles ++ meter_lines

    nested : report_rows report ≡ ReportLine ∷ map call_row report.calls ++ cycle_lines
    nested =
        let a : List Line = ReportLine ∷ map call_row report.calls in
        let b : List Line = map cycle_row report.cycles in
        let c : List Line = map meter_row report.meters in
        let d : List Line = map event_row report.events in
        let e : List Line = flat_map recorder_rows report.recorders in
        let f : List Line = flat_map disk_rows report.disks in
        append_assoc (a ++ b ++ c ++ d ++ e) f (End ∷ [])
        ∙ append_assoc (a ++ b ++ c ++ d) e disk_lines
        ∙ append_assoc (a ++ b ++ c) d recorder_lines
        ∙ append_assoc (a ++ b) c event_lines
        ∙ append_assoc a b meter_lines

    zero-first : (i : ℕ) → i ≡ 0 + i
    zero-first i = omega arith

    recorders-walk : walk limits (Recorders 0 0) recorder_lines ≡ Some Done
    recorders-walk =
        recorders-pass disk_lines (behind-recorders report.disks (disks-walk report.disks placed.disks placed.disk_each)) report.recorders 0 (omega (arith, placed.recorders))
        (λ i y e. subst (λ j. IsPlacedRecorder script j y) (zero-first i) (placed.recorder_each i y e))

    events-start : Starts 4 event_lines
    events-start = starts-map 4 5 event_row (λ x. omega arith) report.events recorder_lines (omega arith) (starts-recorders report.recorders disk_lines (starts-disks report.disks))

    meters-start : Starts 3 meter_lines
    meters-start = starts-map 3 4 meter_row (λ x. omega arith) report.meters event_lines (omega arith) events-start

    events-walk : (m : ℕ) → walk limits (Meters m) event_lines ≡ Some Done
    events-walk m = skip-meters event_lines events-start m ∙ events-pass recorder_lines (behind-cycles report.recorders report.disks recorders-walk).2 report.events 0 (omega (arith, placed.few_events))

    meters-walk : walk limits (Cycles limits.cycles) meter_lines ≡ Some Done
    meters-walk = skip-cycles meter_lines meters-start ∙ meters-pass event_lines events-walk report.meters 0 (omega (arith, placed.few_meters))

    cycles-walk : walk limits (Cycles 0) cycle_lines ≡ Some Done
    cycles-walk = cycles-pass meter_lines meters-walk report.cycles 0 (omega (arith, placed.cycles)) (λ i y e. numbered i y (placed.cycle_each i y e))
      where
        numbered : (i : ℕ) (y : PrintedCycle) → y.moment.cycle ≡ i + 1 → y.moment.cycle ≡ 0 + i + 1
        numbered i y e = omega (arith, e)

    pub report-walks : walk limits Start (report_rows report) ≡ Some Done
    report-walks =
        ap (walk limits Start) nested
        ∙ calls-pass cycle_lines (behind-calls report.cycles meter_lines meters-start cycles-walk) report.calls 0 (omega (arith, placed.few_calls))
