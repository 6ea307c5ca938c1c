-- A place that lines lead to has a way to the end.
--     walk-near      what a place that was reached says of its numbers
--     rest-walks      from there the rest leads to the end
--     rest-form      the rest's lines are of the form
use Rattle.std.proofs.Common.{◌≡◌, ℕ, zero, suc, ◌+◌, ◌-◌, ◌<◌, ◌≤◌, ◌==◌, ◌&&◌, Bool, true, false, cond, nat_lt, nat_le, List, [], ◌∷◌, ◌++◌, length, map, flat_map, slice_get, Option, Some, None, refl, ap, subst, arith}
use Rattle.std.specs.Prelude.{option_and_then}
use Rattle.std.proofs.lemmas.Bool.Decides.{nat_tests}
use Rattle.jack_types.specs.declared.replies.Overrun.{Overrun}
use Rattle.jack_types.specs.declared.replies.Underrun.{Underrun}
use Rattle.session_model.specs.Grammar.{IsScript}
use Rattle.session_model.specs.Reports.{PrintedCycle, PrintedRecorder, PrintedDisk}
use Rattle.session_model.specs.Scripts.{Script}
use Rattle.session_laws.proofs.ListLemmas.{Each, Each-append, Each-map, Each-flat_map, slice-some}
use Rattle.report_texts.proofs.SameReportLemmas.{turns-few}
use Rattle.report_reader.specs.Forms.{IsLineForm}
use Rattle.report_reader.specs.Reports.{IsPlacedRecorder, IsPlacedDisk, cycle_row, disk_rows, overrun_row, recorder_rows, underrun_row}
use Rattle.report_reader.specs.declared.rows.Line.{Line}
use Rattle.report_reader.specs.declared.rows.Line.TheVariants.{Report as ReportLine, Call, Cycle, Meter, Midi, Recorder, Overrun as OverrunLine, Disk, Underrun as UnderrunLine, End}
use Rattle.report_laws.specs.Places.{at_start, cycles_from, disks_from, in_calls, in_cycles, in_disks, in_events, in_meters, in_recorders, limits_of, next, overruns_of, recorders_from, rest, rest_cycles, rest_disks, rest_recorders, underruns_of, walk}
use Rattle.report_laws.specs.declared.places.Limits.{Limits}
use Rattle.report_laws.specs.declared.places.Place.{Place}
use Rattle.report_laws.specs.declared.places.Place.TheVariants.{Start, Calls, Cycles, Meters, Events, Recorders, Disks, Done}
use Rattle.report_laws.proofs.WalkLemmas.{behind-calls, behind-cycles, behind-recorders, cycles-pass, disks-pass, end-passes, overruns-pass, recorders-pass, recorders-start, underruns-pass}

none-some : {X : Type 0} (x : X) → None ≡ Some x → ⊥
none-some x e = cc

-- so many files at most, and one at least where something is left of the last
pub record IsWithin (most file left : ℕ) : Type 0 where
  pub few : file ≤ most
  pub some : 0 < left → 0 < file

abbrev pub IsNear : Limits → Place → Type 0
IsNear limits Start = Unit {0}
IsNear limits (Calls n) = Unit {0}
IsNear limits (Cycles n) = n ≤ limits.cycles
IsNear limits (Meters n) = Unit {0}
IsNear limits (Events n) = Unit {0}
IsNear limits (Recorders r left) = IsWithin limits.recorders r left
IsNear limits (Disks d left) = IsWithin limits.disks d left
IsNear limits Done = Unit {0}

module _ (limits : Limits) where
  -- a test and a place where it holds
  tested : (t : Bool) (p q : Place) → (t ≡ true → IsNear limits p) → cond t (Some p) None ≡ Some q → IsNear limits q
  tested false p q f e = absurd (none-some q e)
  tested true p q f e = subst (IsNear limits) (slice-some p q e) (f refl)

  both-left : (s t : Bool) → (s && t) ≡ true → s ≡ true
  both-left true t e = refl
  both-left false t e = e

  both-right : (s t : Bool) → (s && t) ≡ true → t ≡ true
  both-right true t e = e
  both-right false t e = absurd cc

  four : (s t u v : Bool) → (s && t && u && v) ≡ true → t ≡ true
  four true true u v e = refl
  four true false u v e = absurd cc
  four false t u v e = absurd cc

  disks-near : (d left : ℕ) → d ≤ limits.disks → (x : Line) (q : Place) → in_disks limits d left x ≡ Some q → IsNear limits q
  disks-near d left low (Disk count) q e =
      tested (left == 0 && nat_lt d limits.disks && (count.file == d) && nat_le count.losses limits.cycles) (Disks (d + 1) count.losses) q
      (λ t. let test : nat_lt d limits.disks ≡ true = four (left == 0) (nat_lt d limits.disks) (count.file == d) (nat_le count.losses limits.cycles) t in record { few = grind (arith, nat_tests); some = λ h. omega arith }) e
  disks-near d left low (UnderrunLine loss) q e =
      tested (nat_lt 0 left && (loss.file + 1 == d)) (Disks d (left - 1)) q
      (λ t. let test : (loss.file + 1 == d) ≡ true = both-right (nat_lt 0 left) (loss.file + 1 == d) t in record { few = low; some = λ h. grind (arith, nat_tests) }) e
  disks-near d left low End q e = tested (left == 0 && (d == limits.disks)) Done q (λ t. tt) e
  disks-near d left low ReportLine q e = absurd (none-some q e)
  disks-near d left low (Call x) q e = absurd (none-some q e)
  disks-near d left low (Cycle x) q e = absurd (none-some q e)
  disks-near d left low (Meter x) q e = absurd (none-some q e)
  disks-near d left low (Midi x) q e = absurd (none-some q e)
  disks-near d left low (Recorder x) q e = absurd (none-some q e)
  disks-near d left low (OverrunLine x) q e = absurd (none-some q e)

  recorders-end : (t : Bool) (x : Line) (q : Place) → cond t (in_disks limits 0 0 x) None ≡ Some q → IsNear limits q
  recorders-end false x q e = absurd (none-some q e)
  recorders-end true x q e = disks-near 0 0 (omega arith) x q e

  recorders-near : (r left : ℕ) → r ≤ limits.recorders → (x : Line) (q : Place) → in_recorders limits r left x ≡ Some q → IsNear limits q
  recorders-near r left low (Recorder count) q e =
      tested (left == 0 && nat_lt r limits.recorders && (count.file == r) && nat_le count.losses limits.cycles) (Recorders (r + 1) count.losses) q
      (λ t. let test : nat_lt r limits.recorders ≡ true = four (left == 0) (nat_lt r limits.recorders) (count.file == r) (nat_le count.losses limits.cycles) t in record { few = grind (arith, nat_tests); some = λ h. omega arith }) e
  recorders-near r left low (OverrunLine loss) q e =
      tested (nat_lt 0 left && (loss.file + 1 == r)) (Recorders r (left - 1)) q
      (λ t. let test : (loss.file + 1 == r) ≡ true = both-right (nat_lt 0 left) (loss.file + 1 == r) t in record { few = low; some = λ h. grind (arith, nat_tests) }) e
  recorders-near r left low ReportLine q e = recorders-end (left == 0 && (r == limits.recorders)) ReportLine q e
  recorders-near r left low (Call x) q e = recorders-end (left == 0 && (r == limits.recorders)) (Call x) q e
  recorders-near r left low (Cycle x) q e = recorders-end (left == 0 && (r == limits.recorders)) (Cycle x) q e
  recorders-near r left low (Meter x) q e = recorders-end (left == 0 && (r == limits.recorders)) (Meter x) q e
  recorders-near r left low (Midi x) q e = recorders-end (left == 0 && (r == limits.recorders)) (Midi x) q e
  recorders-near r left low (Disk x) q e = recorders-end (left == 0 && (r == limits.recorders)) (Disk x) q e
  recorders-near r left low (UnderrunLine x) q e = recorders-end (left == 0 && (r == limits.recorders)) (UnderrunLine x) q e
  recorders-near r left low End q e = recorders-end (left == 0 && (r == limits.recorders)) End q e

  events-near : (n : ℕ) (x : Line) (q : Place) → in_events limits n x ≡ Some q → IsNear limits q
  events-near n (Midi x) q e = tested (nat_lt n limits.events) (Events (n + 1)) q (λ t. tt) e
  events-near n ReportLine q e = recorders-near 0 0 (omega arith) ReportLine q e
  events-near n (Call x) q e = recorders-near 0 0 (omega arith) (Call x) q e
  events-near n (Cycle x) q e = recorders-near 0 0 (omega arith) (Cycle x) q e
  events-near n (Meter x) q e = recorders-near 0 0 (omega arith) (Meter x) q e
  events-near n (Recorder x) q e = recorders-near 0 0 (omega arith) (Recorder x) q e
  events-near n (OverrunLine x) q e = recorders-near 0 0 (omega arith) (OverrunLine x) q e
  events-near n (Disk x) q e = recorders-near 0 0 (omega arith) (Disk x) q e
  events-near n (UnderrunLine x) q e = recorders-near 0 0 (omega arith) (UnderrunLine x) q e
  events-near n End q e = recorders-near 0 0 (omega arith) End q e

  meters-near : (n : ℕ) (x : Line) (q : Place) → in_meters limits n x ≡ Some q → IsNear limits q
  meters-near n (Meter x) q e = tested (nat_lt n limits.meters) (Meters (n + 1)) q (λ t. tt) e
  meters-near n ReportLine q e = events-near 0 ReportLine q e
  meters-near n (Call x) q e = events-near 0 (Call x) q e
  meters-near n (Cycle x) q e = events-near 0 (Cycle x) q e
  meters-near n (Midi x) q e = events-near 0 (Midi x) q e
  meters-near n (Recorder x) q e = events-near 0 (Recorder x) q e
  meters-near n (OverrunLine x) q e = events-near 0 (OverrunLine x) q e
  meters-near n (Disk x) q e = events-near 0 (Disk x) q e
  meters-near n (UnderrunLine x) q e = events-near 0 (UnderrunLine x) q e
  meters-near n End q e = events-near 0 End q e

  cycles-end : (t : Bool) (x : Line) (q : Place) → cond t (in_meters limits 0 x) None ≡ Some q → IsNear limits q
  cycles-end false x q e = absurd (none-some q e)
  cycles-end true x q e = meters-near 0 x q e

  cycles-near : (n : ℕ) (x : Line) (q : Place) → in_cycles limits n x ≡ Some q → IsNear limits q
  cycles-near n (Cycle x) q e =
      tested (nat_lt n limits.cycles && (x.cycle == n + 1)) (Cycles (n + 1)) q
      (λ t. let test : nat_lt n limits.cycles ≡ true = both-left (nat_lt n limits.cycles) (x.cycle == n + 1) t in grind (arith, nat_tests)) e
  cycles-near n ReportLine q e = cycles-end (n == limits.cycles) ReportLine q e
  cycles-near n (Call x) q e = cycles-end (n == limits.cycles) (Call x) q e
  cycles-near n (Meter x) q e = cycles-end (n == limits.cycles) (Meter x) q e
  cycles-near n (Midi x) q e = cycles-end (n == limits.cycles) (Midi x) q e
  cycles-near n (Recorder x) q e = cycles-end (n == limits.cycles) (Recorder x) q e
  cycles-near n (OverrunLine x) q e = cycles-end (n == limits.cycles) (OverrunLine x) q e
  cycles-near n (Disk x) q e = cycles-end (n == limits.cycles) (Disk x) q e
  cycles-near n (UnderrunLine x) q e = cycles-end (n == limits.cycles) (UnderrunLine x) q e
  cycles-near n End q e = cycles-end (n == limits.cycles) End q e

  calls-near : (n : ℕ) (x : Line) (q : Place) → in_calls limits n x ≡ Some q → IsNear limits q
  calls-near n (Call x) q e = tested (nat_lt n limits.calls) (Calls (n + 1)) q (λ t. tt) e
  calls-near n ReportLine q e = cycles-near 0 ReportLine q e
  calls-near n (Cycle x) q e = cycles-near 0 (Cycle x) q e
  calls-near n (Meter x) q e = cycles-near 0 (Meter x) q e
  calls-near n (Midi x) q e = cycles-near 0 (Midi x) q e
  calls-near n (Recorder x) q e = cycles-near 0 (Recorder x) q e
  calls-near n (OverrunLine x) q e = cycles-near 0 (OverrunLine x) q e
  calls-near n (Disk x) q e = cycles-near 0 (Disk x) q e
  calls-near n (UnderrunLine x) q e = cycles-near 0 (UnderrunLine x) q e
  calls-near n End q e = cycles-near 0 End q e

  start-near : (x : Line) (q : Place) → at_start x ≡ Some q → IsNear limits q
  start-near ReportLine q e = subst (IsNear limits) (slice-some (Calls 0) q e) tt
  start-near (Call x) q e = absurd (none-some q e)
  start-near (Cycle x) q e = absurd (none-some q e)
  start-near (Meter x) q e = absurd (none-some q e)
  start-near (Midi x) q e = absurd (none-some q e)
  start-near (Recorder x) q e = absurd (none-some q e)
  start-near (OverrunLine x) q e = absurd (none-some q e)
  start-near (Disk x) q e = absurd (none-some q e)
  start-near (UnderrunLine x) q e = absurd (none-some q e)
  start-near End q e = absurd (none-some q e)

  next-near : (p : Place) → IsNear limits p → (x : Line) (q : Place) → next limits p x ≡ Some q → IsNear limits q
  next-near Start near x q e = start-near x q e
  next-near (Calls n) near x q e = calls-near n x q e
  next-near (Cycles n) near x q e = cycles-near n x q e
  next-near (Meters n) near x q e = meters-near n x q e
  next-near (Events n) near x q e = events-near n x q e
  next-near (Recorders r left) near x q e = recorders-near r left near.few x q e
  next-near (Disks d left) near x q e = disks-near d left near.few x q e
  next-near Done near x q e = absurd (none-some q e)

  pub walk-near : (xs : List Line) (p : Place) → IsNear limits p → (q : Place) → walk limits p xs ≡ Some q → IsNear limits q
  walk-near [] p near q e = subst (IsNear limits) (slice-some p q e) near
  walk-near (x ∷ xs) p near q e = go (next limits p x) refl e (λ r close k. walk-near xs r close q k)
    where
      go : (o : Option Place) → next limits p x ≡ o → option_and_then (λ r. walk limits r xs) o ≡ Some q → ((r : Place) → IsNear limits r → walk limits r xs ≡ Some q → IsNear limits q) → IsNear limits q
      go None a k f = absurd (none-some q k)
      go (Some r) a k f = f r (next-near p near x r a) k

-- ---- the rest

length-overruns : (r left : ℕ) → length (overruns_of r left) ≡ left
length-overruns r zero = refl
length-overruns r (suc left) = ap suc (length-overruns r left)

length-underruns : (d left : ℕ) → length (underruns_of d left) ≡ left
length-underruns d zero = refl
length-underruns d (suc left) = ap suc (length-underruns d left)

overruns-each : (P : Overrun → Type 0) (r left : ℕ) → P (record { recorder = r - 1; cycle = 0; sent = 0; taken = 0 }) → Each P (overruns_of r left)
overruns-each P r zero h = tt
overruns-each P r (suc left) h = (h, overruns-each P r left h)

underruns-each : (P : Underrun → Type 0) (d left : ℕ) → P (record { disk = d - 1; cycle = 0; sent = 0; taken = 0 }) → Each P (underruns_of d left)
underruns-each P d zero h = tt
underruns-each P d (suc left) h = (h, underruns-each P d left h)

length-cycles : (n more : ℕ) → length (cycles_from n more) ≡ more
length-cycles n zero = refl
length-cycles n (suc more) = ap suc (length-cycles (n + 1) more)

length-recorders : (r more : ℕ) → length (recorders_from r more) ≡ more
length-recorders r zero = refl
length-recorders r (suc more) = ap suc (length-recorders (r + 1) more)

length-disks : (d more : ℕ) → length (disks_from d more) ≡ more
length-disks d zero = refl
length-disks d (suc more) = ap suc (length-disks (d + 1) more)

cycles-numbered : (n more i : ℕ) (cycle : PrintedCycle) → slice_get (cycles_from n more) i ≡ Some cycle → cycle.moment.cycle ≡ n + i + 1
cycles-numbered n zero i cycle e = absurd (none-some cycle e)
cycles-numbered n (suc more) zero cycle e = let same = slice-some _ cycle e in omega (arith, ap (λ (y : PrintedCycle). y.moment.cycle) same)
cycles-numbered n (suc more) (suc i) cycle e = omega (arith, cycles-numbered (n + 1) more i cycle e)

module _ (script : Script) where
  recorders-placed : (r more i : ℕ) (recorder : PrintedRecorder) → slice_get (recorders_from r more) i ≡ Some recorder → IsPlacedRecorder script (r + i) recorder
  recorders-placed r zero i recorder e = absurd (none-some recorder e)
  recorders-placed r (suc more) zero recorder e =
      subst (IsPlacedRecorder script (r + 0)) (slice-some (record { recorder = r; blocks = 0; overruns = [] }) recorder e) (record { number_is = omega arith; few = omega arith; each = λ k d b. absurd (omega (arith, b)) })
  recorders-placed r (suc more) (suc i) recorder e = subst (λ j. IsPlacedRecorder script j recorder) (further i) (recorders-placed (r + 1) more i recorder e)
    where
      further : (i : ℕ) → r + 1 + i ≡ r + suc i
      further i = omega arith

  disks-placed : (d more i : ℕ) (disk : PrintedDisk) → slice_get (disks_from d more) i ≡ Some disk → IsPlacedDisk script (d + i) disk
  disks-placed d zero i disk e = absurd (none-some disk e)
  disks-placed d (suc more) zero disk e =
      subst (IsPlacedDisk script (d + 0)) (slice-some (record { disk = d; blocks = 0; underruns = [] }) disk e) (record { number_is = omega arith; few = omega arith; each = λ k d b. absurd (omega (arith, b)) })
  disks-placed d (suc more) (suc i) disk e = subst (λ j. IsPlacedDisk script j disk) (further i) (disks-placed (d + 1) more i disk e)
    where
      further : (i : ℕ) → d + 1 + i ≡ d + suc i
      further i = omega arith

  abbrev limits : Limits
  limits = limits_of script

  rest-disks-walk : (d left : ℕ) → IsWithin limits.disks d left → walk limits (Disks d left) (rest_disks limits d left) ≡ Some Done
  rest-disks-walk d left near =
      subst (λ m. walk limits (Disks d m) (rest_disks limits d left) ≡ Some Done) (length-underruns d left)
      (underruns-pass script d (flat_map disk_rows (disks_from d (limits.disks - d)) ++ End ∷ [])
      (disks-pass script (End ∷ []) (end-passes script) (disks_from d (limits.disks - d)) d (omega (arith, near.few, length-disks d (limits.disks - d))) (disks-placed d (limits.disks - d)))
      (underruns_of d left) (each left near))
    where
      each : (left : ℕ) → IsWithin limits.disks d left → Each (λ (o : Underrun). o.disk + 1 ≡ d) (underruns_of d left)
      each zero near = tt
      each (suc left) near = underruns-each (λ (o : Underrun). o.disk + 1 ≡ d) d (suc left) (omega (arith, near.some (omega arith)))

  no-disks : walk limits (Disks 0 0) (rest_disks limits 0 0) ≡ Some Done
  no-disks = rest-disks-walk 0 0 (record { few = omega arith; some = λ h. absurd (omega (arith, h)) })

  rest-recorders-walk : (r left : ℕ) → IsWithin limits.recorders r left → walk limits (Recorders r left) (rest_recorders limits r left) ≡ Some Done
  rest-recorders-walk r left near =
      subst (λ m. walk limits (Recorders r m) (rest_recorders limits r left) ≡ Some Done) (length-overruns r left)
      (overruns-pass script r (flat_map recorder_rows (recorders_from r (limits.recorders - r)) ++ rest_disks limits 0 0)
      (recorders-pass script (rest_disks limits 0 0) (behind-recorders script (disks_from 0 (limits.disks - 0)) no-disks) (recorders_from r (limits.recorders - r)) r
      (omega (arith, near.few, length-recorders r (limits.recorders - r))) (recorders-placed r (limits.recorders - r)))
      (overruns_of r left) (each left near))
    where
      each : (left : ℕ) → IsWithin limits.recorders r left → Each (λ (o : Overrun). o.recorder + 1 ≡ r) (overruns_of r left)
      each zero near = tt
      each (suc left) near = overruns-each (λ (o : Overrun). o.recorder + 1 ≡ r) r (suc left) (omega (arith, near.some (omega arith)))

  no-recorders : walk limits (Recorders 0 0) (rest_recorders limits 0 0) ≡ Some Done
  no-recorders = rest-recorders-walk 0 0 (record { few = omega arith; some = λ h. absurd (omega (arith, h)) })

  behind-none :
      (walk limits (Cycles limits.cycles) (rest_recorders limits 0 0) ≡ Some Done)
      × ((m : ℕ) → walk limits (Meters m) (rest_recorders limits 0 0) ≡ Some Done)
      × ((m : ℕ) → walk limits (Events m) (rest_recorders limits 0 0) ≡ Some Done)
  behind-none = behind-cycles script (recorders_from 0 (limits.recorders - 0)) (disks_from 0 (limits.disks - 0)) no-recorders

  rest-cycles-walk : (n : ℕ) → n ≤ limits.cycles → walk limits (Cycles n) (rest_cycles limits n) ≡ Some Done
  rest-cycles-walk n low = cycles-pass script (rest_recorders limits 0 0) behind-none.0 (cycles_from n (limits.cycles - n)) n (omega (arith, low, length-cycles n (limits.cycles - n))) (cycles-numbered n (limits.cycles - n))

  rest-calls-walk : (n : ℕ) → walk limits (Calls n) (rest_cycles limits 0) ≡ Some Done
  rest-calls-walk n =
      behind-calls script (cycles_from 0 (limits.cycles - 0)) (rest_recorders limits 0 0) (recorders-start script (recorders_from 0 (limits.recorders - 0)) (disks_from 0 (limits.disks - 0))) (rest-cycles-walk 0 (omega arith)) n

  pub rest-walks : (p : Place) → IsNear limits p → walk limits p (rest limits p) ≡ Some Done
  rest-walks Start near = rest-calls-walk 0
  rest-walks (Calls n) near = rest-calls-walk n
  rest-walks (Cycles n) near = rest-cycles-walk n near
  rest-walks (Meters n) near = behind-none.1 n
  rest-walks (Events n) near = behind-none.2 n
  rest-walks (Recorders r left) near = rest-recorders-walk r left near
  rest-walks (Disks d left) near = rest-disks-walk d left near
  rest-walks Done near = refl

  -- ---- forms

  module _ (script_is : IsScript script) where
    disks-form : (d more : ℕ) → d + more ≤ 4 → Each (λ x. Each IsLineForm (disk_rows x)) (disks_from d more)
    disks-form d zero h = tt
    disks-form d (suc more) h = (((omega (arith, h), omega arith, omega arith), tt), disks-form (d + 1) more (omega (arith, h)))

    recorders-form : (r more : ℕ) → r + more ≤ 4 → Each (λ x. Each IsLineForm (recorder_rows x)) (recorders_from r more)
    recorders-form r zero h = tt
    recorders-form r (suc more) h = (((omega (arith, h), omega arith, omega arith), tt), recorders-form (r + 1) more (omega (arith, h)))

    cycles-form : (n more : ℕ) → n + more ≤ 1000000 → Each (λ x. IsLineForm (cycle_row x)) (cycles_from n more)
    cycles-form n zero h = tt
    cycles-form n (suc more) h = ((omega (arith, h), omega arith, omega arith, tt), cycles-form (n + 1) more (omega (arith, h)))

    rest-disks-form : (d left : ℕ) → d ≤ limits.disks → Each IsLineForm (rest_disks limits d left)
    rest-disks-form d left low =
        Each-append IsLineForm (map underrun_row (underruns_of d left)) (flat_map disk_rows (disks_from d (limits.disks - d)) ++ End ∷ [])
        (Each-map IsLineForm underrun_row (underruns_of d left) (underruns-each (λ o. IsLineForm (underrun_row o)) d left (omega (arith, low, script_is.header.few_disks), omega arith, omega arith, omega arith)))
        (Each-append IsLineForm (flat_map disk_rows (disks_from d (limits.disks - d))) (End ∷ [])
        (Each-flat_map IsLineForm disk_rows (disks_from d (limits.disks - d)) (disks-form d (limits.disks - d) (omega (arith, low, script_is.header.few_disks))))
        (tt, tt))

    rest-recorders-form : (r left : ℕ) → r ≤ limits.recorders → Each IsLineForm (rest_recorders limits r left)
    rest-recorders-form r left low =
        Each-append IsLineForm (map overrun_row (overruns_of r left)) (flat_map recorder_rows (recorders_from r (limits.recorders - r)) ++ rest_disks limits 0 0)
        (Each-map IsLineForm overrun_row (overruns_of r left) (overruns-each (λ o. IsLineForm (overrun_row o)) r left (omega (arith, low, script_is.header.few_recorders), omega arith, omega arith, omega arith)))
        (Each-append IsLineForm (flat_map recorder_rows (recorders_from r (limits.recorders - r))) (rest_disks limits 0 0)
        (Each-flat_map IsLineForm recorder_rows (recorders_from r (limits.recorders - r)) (recorders-form r (limits.recorders - r) (omega (arith, low, script_is.header.few_recorders))))
        (rest-disks-form 0 0 (omega arith)))

    rest-cycles-form : (n : ℕ) → n ≤ limits.cycles → Each IsLineForm (rest_cycles limits n)
    rest-cycles-form n low =
        Each-append IsLineForm (map cycle_row (cycles_from n (limits.cycles - n))) (rest_recorders limits 0 0)
        (Each-map IsLineForm cycle_row (cycles_from n (limits.cycles - n)) (cycles-form n (limits.cycles - n) (omega (arith, low, turns-few script script_is))))
        (rest-recorders-form 0 0 (omega arith))

    pub rest-form : (p : Place) → IsNear limits p → Each IsLineForm (rest limits p)
    rest-form Start near = (tt, rest-cycles-form 0 (omega arith))
    rest-form (Calls n) near = rest-cycles-form 0 (omega arith)
    rest-form (Cycles n) near = rest-cycles-form n near
    rest-form (Meters n) near = rest-recorders-form 0 0 (omega arith)
    rest-form (Events n) near = rest-recorders-form 0 0 (omega arith)
    rest-form (Recorders r left) near = rest-recorders-form r left near.few
    rest-form (Disks d left) near = rest-disks-form d left near.few
    rest-form Done near = tt
