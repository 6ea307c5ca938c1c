-- A report of the form, with all parts right, explains its files.
--     right-explained
use Rattle.std.proofs.Common.{◌≡◌, ℕ, zero, suc, ◌+◌, ◌-◌, ◌<◌, ◌≤◌, Bool, true, false, nat_lt, ◌==◌, List, [], ◌∷◌, ◌++◌, length, map, filter, flat_map, take, get_or, slice_get, slice_index_or, All, codes, IsSome, IsNone, Option, Some, None, option_map, refl, sym, ◌∙◌, ap, subst, arith, take_all}
use Rattle.std.proofs.lemmas.Bool.Decides.{nat_tests}
use Rattle.std.specs.List.Sorted.{IsStrictlyIncreasing, IsNonDecreasing}
use Rattle.jack_types.specs.declared.replies.Part.{Part}
use Rattle.jack_types.specs.declared.replies.Part.TheVariants.{Call as WrongCall, Cycle as WrongCycle, Meter as WrongMeter, Midi as WrongMidi, Recorder as WrongRecorder, Overrun as WrongOverrun, Disk as WrongDisk, Underrun as WrongUnderrun, Record as WrongRecord, Playback as WrongPlayback}
use Rattle.jack_types.specs.declared.replies.Underrun.{Underrun}
use Rattle.session_model.specs.Courses.{Course, turn, no_turn, number, underruns_of}
use Rattle.session_model.specs.Disks.{Played, IsMissed, IsBehindRing, turned_underruns}
use Rattle.session_model.specs.Explanations.{Given, Printed, Written, Explained, course_of, overruns_of, record_text}
use Rattle.session_model.specs.Histories.{Legal, LegalSoFar, Cycles, IsWithinPhase, KeepsAsked, accepted}
use Rattle.session_model.specs.Recorders.{Lost}
use Rattle.session_model.specs.Reports.{Report, PrintedCycle, PrintedRecorder, PrintedDisk, report_of, report_lines, printed_call, printed_cycle, printed_recorder, printed_disk, call_line, cycle_line, meter_line, event_line, recorder_lines, disk_lines, line}
use Rattle.session_model.specs.Samples.{below}
use Rattle.session_model.specs.Scripts.{Script, ScriptCycle, turns, planned}
use Rattle.grammar_laws.specs.session_laws.proofs.ActivationLemmas.{length-map_below, length-below}
use Rattle.grammar_laws.specs.session_laws.proofs.HistoryLemmas.{LegalSoFar-none}
use Rattle.grammar_laws.specs.session_laws.proofs.ListLemmas.{Each, slice_get-map}
use Rattle.grammar_laws.specs.session_laws.proofs.SerialDiskLemmas.{in-missed}
use Rattle.grammar_laws.specs.session_laws.proofs.TextLemmas.{joined_lines}
use Rattle.check_model.specs.Checking.{IsForm, IsRight, AllRight, IsDiskLine, IsUnderrunLine, printed_of, history_of, ended_lines, all_underruns, all_turned, recorder_blocks, disk_blocks}
use Rattle.check_laws.proofs.KnownLemmas.{calls-back, same-all, Keyed, Keyed-from, keyed-part}
use Rattle.check_laws.proofs.OverrunLemmas.{recorder-lost, slice-some, lost as overruns-lost}
use Rattle.check_laws.proofs.PlaceLists.{none-some, some-same, slice-past, slice-inside, get-of, slice-ext, All-from_get, All-get, slice-map, length-map, flat-place, slice-below, strictly-from, nondecreasing-from}
use Rattle.check_laws.proofs.SameLemmas.{Each-from_all}
use Rattle.check_laws.proofs.TextBack.{joined-ended}
use Rattle.check_laws.proofs.TurnedLemmas.{among, missed-of_disk}

get-past : {X : Type 0} (xs : List X) (i : ℕ) (d : X) → length xs ≤ i → get_or xs i d ≡ d
get-past [] i d h = refl
get-past (x ∷ xs) zero d h = absurd (omega (arith, h))
get-past (x ∷ xs) (suc i) d h = get-past xs i d (omega (arith, h))

empty-list : {X : Type 0} (xs : List X) → length xs ≡ 0 → xs ≡ []
empty-list [] h = refl
empty-list (x ∷ xs) h = absurd (omega (arith, h))

module _ (given : Given) (written : Written) (report : Report) (form : IsForm given.script report) (text : ended_lines written.report ≡ report_lines report)
    (many : length written.records ≡ length given.script.header.recorders) (right : (part : Part) → AllRight (IsRight given written report part)) where
  abbrev printed : Printed
  printed = printed_of given.script report

  abbrev course : Course
  course = course_of given printed

  abbrev script : Script
  script = given.script

  abbrev whole : Report
  whole = report_of course printed.history printed.overruns

  -- ---- calls

  all_calls : take (length report.calls) report.calls ≡ report.calls
  all_calls = take_all (length report.calls) report.calls (omega arith)

  known : length printed.history ≡ length report.calls
  known = go (nat_lt 0 (length report.calls)) refl
    where
      go : (b : Bool) → nat_lt 0 (length report.calls) ≡ b → length printed.history ≡ length report.calls
      go true e =
          let some : 1 ≤ length report.calls = grind (arith, nat_tests) in
          sym (ap (λ cs. length (history_of script cs)) all_calls) ∙ (right WrongCall (length report.calls) some).known (omega arith)
      go false e =
          let none : length report.calls ≡ 0 = grind (arith, nat_tests) in
          ap (λ cs. length (history_of script cs)) (empty-list report.calls none) ∙ sym none

  legal_so_far : LegalSoFar script printed.history
  legal_so_far = go (nat_lt 0 (length report.calls)) refl
    where
      go : (b : Bool) → nat_lt 0 (length report.calls) ≡ b → LegalSoFar script printed.history
      go true e =
          let some : 1 ≤ length report.calls = grind (arith, nat_tests) in
          subst (λ cs. LegalSoFar script (history_of script cs)) all_calls ((right WrongCall (length report.calls) some).legal (omega arith))
      go false e =
          let none : length report.calls ≡ 0 = grind (arith, nat_tests) in
          subst (λ cs. LegalSoFar script (history_of script cs)) (sym (empty-list report.calls none)) (LegalSoFar-none script)

  all_there : length (planned script) ≤ length report.calls
  all_there = go (nat_lt 0 (length (planned script))) refl
    where
      go : (b : Bool) → nat_lt 0 (length (planned script)) ≡ b → length (planned script) ≤ length report.calls
      go true e =
          let some : 1 ≤ length (planned script) = grind (arith, nat_tests) in
          (right WrongCall (length (planned script)) some).there (omega arith)
      go false e = grind (arith, nat_tests)

  legal : Legal script printed.history
  legal = record { so_far = legal_so_far; every_call = omega (arith, known, all_there, form.few_calls) }

  calls-same : map printed_call printed.history ≡ report.calls
  calls-same = calls-back script report.calls known

  -- ---- cycles

  numbers-length : length printed.numbers ≡ length (turns script)
  numbers-length = length-map (λ (cycle : PrintedCycle). cycle.number) report.cycles ∙ form.cycles

  rising : IsNonDecreasing printed.numbers
  rising =
      nondecreasing-from printed.numbers
      (λ k x y p q.
      let low : suc k < length printed.numbers = slice-inside printed.numbers (suc k) y q in
      let e : suc (suc k) - 1 ≡ suc k = omega arith in
      let r : number course (suc (suc k) - 1) ≤ number course (suc (suc k)) = (right WrongCycle (suc (suc k)) (omega arith) (omega (arith, low, numbers-length))).rises in
      omega (arith, r, ap (number course) e, get-of printed.numbers k x 0 p, get-of printed.numbers (suc k) y 0 q))

  bounds : (k n : ℕ) (t : ScriptCycle) → slice_get printed.numbers k ≡ Some n → slice_get (turns script) k ≡ Some t → IsWithinPhase script printed.history t n
  bounds k n t p q =
      let low : k < length (turns script) = slice-inside (turns script) k t q in
      let w : IsWithinPhase script printed.history (turn course (suc k)) (number course (suc k)) = (right WrongCycle (suc k) (omega arith) (omega (arith, low))).within in
      subst (λ (m : ℕ). IsWithinPhase script printed.history t m) (get-of printed.numbers k n 0 p) (subst (λ (u : ScriptCycle). IsWithinPhase script printed.history u (number course (suc k))) (get-of (turns script) k t no_turn q) w)

  asked : KeepsAsked script printed.history printed.numbers
  asked i entry plan p q one = go (nat_lt (length (turns script)) plan.asked) refl
    where
      go : (b : Bool) → nat_lt (length (turns script)) plan.asked ≡ b → get_or (0 ∷ printed.numbers) plan.asked 0 ≤ length (accepted (take i printed.history))
      go true e =
          let past : length (turns script) < plan.asked = grind (arith, nat_tests) in
          omega (arith, get-past (0 ∷ printed.numbers) plan.asked 0 (omega (arith, past, numbers-length)))
      go false e =
          let low : plan.asked ≤ length (turns script) = grind (arith, nat_tests) in
          (right WrongCycle plan.asked one low).asked i entry plan p q refl

  cycles : Cycles script printed.history printed.numbers
  cycles = record { each = numbers-length; rising = rising; bounds = bounds; asked = asked }

  cycle_lines-same : map cycle_line report.cycles ≡ map cycle_line whole.cycles
  cycle_lines-same =
      slice-ext (map cycle_line report.cycles) (map cycle_line whole.cycles)
      (λ i. slice-map cycle_line report.cycles i ∙ at i (nat_lt i (length (turns script))) refl ∙ sym (slice-map cycle_line whole.cycles i))
    where
      at : (i : ℕ) (b : Bool) → nat_lt i (length (turns script)) ≡ b → option_map cycle_line (slice_get report.cycles i) ≡ option_map cycle_line (slice_get whole.cycles i)
      at i true e =
          let low : i < length (turns script) = grind (arith, nat_tests) in
          let back : suc i - 1 ≡ i = omega arith in
          let r = (right WrongCycle (suc i) (omega arith) (omega (arith, low))).line_is in
          sym (ap (λ n. option_map cycle_line (slice_get report.cycles n)) back) ∙ r ∙ ap (λ n. option_map cycle_line (slice_get whole.cycles n)) back
      at i false e =
          let past : length (turns script) ≤ i = grind (arith, nat_tests) in
          ap (option_map cycle_line) (slice-past report.cycles i (omega (arith, past, form.cycles)) ∙ sym (slice-past whole.cycles i (omega (arith, past, length-map_below (λ j. printed_cycle course (j + 1)) (length (turns script))))))

  -- ---- recorders

  lost : (r : ℕ) → r < length script.header.recorders → Lost course (overruns_of printed r) r
  lost r h = overruns-lost given report form (right WrongOverrun) r h

  record_file : (r : ℕ) → r < length script.header.recorders → slice_index_or written.records r [] ≡ record_text given printed r
  record_file r h =
      let e : suc r - 1 ≡ r = omega arith in
      subst (λ n. slice_index_or written.records n [] ≡ record_text given printed n) e (right WrongRecord (suc r) (omega arith) (omega arith) (omega (arith, h)))

  -- ---- disks

  abbrev underruns-of : PrintedDisk → List Underrun
  underruns-of = λ (disk : PrintedDisk). disk.underruns

  disk-lost : (r : ℕ) (disk : PrintedDisk) → slice_get report.disks r ≡ Some disk → underruns_of course r ≡ disk.underruns
  disk-lost r disk e = get-of (map underruns-of report.disks) r disk.underruns [] (slice-map underruns-of report.disks r ∙ ap (option_map underruns-of) e)

  module _ (r : ℕ) (disk : PrintedDisk) (here : slice_get report.disks r ≡ Some disk) where
    abbrev disk-off : ℕ
    disk-off = length (flat_map underruns-of (take r report.disks))

    disk-at : (j n : ℕ) (o : Underrun) → slice_get disk.underruns j ≡ Some o → n ≡ disk-off + j → slice_get (all_underruns report) n ≡ Some o
    disk-at j n o e q = ap (slice_get (all_underruns report)) q ∙ flat-place underruns-of report.disks r j disk o here e

    disk-line : IsDiskLine script r disk
    disk-line = form.disk_each r disk here

    disk-number : (j : ℕ) (o : Underrun) → slice_get disk.underruns j ≡ Some o → o.disk ≡ r
    disk-number j o e = (All-get (IsUnderrunLine r) disk.underruns j o (disk-line).each e).disk_is

    disk-follows : (j : ℕ) (o p : Underrun) → slice_get disk.underruns j ≡ Some o → slice_get disk.underruns (suc j) ≡ Some p → o.cycle < p.cycle
    disk-follows j o p e f =
        let n : ℕ = suc (disk-off + suc j) in
        ((right WrongUnderrun n (omega arith)).follows o p (omega arith) (disk-at j (n - 2) o e (omega arith)) (disk-at (suc j) (n - 1) p f (omega arith)))
        (disk-number j o e ∙ sym (disk-number (suc j) p f))

    disk-is_one : (j : ℕ) (o : Underrun) → slice_get disk.underruns j ≡ Some o → IsMissed course r o
    disk-is_one j o e =
        let n : ℕ = suc (disk-off + j) in
        subst (λ k. IsMissed course k o) (disk-number j o e) ((right WrongUnderrun n (omega arith)).is_one o (disk-at j (n - 1) o e (omega arith)))

    disk-rises : IsStrictlyIncreasing (map (λ (o : Underrun). o.cycle) disk.underruns)
    disk-rises =
        strictly-from (map (λ (o : Underrun). o.cycle) disk.underruns)
        (λ k x y p q.
        let a = slice_get-map (λ (o : Underrun). o.cycle) disk.underruns k x p in
        let b = slice_get-map (λ (o : Underrun). o.cycle) disk.underruns (suc k) y q in
        omega (arith, a.2, b.2, (disk-follows k a.0 b.0 a.1 b.1)))

    disk-behind : IsSome script.header.threads → (j : ℕ) (o : Underrun) → slice_get disk.underruns j ≡ Some o → IsBehindRing course r o
    disk-behind threads j o e =
        let n : ℕ = suc (disk-off + j) in
        subst (λ k. IsBehindRing course k o) (disk-number j o e) ((right WrongUnderrun n (omega arith)).in_threads threads o (disk-at j (n - 1) o e (omega arith)))

    disk-turned : IsNone script.header.threads → r < length script.header.disks → disk.underruns ≡ turned_underruns course r
    disk-turned serial low =
        let all : all_underruns report ≡ all_turned course = same-all (all_underruns report) (all_turned course) (λ n h. (right WrongUnderrun n h).in_serial serial) in
        let key : Underrun → ℕ = λ (u : Underrun). u.disk in
        let ours : Keyed underruns-of key 0 report.disks =
        Keyed-from underruns-of key 0 report.disks (λ i other e. Each-from_all (λ (u : Underrun). key u ≡ 0 + i) other.underruns (All-from_get (λ (u : Underrun). key u ≡ 0 + i) other.underruns (λ j u f. let q : u.disk ≡ i = (All-get (IsUnderrunLine i) other.underruns j u (form.disk_each i other e).each f).disk_is in omega (arith, q)))) in
        let theirs : Keyed (turned_underruns course) key 0 (below (length script.header.disks)) =
        Keyed-from (turned_underruns course) key 0 (below (length script.header.disks)) (λ i d e. subst (λ k. Each (λ (u : Underrun). key u ≡ k) (turned_underruns course d)) (below-place (length script.header.disks) i d e) (missed-of_disk course d (length (turns script)))) in
        sym (keyed-part underruns-of key 0 r r report.disks disk (omega arith) ours here)
        ∙ ap (filter (λ u. key u == r)) all
        ∙ keyed-part (turned_underruns course) key 0 r r (below (length script.header.disks)) r (omega arith) theirs (below-at (length script.header.disks) r low)
      where
        below-at : (n i : ℕ) → i < n → slice_get (below n) i ≡ Some i
        below-at n i h = ap (λ xs. slice_get xs i) (sym (same-map (below n))) ∙ slice-below (λ j. j) n i h
          where
            same-map : (xs : List ℕ) → map (λ j. j) xs ≡ xs
            same-map [] = refl
            same-map (x ∷ xs) = ap (λ ys. x ∷ ys) (same-map xs)

        below-place : (n i d : ℕ) → slice_get (below n) i ≡ Some d → d ≡ 0 + i
        below-place n i d e =
            let low : i < n = omega (arith, slice-inside (below n) i d e, length-below n) in
            let same : i ≡ d = some-same i d (sym (below-at n i low) ∙ e) in
            omega (arith, same)

    played-here : r < length script.header.disks → Played course r
    played-here low =
        let q : disk.underruns ≡ underruns_of course r = sym (disk-lost r disk here) in
        record {
          by_cycle = subst (λ os. IsStrictlyIncreasing (map (λ (o : Underrun). o.cycle) os)) q disk-rises;
          missed = subst (λ os. All (IsMissed course r) os) q (All-from_get (IsMissed course r) disk.underruns disk-is_one);
          in_threads = λ threads. subst (λ os. All (IsBehindRing course r) os) q (All-from_get (IsBehindRing course r) disk.underruns (disk-behind threads));
          in_serial = λ serial k h l. ap (λ us. among us k) (sym q ∙ disk-turned serial low) ∙ in-missed course r (length (turns script)) k h l;
        }

  played : (r : ℕ) → r < length script.header.disks → Played course r
  played r h = let w = slice-some report.disks r (omega (arith, h, form.disks)) in played-here r w.0 w.1 h

  -- ---- the report

  recorders-same : report.recorders ≡ whole.recorders
  recorders-same =
      slice-ext report.recorders whole.recorders (λ i. at i (slice_get report.recorders i) refl)
    where
      blocks : recorder_blocks report ≡ recorder_blocks whole
      blocks = same-all (recorder_blocks report) (recorder_blocks whole) (right WrongRecorder)

      at : (i : ℕ) (o : Option PrintedRecorder) → slice_get report.recorders i ≡ o → slice_get report.recorders i ≡ slice_get whole.recorders i
      at i None e = e ∙ sym (slice-past whole.recorders i (past (nat_lt i (length report.recorders)) refl))
        where
          past : (b : Bool) → nat_lt i (length report.recorders) ≡ b → length whole.recorders ≤ i
          past true f =
              let low : i < length report.recorders = grind (arith, nat_tests) in
              let w = slice-some report.recorders i low in
              absurd (none-some w.0 (sym e ∙ w.1))
          past false f =
              let high : length report.recorders ≤ i = grind (arith, nat_tests) in
              omega (arith, high, form.recorders, length-map_below (printed_recorder course printed.overruns) (length script.header.recorders))
      at i (Some recorder) e =
          let low : i < length script.header.recorders = omega (arith, slice-inside report.recorders i recorder e, form.recorders) in
          let there : slice_get whole.recorders i ≡ Some (printed_recorder course printed.overruns i) = slice-below (printed_recorder course printed.overruns) (length script.header.recorders) i low in
          let own : PrintedRecorder → ℕ = λ (r : PrintedRecorder). r.blocks in
          let number : recorder.recorder ≡ i = (form.recorder_each i recorder e).number_is in
          let count : recorder.blocks ≡ (printed_recorder course printed.overruns i).blocks =
          some-same recorder.blocks (printed_recorder course printed.overruns i).blocks
          (sym (slice-map own report.recorders i ∙ ap (option_map own) e) ∙ ap (λ bs. slice_get bs i) blocks ∙ slice-map own whole.recorders i ∙ ap (option_map own) there) in
          let lost_is : recorder.overruns ≡ overruns_of printed i = sym (recorder-lost given report form i recorder e) in
          let one : recorder ≡ printed_recorder course printed.overruns i = (λ k. record { recorder = number k; blocks = count k; overruns = lost_is k }) in
          e ∙ ap Some one ∙ sym there

  disks-same : report.disks ≡ whole.disks
  disks-same =
      slice-ext report.disks whole.disks (λ i. at i (slice_get report.disks i) refl)
    where
      blocks : disk_blocks report ≡ disk_blocks whole
      blocks = same-all (disk_blocks report) (disk_blocks whole) (right WrongDisk)

      at : (i : ℕ) (o : Option PrintedDisk) → slice_get report.disks i ≡ o → slice_get report.disks i ≡ slice_get whole.disks i
      at i None e = e ∙ sym (slice-past whole.disks i (past (nat_lt i (length report.disks)) refl))
        where
          past : (b : Bool) → nat_lt i (length report.disks) ≡ b → length whole.disks ≤ i
          past true f =
              let low : i < length report.disks = grind (arith, nat_tests) in
              let w = slice-some report.disks i low in
              absurd (none-some w.0 (sym e ∙ w.1))
          past false f =
              let high : length report.disks ≤ i = grind (arith, nat_tests) in
              omega (arith, high, form.disks, length-map_below (printed_disk course) (length script.header.disks))
      at i (Some disk) e =
          let low : i < length script.header.disks = omega (arith, slice-inside report.disks i disk e, form.disks) in
          let there : slice_get whole.disks i ≡ Some (printed_disk course i) = slice-below (printed_disk course) (length script.header.disks) i low in
          let own : PrintedDisk → ℕ = λ (r : PrintedDisk). r.blocks in
          let number : disk.disk ≡ i = (form.disk_each i disk e).number_is in
          let count : disk.blocks ≡ (printed_disk course i).blocks =
          some-same disk.blocks (printed_disk course i).blocks
          (sym (slice-map own report.disks i ∙ ap (option_map own) e) ∙ ap (λ bs. slice_get bs i) blocks ∙ slice-map own whole.disks i ∙ ap (option_map own) there) in
          let lost_is : disk.underruns ≡ underruns_of course i = sym (disk-lost i disk e) in
          let one : disk ≡ printed_disk course i = (λ k. record { disk = number k; blocks = count k; underruns = lost_is k }) in
          e ∙ ap Some one ∙ sym there

  meters-same : report.meters ≡ whole.meters
  meters-same = same-all report.meters whole.meters (right WrongMeter)

  events-same : report.events ≡ whole.events
  events-same = same-all report.events whole.events (right WrongMidi)

  lines-same : report_lines report ≡ report_lines whole
  lines-same =
      let calls : map call_line report.calls ≡ map call_line whole.calls = ap (map call_line) (sym calls-same) in
      (λ i. line (codes "report" ∷ codes "1" ∷ [])
      ∷ calls i
      ++ cycle_lines-same i
      ++ map meter_line (meters-same i)
      ++ map event_line (events-same i)
      ++ flat_map recorder_lines (recorders-same i)
      ++ flat_map disk_lines (disks-same i)
      ++ line (codes "end" ∷ []) ∷ [])

  pub right-explained : Explained given printed written
  right-explained = record {
    legal = legal;
    cycles = cycles;
    overruns = length-map (λ (recorder : PrintedRecorder). recorder.overruns) report.recorders ∙ form.recorders;
    records = many;
    recorders = λ r h. record { lost = lost r h; file = record_file r h };
    underruns = length-map underruns-of report.disks ∙ form.disks;
    disks = played;
    playback = right WrongPlayback 1 (omega arith);
    report = sym (joined-ended written.report) ∙ ap joined_lines (text ∙ lines-same);
  }
