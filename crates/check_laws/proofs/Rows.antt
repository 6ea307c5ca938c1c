-- The rows of the checker: the five files of the row "Overruns", and each change of them.
use Rattle.std.proofs.Common.{◌≡◌, ℕ, zero, suc, ◌+◌, ◌-◌, ◌*◌, ◌<◌, ◌≤◌, ◌&&◌, ◌==◌, false, inl, inr, List, [], ◌∷◌, ◌++◌, length, map, flat_map, take, drop, codes, get_or, slice_get, pos, Some, None, refl, sym, ◌∙◌, ap, subst, arith, true≢false, lit≤}
use Rattle.std.specs.Fmt.{digits}
use Rattle.jack_types.specs.declared.commands.Command.TheVariants.{Open, Activate, Register, Connect}
use Rattle.jack_types.specs.declared.kinds.Kind.TheVariants.{Tape}
use Rattle.jack_types.specs.declared.moments.TransportState.TheVariants.{Stopped}
use Rattle.jack_types.specs.declared.ports.PortKind.TheVariants.{Audio}
use Rattle.jack_types.specs.declared.ports.Way.TheVariants.{In}
use Rattle.jack_types.specs.declared.replies.Entry.{Entry}
use Rattle.jack_types.specs.declared.replies.Overrun.{Overrun}
use Rattle.jack_types.specs.declared.replies.Part.{Part}
use Rattle.jack_types.specs.declared.replies.Part.TheVariants.{Report as WrongReport, Call as WrongCall, Cycle as WrongCycle, Meter as WrongMeter, Midi as WrongMidi, Recorder as WrongRecorder, Overrun as WrongOverrun, Disk as WrongDisk, Underrun as WrongUnderrun, Record as WrongRecord, Playback as WrongPlayback}
use Rattle.jack_types.specs.declared.replies.Reply.{Reply}
use Rattle.jack_types.specs.declared.replies.Reply.TheVariants.{Accepted}
use Rattle.jack_types.specs.declared.scripts.Body.TheVariants.{Do, Run}
use Rattle.session_model.specs.Courses.{Course}
use Rattle.session_model.specs.Explanations.{Given, Printed, Written, Explained, course_of, overruns_of, written_of}
use Rattle.session_model.specs.Grammar.{IsScript}
use Rattle.session_model.specs.Histories.{LegalSoFar}
use Rattle.session_model.specs.Recorders.{IsOverrun}
use Rattle.session_model.specs.Reports.{Report, PrintedCall, PrintedCycle, PrintedRecorder, report_lines, report_of, line, call_line, cycle_line, meter_line, event_line, recorder_lines, disk_lines}
use Rattle.session_model.specs.Samples.{below}
use Rattle.session_model.specs.Scripts.{Script, Planned, planned}
use Rattle.session_model.specs.Serial.{serial_printed}
use Rattle.grammar_laws.specs.session_laws.proofs.CycleLemmas.{find-contains}
use Rattle.grammar_laws.specs.session_laws.proofs.ExplainedLemmas.{Explained-serial}
use Rattle.grammar_laws.proofs.GrammarLaws.{spelled}
use Rattle.grammar_laws.specs.session_laws.proofs.ListLemmas.{Each, Each-contains}
use Rattle.grammar_laws.specs.session_laws.proofs.SerialLossLemmas.{All-from_each}
use Rattle.grammar_laws.specs.session_laws.proofs.TextLemmas.{IsLine, joined_lines}
use Rattle.check_model.specs.Checking.{IsForm, IsRight, IsCallLine, IsCycleLine, IsRecorderLine, IsOverrunLine, IsCycleInTurn, AllRight, IsFirstWrong, BeginsReport, DifferAt, printed_of, history_of, ended_lines, parts, explained, recorder_blocks}
use Rattle.check_laws.proofs.CoverLemmas.{whole-take}
use Rattle.check_laws.proofs.ExplainedRight.{explained-right}
use Rattle.check_laws.proofs.FormLemmas.{explained-form}
use Rattle.check_laws.proofs.PlaceLists.{none-some, some-same}
use Rattle.check_laws.proofs.SameLemmas.{Each-from_all}
use Rattle.check_laws.proofs.ShortFits.{lines-short}
use Rattle.check_laws.proofs.StateFits.{Each-take}
use Rattle.check_laws.proofs.TextBack.{ended-joined}
use Rattle.check_laws.proofs.WrongLemmas.{Form-lines, explained-text}

above-zero : (n : ℕ) → n ≡ 0 → 1 ≤ n → ⊥
above-zero n e h = absurd (omega (arith, e, h))

abbrev lf : List ℕ → List ℕ
lf text = text ++ 10 ∷ []

abbrev recording : Script
recording = record {
  header = record {
    version = 1;
    rate = 8000;
    period = 4;
    capture = 1;
    playback = 1;
    bits = 16;
    threads = None;
    steal = false;
    ring = 2;
    drain = 0;
    fill = 4;
    recorders = record { rate = 8000; channels = 1; bits = 16 } ∷ [];
    disks = [];
  };
  events = [] ∷ [] ∷ [] ∷ [] ∷ [] ∷ [] ∷ [] ∷ [] ∷ [] ∷ [] ∷ [] ∷ [] ∷ [] ∷ [] ∷ [] ∷ [] ∷ [];
  lines = Do (Open (codes "tape") (Tape 0)) ∷ Do (Register (codes "tape:in") In Audio) ∷ Do (Activate (codes "tape")) ∷ Do (Connect (codes "system:capture_1") (codes "tape:in")) ∷ Run 5 ∷ [];
}

recording_is : IsScript recording
recording_is =
    (spelled
    (lf (codes "jackd 1") ++ lf (codes "rate 8000") ++ lf (codes "period 4") ++ lf (codes "capture 1") ++ lf (codes "playback 1 16") ++ lf (codes "mode serial")
    ++ lf (codes "ring 2") ++ lf (codes "drain 0") ++ lf (codes "recorder 1 16") ++ lf (codes "do open tape record 0") ++ lf (codes "do register tape:in in audio")
    ++ lf (codes "do activate tape") ++ lf (codes "do connect system:capture_1 tape:in") ++ lf (codes "run 5"))
    recording refl).1

abbrev session : Given
session = record { script = recording; capture = map (λ i. pos (65536 * (i + 1))) (below 20); disks = []; scores = [] }

abbrev printed : Printed
printed = serial_printed session

abbrev written : Written
written = written_of session printed

abbrev report : Report
report = report_of (course_of session printed) printed.history printed.overruns

-- `check ok`
row_ok : Explained session printed written
row_ok = Explained-serial session recording_is refl

report_is : written.report
    ≡ lf (codes "report 1") ++ lf (codes "call 0 1 ok 1") ++ lf (codes "call 0 2 ok 2") ++ lf (codes "call 0 3 ok 3") ++ lf (codes "call 0 4 ok 4")
    ++ lf (codes "cycle 1 4 stopped 0 -") ++ lf (codes "cycle 2 4 stopped 0 -") ++ lf (codes "cycle 3 4 stopped 0 -") ++ lf (codes "cycle 4 4 stopped 0 -") ++ lf (codes "cycle 5 4 stopped 0 -")
    ++ lf (codes "recorder 0 2 3") ++ lf (codes "overrun 0 3 2 0") ++ lf (codes "overrun 0 4 2 0") ++ lf (codes "overrun 0 5 2 0") ++ lf (codes "end")
unfolding digits
report_is = refl

form : IsForm recording report
form = explained-form session printed written row_ok recording_is

right : (part : Part) → AllRight (IsRight session written report part)
right = explained-right session printed written row_ok

-- ---- parts before a part

abbrev First : (Part → Type 0) → ℕ → List Part → Type 0
First P zero ps = Unit {0}
First P (suc i) [] = Unit {0}
First P (suc i) (p ∷ ps) = P p × First P i ps

first-before : (P : Part → Type 0) (i : ℕ) (ps : List Part) → First P i ps → (j : ℕ) (part : Part) → j < i → slice_get ps j ≡ Some part → P part
first-before P zero ps h j part low e = absurd (omega (arith, low))
first-before P (suc i) [] h j part low e = absurd (none-some part e)
first-before P (suc i) (p ∷ ps) h zero part low e = subst P (some-same p part e) h.0
first-before P (suc i) (p ∷ ps) h (suc j) part low e = first-before P i ps h.1 j part (omega (arith, low)) e

abbrev AllAt : {X : Type 0} → (ℕ → X → Type 0) → ℕ → List X → Type 0
AllAt P base [] = Unit {0}
AllAt P base (x ∷ xs) = P base x × AllAt P (suc base) xs

all-at : {X : Type 0} (P : ℕ → X → Type 0) (base : ℕ) (xs : List X) → AllAt P base xs → (i k : ℕ) (x : X) → k ≡ base + i → slice_get xs i ≡ Some x → P k x
all-at P base [] h i k x q e = absurd (none-some x e)
all-at P base (y ∷ xs) h zero k x q e = let s : base ≡ k = omega (arith, q) in subst (λ n. P n x) s (subst (P base) (some-same y x e) h.0)
all-at P base (y ∷ xs) h (suc i) k x q e = all-at P (suc base) xs h.1 i k x (omega (arith, q)) e

-- ---- the playback's byte at 44

abbrev other_playback : List ℕ
other_playback = take 44 written.playback ++ 1 ∷ drop 45 written.playback

abbrev playback_written : Written
playback_written = record written { playback = other_playback }

playback_differs : DifferAt other_playback written.playback 44
unfolding digits
playback_differs = record { same_before = refl; differ = λ e. above-zero 1 (some-same 1 0 e) (lit≤ tt) }

row_playback : IsFirstWrong session playback_written (record { what = WrongPlayback; number = 0; place = 44 })
row_playback =
    inr (
      report,
      9,
      record {
        form = form;
        text = explained-text session printed written recording_is row_ok;
        part = refl;
        before = first-before (λ part. AllRight (IsRight session playback_written report part)) 9 parts
            (right WrongCall, (right WrongCycle, (right WrongMeter, (right WrongMidi, (right WrongRecorder, (right WrongOverrun, (right WrongDisk, (right WrongUnderrun, (right WrongRecord, tt)))))))));
        first = (lit≤ tt, (λ m p q. absurd (omega (arith, p, q))), (λ e. playback_differs.differ (ap (λ t. slice_get t 44) (e ∙ sym (right WrongPlayback 1 (lit≤ tt))))));
        place = record { same_before = playback_differs.same_before; differ = playback_differs.differ };
      },
    )

-- ---- an overrun's last number

abbrev overrun : ℕ → ℕ → Overrun
overrun k taken = record { recorder = 0; cycle = k; sent = 2; taken = taken }

abbrev overrun_report : Report
overrun_report = record report { recorders = record { recorder = 0; blocks = 2; overruns = overrun 3 0 ∷ overrun 4 1 ∷ overrun 5 0 ∷ [] } ∷ [] }

overrun_line_is : (k taken : ℕ) → k ≤ 5 → taken ≤ 1 → IsOverrunLine 0 (overrun k taken)
overrun_line_is k taken h l = record { recorder_is = refl; cycle = omega (arith, h); sent = omega arith; taken = omega (arith, l) }

overrun_recorder : (i : ℕ) (recorder : PrintedRecorder) → slice_get overrun_report.recorders i ≡ Some recorder → IsRecorderLine recording i recorder
overrun_recorder i recorder e =
    all-at (IsRecorderLine recording) 0 overrun_report.recorders (
      record {
        number_is = refl;
        blocks = omega arith;
        few = lit≤ tt;
        each = All-from_each (IsOverrunLine 0) (overrun 3 0 ∷ overrun 4 1 ∷ overrun 5 0 ∷ []) (overrun_line_is 3 0 (omega arith) (omega arith), (overrun_line_is 4 1 (omega arith) (omega arith), (overrun_line_is 5 0 (omega arith) (omega arith), tt)));
      },
      tt,
    )
    i i recorder (omega arith) e

-- a report of the form, with other calls, cycles and recorders
module _ (calls : List PrintedCall) (cycles : List PrintedCycle) (recorders : List PrintedRecorder) where
  abbrev changed : Report
  changed = record { calls = calls; cycles = cycles; meters = report.meters; events = report.events; recorders = recorders; disks = report.disks }

  changed-form : length calls ≤ 4 → Each IsCallLine calls → length cycles ≡ 5 → ((i : ℕ) (cycle : PrintedCycle) → slice_get cycles i ≡ Some cycle → IsCycleLine i cycle)
      → length recorders ≡ 1 → ((i : ℕ) (recorder : PrintedRecorder) → slice_get recorders i ≡ Some recorder → IsRecorderLine recording i recorder) → IsForm recording changed
  changed-form few call_each many cycle_each one recorder_each = record {
    few_calls = few;
    call_each = All-from_each IsCallLine calls call_each;
    cycles = many;
    cycle_each = cycle_each;
    few_meters = form.few_meters;
    meter_each = form.meter_each;
    few_events = form.few_events;
    event_each = form.event_each;
    recorders = one;
    recorder_each = recorder_each;
    disks = form.disks;
    disk_each = form.disk_each;
    short = lines-short recording recording_is changed call_each (omega (arith, many)) cycle_each (Each-from_all _ report.meters form.meter_each) (Each-from_all _ report.events form.event_each)
        (omega (arith, one)) recorder_each (omega (arith, form.disks)) form.disk_each;
  }

calls_form : Each IsCallLine report.calls
calls_form = Each-from_all IsCallLine report.calls form.call_each

overrun_form : IsForm recording overrun_report
overrun_form = changed-form report.calls report.cycles overrun_report.recorders (omega (arith, form.few_calls)) calls_form form.cycles form.cycle_each refl overrun_recorder

abbrev written_as : Report → Written
written_as other = record written { report = joined_lines (report_lines other) }

text_as : (other : Report) → IsForm recording other → ended_lines (joined_lines (report_lines other)) ≡ report_lines other
text_as other f = ended-joined (report_lines other) (Form-lines recording other recording_is f)

abbrev overrun_printed : Printed
overrun_printed = printed_of recording overrun_report

abbrev overrun_course : Course
overrun_course = course_of session overrun_printed

overrun_blocks : recorder_blocks overrun_report ≡ recorder_blocks (explained session overrun_report)
unfolding digits
overrun_blocks = refl

overrun_first : IsOverrun overrun_course (overruns_of overrun_printed 0) 0 (overrun 3 0)
unfolding digits
overrun_first = record { recorder_is = refl; first = lit≤ tt; last = lit≤ tt; active = refl; in_run = refl; sent = refl; full = refl }

row_overrun : IsFirstWrong session (written_as overrun_report) (record { what = WrongOverrun; number = 2; place = 0 })
row_overrun =
    inr (
      overrun_report,
      5,
      record {
        form = overrun_form;
        text = text_as overrun_report overrun_form;
        part = refl;
        before = first-before (λ part. AllRight (IsRight session (written_as overrun_report) overrun_report part)) 5 parts (calls, (cycles, (right WrongMeter, (right WrongMidi, (blocks, tt)))));
        first = (lit≤ tt, ones, (λ h. wrong ((h.is_one (overrun 4 1) refl).full)));
        place = refl;
      },
    )
  where
    wrong : 2 ≡ 1 + 2 → ⊥
    wrong q = absurd (omega (arith, q))

    calls : AllRight (IsRight session (written_as overrun_report) overrun_report WrongCall)
    calls n one = let h = right WrongCall n one in record { known = h.known; legal = h.legal; there = h.there }

    cycles : AllRight (IsRight session (written_as overrun_report) overrun_report WrongCycle)
    cycles n one = (λ l. let h = right WrongCycle n one l in record { rises = h.rises; within = h.within; asked = h.asked; line_is = h.line_is })

    blocks : AllRight (IsRight session (written_as overrun_report) overrun_report WrongRecorder)
    blocks n one = ap (λ bs. slice_get bs (n - 1)) overrun_blocks

    ones : (m : ℕ) → 1 ≤ m → m < 2 → IsRight session (written_as overrun_report) overrun_report WrongOverrun m
    ones zero p q = absurd (omega (arith, p))
    ones (suc (suc m)) p q = absurd (omega (arith, q))
    ones (suc zero) p q = record {
      is_one = λ o e. subst (λ (x : Overrun). IsOverrun overrun_course (overruns_of overrun_printed x.recorder) x.recorder x) (some-same (overrun 3 0) o e) overrun_first;
      follows = λ o x two d e. absurd (omega (arith, two));
      in_threads = λ threads. absurd (true≢false (sym threads));
    }

-- ---- cycle 3's number

abbrev cycle : ℕ → ℕ → PrintedCycle
cycle k number = record { number = number; moment = record { cycle = k; state = Stopped; frame = 0; rate = 8000; bbt = None } }

abbrev cycle_report : Report
cycle_report = record report { cycles = cycle 1 4 ∷ cycle 2 4 ∷ cycle 3 5 ∷ cycle 4 4 ∷ cycle 5 4 ∷ [] }

cycle_line_is : (i number : ℕ) → number ≤ 5 → IsCycleLine i (cycle (i + 1) number)
cycle_line_is i number h = record { cycle_is = refl; number = omega (arith, h); frame = omega arith; bbt = tt }

cycle_form : IsForm recording cycle_report
cycle_form =
    changed-form report.calls cycle_report.cycles report.recorders (omega (arith, form.few_calls)) calls_form refl
    (λ i c e.
    all-at IsCycleLine 0 cycle_report.cycles
    (cycle_line_is 0 4 (omega arith), (cycle_line_is 1 4 (omega arith), (cycle_line_is 2 5 (omega arith), (cycle_line_is 3 4 (omega arith), (cycle_line_is 4 4 (omega arith), tt)))))
    i i c (omega arith) e)
    form.recorders form.recorder_each

asked_none : Each (λ (plan : Planned). plan.asked ≡ 0) (planned recording)
asked_none = (refl, (refl, (refl, (refl, tt))))

cycle_one : IsCycleInTurn (course_of session (printed_of recording cycle_report)) (printed_of recording cycle_report) cycle_report 1
unfolding digits
cycle_one l = record {
  rises = lit≤ tt;
  within = (lit≤ tt, lit≤ tt);
  asked = λ i entry plan p q s. absurd (above-zero 1 (sym s ∙ Each-contains (λ (pl : Planned). pl.asked ≡ 0) (planned recording) plan asked_none (find-contains (λ (x : Planned). x.call.lane == entry.call.lane && x.call.index == entry.call.index) (planned recording) plan q)) (lit≤ tt));
  line_is = refl;
}

cycle_two : IsCycleInTurn (course_of session (printed_of recording cycle_report)) (printed_of recording cycle_report) cycle_report 2
unfolding digits
cycle_two l = record {
  rises = lit≤ tt;
  within = (lit≤ tt, lit≤ tt);
  asked = λ i entry plan p q s. absurd (above-zero 2 (sym s ∙ Each-contains (λ (pl : Planned). pl.asked ≡ 0) (planned recording) plan asked_none (find-contains (λ (x : Planned). x.call.lane == entry.call.lane && x.call.index == entry.call.index) (planned recording) plan q)) (lit≤ tt));
  line_is = refl;
}

cycle_three : IsCycleInTurn (course_of session (printed_of recording cycle_report)) (printed_of recording cycle_report) cycle_report 3 → ⊥
unfolding digits
cycle_three h = wrong ((h (lit≤ tt)).within.1)
  where
    wrong : 5 ≤ 4 → ⊥
    wrong e = absurd (omega (arith, e))

row_cycle : IsFirstWrong session (written_as cycle_report) (record { what = WrongCycle; number = 3; place = 0 })
row_cycle =
    inr (
      cycle_report,
      1,
      record {
        form = cycle_form;
        text = text_as cycle_report cycle_form;
        part = refl;
        before = first-before (λ part. AllRight (IsRight session (written_as cycle_report) cycle_report part)) 1 parts (calls, tt);
        first = (lit≤ tt, two, cycle_three);
        place = refl;
      },
    )
  where
    calls : AllRight (IsRight session (written_as cycle_report) cycle_report WrongCall)
    calls n one = let h = right WrongCall n one in record { known = h.known; legal = h.legal; there = h.there }

    two : (m : ℕ) → 1 ≤ m → m < 3 → IsRight session (written_as cycle_report) cycle_report WrongCycle m
    two zero p q = absurd (omega (arith, p))
    two (suc zero) p q = cycle_one
    two (suc (suc zero)) p q = cycle_two
    two (suc (suc (suc m))) p q = absurd (omega (arith, q))

-- ---- the last line

abbrev cut_lines : List (List ℕ)
cut_lines = take 14 (report_lines report)

abbrev cut_written : Written
cut_written = record written { report = joined_lines cut_lines }

cut_text : ended_lines (joined_lines cut_lines) ≡ cut_lines
cut_text = ended-joined cut_lines (Each-take IsLine 14 (report_lines report) (Form-lines recording report recording_is form))

abbrev last_line : List (List ℕ) → List ℕ
last_line [] = []
last_line (text ∷ []) = text
last_line (text ∷ next ∷ lines) = last_line (next ∷ lines)

last-append : (lines : List (List ℕ)) (text : List ℕ) → last_line (lines ++ text ∷ []) ≡ text
last-append [] text = refl
last-append (a ∷ []) text = refl
last-append (a ∷ b ∷ lines) text = last-append (b ∷ lines) text

end-last : (r : Report) → last_line (report_lines r) ≡ line (codes "end" ∷ [])
end-last r =
    let a : List (List ℕ) = line (codes "report" ∷ codes "1" ∷ []) ∷ map call_line r.calls in
    last-append (a ++ map cycle_line r.cycles ++ map meter_line r.meters ++ map event_line r.events ++ flat_map recorder_lines r.recorders ++ flat_map disk_lines r.disks) (line (codes "end" ∷ []))

cut_length : length cut_lines ≡ 14
unfolding digits
cut_length = refl

cut_last : get_or (last_line cut_lines) 0 0 ≡ 111
unfolding digits
cut_last = refl

row_last : IsFirstWrong session cut_written (record { what = WrongReport; number = 15; place = 0 })
row_last = inl (refl, ((report, form, ap (take 14) cut_text ∙ twice), ends), refl)
  where
    twice : take 14 cut_lines ≡ take 14 (report_lines report)
    twice = take-same 14 (report_lines report)
      where
        take-same : {X : Type 0} (n : ℕ) (xs : List X) → take n (take n xs) ≡ take n xs
        take-same zero xs = refl
        take-same (suc n) [] = refl
        take-same (suc n) (x ∷ xs) = ap (λ ys. x ∷ ys) (take-same n xs)

    ends : BeginsReport recording (joined_lines cut_lines) 15 → ⊥
    ends b =
        let at : take (suc (length cut_lines)) cut_lines ≡ take (suc (length cut_lines)) (report_lines b.0) =
        subst (λ n. take (suc n) cut_lines ≡ take (suc n) (report_lines b.0)) (sym cut_length) (ap (take 15) (sym cut_text) ∙ b.2) in
        let all : cut_lines ≡ report_lines b.0 = whole-take cut_lines (report_lines b.0) at in
        let last : get_or (last_line (report_lines b.0)) 0 0 ≡ 101 = ap (λ t. get_or t 0 0) (end-last b.0) in
        let same : 111 ≡ 101 = sym cut_last ∙ ap (λ ls. get_or (last_line ls) 0 0) all ∙ last in
        absurd (omega (arith, same))

-- ---- the second call's reply

abbrev call : ℕ → ℕ → PrintedCall
call index number = record { lane = 0; index = index; reply = Accepted number }

abbrev call_report : Report
call_report = record report { calls = call 1 1 ∷ call 2 3 ∷ call 3 3 ∷ call 4 4 ∷ [] }

call_line_is : (index number : ℕ) → index ≤ 4 → number ≤ 4 → IsCallLine (call index number)
call_line_is index number h l = record { lane = omega arith; index = omega (arith, h); reply = omega (arith, l) }

call_form : IsForm recording call_report
call_form =
    changed-form call_report.calls report.cycles report.recorders (lit≤ tt)
    (call_line_is 1 1 (omega arith) (omega arith), (call_line_is 2 3 (omega arith) (omega arith), (call_line_is 3 3 (omega arith) (omega arith), (call_line_is 4 4 (omega arith) (omega arith), tt))))
    form.cycles form.cycle_each form.recorders form.recorder_each

call_one : LegalSoFar recording (history_of recording (take 1 call_report.calls))
unfolding digits
call_one = (right WrongCall 1 (lit≤ tt)).legal (lit≤ tt)

call_two : LegalSoFar recording (history_of recording (take 2 call_report.calls)) → ⊥
unfolding digits
call_two h = wrong (h.replies 1 second refl)
  where
    second : Entry
    second = record { call = record { lane = 0; index = 2; command = Register (codes "tape:in") In Audio }; reply = Accepted 3 }

    number_in : Reply → ℕ
    number_in (Accepted n) = n
    number_in _ = 0

    wrong : Accepted 3 ≡ Accepted 2 → ⊥
    wrong e = let q : 3 ≡ 2 = ap number_in e in absurd (omega (arith, q))

row_call : IsFirstWrong session (written_as call_report) (record { what = WrongCall; number = 2; place = 0 })
row_call =
    inr (
      call_report,
      0,
      record {
        form = call_form;
        text = text_as call_report call_form;
        part = refl;
        before = λ j part low e. absurd (omega (arith, low));
        first = (lit≤ tt, one, (λ h. call_two (h.legal (lit≤ tt))));
        place = refl;
      },
    )
  where
    one : (m : ℕ) → 1 ≤ m → m < 2 → IsRight session (written_as call_report) call_report WrongCall m
    one zero p q = absurd (omega (arith, p))
    one (suc (suc m)) p q = absurd (omega (arith, q))
    one (suc zero) p q = record { known = λ l. refl; legal = λ l. call_one; there = λ l. lit≤ tt }
