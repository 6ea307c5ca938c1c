-- The report that explains files is of its form.
--     explained-form
use Rattle.std.proofs.Common.{◌≡◌, ℕ, zero, suc, ◌+◌, ◌-◌, ◌*◌, ◌<◌, ◌≤◌, Bool, cond, not, ◌&&◌, nat_lt, List, [], ◌∷◌, length, map, filter, flat_map, take, get_or, slice_get, count_by, All, Some, refl, sym, ap, subst, arith, length-append}
use native.Mathlib.Nat.{min-le_right}
use Rattle.std.specs.List.Sorted.{IsStrictlyIncreasing}
use Rattle.std.proofs.lemmas.List.Sums.{count_by-le-length}
use Rattle.jack_types.specs.declared.commands.Call.{Call}
use Rattle.jack_types.specs.declared.commands.Change.{Change}
use Rattle.jack_types.specs.declared.commands.Command.{Command}
use Rattle.jack_types.specs.declared.commands.Command.TheVariants.{Open, Close, Activate, Deactivate, Register, Unregister, Connect, Disconnect, Start, Stop, Locate, Timeout, Slow, Timebase, TimebaseIf, Release, Latency}
use Rattle.jack_types.specs.declared.events.Logged.{Logged}
use Rattle.jack_types.specs.declared.kinds.Kind.TheVariants.{Pass, Gain, Mix, Delay, Tone, Click, Meter, Tape, Guest, Midiplay, Midithru, Midilog, Disk}
use Rattle.jack_types.specs.declared.replies.Entry.{Entry}
use Rattle.jack_types.specs.declared.replies.Overrun.{Overrun}
use Rattle.jack_types.specs.declared.replies.Underrun.{Underrun}
use Rattle.jack_types.specs.Events.{event_bytes}
use Rattle.session_model.specs.Courses.{Course, number, no_turn, underruns_of, played_before, is_disk_active, is_underrun}
use Rattle.session_model.specs.Disks.{IsMissed, file_blocks}
use Rattle.session_model.specs.Explanations.{Given, Printed, Written, Explained, course_of, overruns_of}
use Rattle.session_model.specs.Grammar.{IsScript, IsCommand}
use Rattle.session_model.specs.Histories.{accepted, change_of, stage_of, state_after}
use Rattle.session_model.specs.Recorders.{IsOverrun, kept_before, is_taping, is_lost}
use Rattle.session_model.specs.Replies.{reply}
use Rattle.session_model.specs.Reports.{Report, PrintedCycle, PrintedEvent, PrintedRecorder, PrintedDisk, report_of, printed_call, printed_cycle, printed_recorder, printed_disk, meters_by, events_by, last_log}
use Rattle.session_model.specs.Samples.{below}
use Rattle.session_model.specs.Scripts.{Script, Planned, turns, planned}
use Rattle.session_model.specs.State.{opening}
use Rattle.grammar_laws.specs.session_laws.proofs.ActivationLemmas.{length-map_below, length-below}
use Rattle.grammar_laws.specs.session_laws.proofs.ListLemmas.{Each, Each-weaker, Each-map, Each-flat_map, Each-contains, Each-at, slice_get-map}
use Rattle.report_texts.proofs.SameReportLemmas.{planned-few, turns-few, IsPlanned, filter_map-shorter, filter-shorter}
use Rattle.grammar_laws.specs.session_laws.proofs.SerialLossLemmas.{All-from_each}
use Rattle.check_model.specs.Checking.{IsForm, IsReplyForm, IsCallLine, IsCycleLine, IsMeterLine, IsEventLine, IsOverrunLine, IsUnderrunLine, IsRecorderLine, IsDiskLine, opens_meter, opens_log}
use Rattle.check_laws.proofs.CountFits.{count-cons, calls-few}
use Rattle.check_laws.proofs.ExplainedRight.{legal-planned}
use Rattle.check_laws.proofs.PlaceLists.{slice-at, length-map, All-from_get, All-get, map-at}
use Rattle.check_laws.proofs.PlayedFits.{LoggedFits, last_peak-fits, last_log-fits}
use Rattle.check_laws.proofs.RowFits.{frame-fits, moment-bbt}
use Rattle.check_laws.proofs.SameLemmas.{Each-from_all}
use Rattle.check_laws.proofs.ShortFits.{lines-short}
use Rattle.check_laws.proofs.StateFits.{AreCommands, accepted-commands, Each-take, StateFits, replay-fits, opening-fits, reply-form, index-bound}

take-shorter : {X : Type 0} (n : ℕ) (xs : List X) → length (take n xs) ≤ length xs
take-shorter zero xs = omega arith
take-shorter (suc n) [] = omega arith
take-shorter (suc n) (x ∷ xs) = omega (arith, take-shorter n xs)

-- numbers that rise from 1 to n are at most n
strict-few : (xs : List ℕ) (n : ℕ) → IsStrictlyIncreasing xs → Each (λ x. (1 ≤ x) × (x ≤ n)) xs → length xs ≤ n
strict-few xs n h within = go (length xs) refl
  where
    above : (k : ℕ) → k < length xs → k + 1 ≤ get_or xs k 0
    above zero b = (Each-at (λ x. (1 ≤ x) × (x ≤ n)) xs 0 (get_or xs 0 0) within (slice-at xs 0 0 b)).0
    above (suc k) b =
        let e : k + 1 ≡ suc k = omega arith in
        let one : k + 1 ≤ get_or xs k 0 = above k (omega (arith, b)) in
        let two : get_or xs k 0 < get_or xs (k + 1) 0 = h k (omega (arith, b)) in
        omega (arith, one, two, ap (λ j. get_or xs j 0) e)

    go : (m : ℕ) → length xs ≡ m → length xs ≤ n
    go zero e = omega (arith, e)
    go (suc m) e =
        let low : m < length xs = omega (arith, e) in
        let top = (Each-at (λ x. (1 ≤ x) × (x ≤ n)) xs m (get_or xs m 0) within (slice-at xs m 0 low)).1 in
        omega (arith, e, top, above m low)

-- ---- meters and logs

abbrev event_of : List ℕ → Logged → PrintedEvent
event_of client logged = record { client = client; logged = logged }

meters-one : (course : Course) (birth : ℕ) (command : Command) → length (meters_by course birth command) ≤ cond (opens_meter command) 1 0
meters-one course birth (Open client Pass) = omega arith
meters-one course birth (Open client (Gain x y)) = omega arith
meters-one course birth (Open client Mix) = omega arith
meters-one course birth (Open client (Delay x)) = omega arith
meters-one course birth (Open client (Tone x y)) = omega arith
meters-one course birth (Open client (Click x)) = omega arith
meters-one course birth (Open client Meter) = omega arith
meters-one course birth (Open client (Tape x)) = omega arith
meters-one course birth (Open client (Guest x)) = omega arith
meters-one course birth (Open client (Midiplay x)) = omega arith
meters-one course birth (Open client Midithru) = omega arith
meters-one course birth (Open client Midilog) = omega arith
meters-one course birth (Open client (Disk x)) = omega arith
meters-one course birth (Close client) = omega arith
meters-one course birth (Activate client) = omega arith
meters-one course birth (Deactivate client) = omega arith
meters-one course birth (Register port way kind) = omega arith
meters-one course birth (Unregister port) = omega arith
meters-one course birth (Connect source destination) = omega arith
meters-one course birth (Disconnect source destination) = omega arith
meters-one course birth Start = omega arith
meters-one course birth Stop = omega arith
meters-one course birth (Locate frame) = omega arith
meters-one course birth (Timeout cycles) = omega arith
meters-one course birth (Slow client cycles) = omega arith
meters-one course birth (Timebase client mbpm beats ticks) = omega arith
meters-one course birth (TimebaseIf client mbpm beats ticks) = omega arith
meters-one course birth (Release client) = omega arith
meters-one course birth (Latency mode port) = omega arith

events-one : (course : Course) → IsScript course.script → (birth : ℕ) (command : Command) → length (events_by course birth command) ≤ 4096 * cond (opens_log command) 1 0
events-one course is birth (Open client Pass) = omega arith
events-one course is birth (Open client (Gain x y)) = omega arith
events-one course is birth (Open client Mix) = omega arith
events-one course is birth (Open client (Delay x)) = omega arith
events-one course is birth (Open client (Tone x y)) = omega arith
events-one course is birth (Open client (Click x)) = omega arith
events-one course is birth (Open client Meter) = omega arith
events-one course is birth (Open client (Tape x)) = omega arith
events-one course is birth (Open client (Guest x)) = omega arith
events-one course is birth (Open client (Midiplay x)) = omega arith
events-one course is birth (Open client Midithru) = omega arith
events-one course is birth (Open client Midilog) = omega (arith, (last_log-fits course is birth).0, length-map (λ (logged : Logged). event_of client logged) (last_log course birth))
events-one course is birth (Open client (Disk x)) = omega arith
events-one course is birth (Close client) = omega arith
events-one course is birth (Activate client) = omega arith
events-one course is birth (Deactivate client) = omega arith
events-one course is birth (Register port way kind) = omega arith
events-one course is birth (Unregister port) = omega arith
events-one course is birth (Connect source destination) = omega arith
events-one course is birth (Disconnect source destination) = omega arith
events-one course is birth Start = omega arith
events-one course is birth Stop = omega arith
events-one course is birth (Locate frame) = omega arith
events-one course is birth (Timeout cycles) = omega arith
events-one course is birth (Slow client cycles) = omega arith
events-one course is birth (Timebase client mbpm beats ticks) = omega arith
events-one course is birth (TimebaseIf client mbpm beats ticks) = omega arith
events-one course is birth (Release client) = omega arith
events-one course is birth (Latency mode port) = omega arith

meters-form : (course : Course) → IsScript course.script → (birth : ℕ) (command : Command) → IsCommand course.script.header command → Each IsMeterLine (meters_by course birth command)
meters-form course is birth (Open client Pass) c = tt
meters-form course is birth (Open client (Gain x y)) c = tt
meters-form course is birth (Open client Mix) c = tt
meters-form course is birth (Open client (Delay x)) c = tt
meters-form course is birth (Open client (Tone x y)) c = tt
meters-form course is birth (Open client (Click x)) c = tt
meters-form course is birth (Open client Meter) c = (record { client = c.0; peak = omega (arith, last_peak-fits course is birth) }, tt)
meters-form course is birth (Open client (Tape x)) c = tt
meters-form course is birth (Open client (Guest x)) c = tt
meters-form course is birth (Open client (Midiplay x)) c = tt
meters-form course is birth (Open client Midithru) c = tt
meters-form course is birth (Open client Midilog) c = tt
meters-form course is birth (Open client (Disk x)) c = tt
meters-form course is birth (Close client) c = tt
meters-form course is birth (Activate client) c = tt
meters-form course is birth (Deactivate client) c = tt
meters-form course is birth (Register port way kind) c = tt
meters-form course is birth (Unregister port) c = tt
meters-form course is birth (Connect source destination) c = tt
meters-form course is birth (Disconnect source destination) c = tt
meters-form course is birth Start c = tt
meters-form course is birth Stop c = tt
meters-form course is birth (Locate frame) c = tt
meters-form course is birth (Timeout cycles) c = tt
meters-form course is birth (Slow client cycles) c = tt
meters-form course is birth (Timebase client mbpm beats ticks) c = tt
meters-form course is birth (TimebaseIf client mbpm beats ticks) c = tt
meters-form course is birth (Release client) c = tt
meters-form course is birth (Latency mode port) c = tt

events-form : (course : Course) → IsScript course.script → (birth : ℕ) (command : Command) → IsCommand course.script.header command → Each IsEventLine (events_by course birth command)
events-form course is birth (Open client Pass) c = tt
events-form course is birth (Open client (Gain x y)) c = tt
events-form course is birth (Open client Mix) c = tt
events-form course is birth (Open client (Delay x)) c = tt
events-form course is birth (Open client (Tone x y)) c = tt
events-form course is birth (Open client (Click x)) c = tt
events-form course is birth (Open client Meter) c = tt
events-form course is birth (Open client (Tape x)) c = tt
events-form course is birth (Open client (Guest x)) c = tt
events-form course is birth (Open client (Midiplay x)) c = tt
events-form course is birth (Open client Midithru) c = tt
events-form course is birth (Open client Midilog) c = Each-map IsEventLine (event_of client) (last_log course birth)
    (Each-weaker (LoggedFits (length (turns course.script))) (λ logged. IsEventLine (event_of client logged))
    (λ logged l. record {
      client = c.0;
      cycle = omega (arith, l.0, turns-few course.script is);
      offset = omega (arith, (l.1).offset);
      held = (l.1).held;
      bytes = All-from_each (λ b. b < 256) (event_bytes logged.event) (l.1).bytes;
    })
    (last_log course birth) (last_log-fits course is birth).1)
events-form course is birth (Open client (Disk x)) c = tt
events-form course is birth (Close client) c = tt
events-form course is birth (Activate client) c = tt
events-form course is birth (Deactivate client) c = tt
events-form course is birth (Register port way kind) c = tt
events-form course is birth (Unregister port) c = tt
events-form course is birth (Connect source destination) c = tt
events-form course is birth (Disconnect source destination) c = tt
events-form course is birth Start c = tt
events-form course is birth Stop c = tt
events-form course is birth (Locate frame) c = tt
events-form course is birth (Timeout cycles) c = tt
events-form course is birth (Slow client cycles) c = tt
events-form course is birth (Timebase client mbpm beats ticks) c = tt
events-form course is birth (TimebaseIf client mbpm beats ticks) c = tt
events-form course is birth (Release client) c = tt
events-form course is birth (Latency mode port) c = tt

meters-few : (course : Course) (changes : List Change) → length (flat_map (λ (change : Change). meters_by course change.number change.command) changes) ≤ count_by (λ (change : Change). opens_meter change.command) changes
meters-few course [] = omega arith
meters-few course (change ∷ changes) =
    omega (
      arith,
      meters-few course changes,
      meters-one course change.number change.command,
      count-cons (λ (c : Change). opens_meter c.command) change changes,
      length-append (meters_by course change.number change.command) (flat_map (λ (c : Change). meters_by course c.number c.command) changes),
    )

events-few : (course : Course) → IsScript course.script → (changes : List Change) → length (flat_map (λ (change : Change). events_by course change.number change.command) changes) ≤ 4096 * count_by (λ (change : Change). opens_log change.command) changes
events-few course is [] = omega arith
events-few course is (change ∷ changes) =
    omega (
      arith,
      events-few course is changes,
      events-one course is change.number change.command,
      count-cons (λ (c : Change). opens_log c.command) change changes,
      length-append (events_by course change.number change.command) (flat_map (λ (c : Change). events_by course c.number c.command) changes),
    )

-- ---- the report

module _ (given : Given) (printed : Printed) (written : Written) (e : Explained given printed written) (script_is : IsScript given.script) where
  abbrev script : Script
  script = given.script

  abbrev course : Course
  course = course_of given printed

  abbrev report : Report
  report = report_of course printed.history printed.overruns

  planned_each : Each (λ (entry : Entry). IsPlanned script entry.call) printed.history
  planned_each = legal-planned script printed.history e.legal.so_far

  commands : AreCommands script course.changes
  commands = accepted-commands script script_is printed.history planned_each

  history-few : length printed.history ≤ 4096
  history-few = omega (arith, e.legal.every_call, planned-few script script_is)

  cycles-few : length (turns script) ≤ 1000000
  cycles-few = turns-few script script_is

  call-line : (i : ℕ) (entry : Entry) → slice_get printed.history i ≡ Some entry → IsCallLine (printed_call entry)
  call-line i entry at =
      let p : IsPlanned script entry.call = Each-at (λ (en : Entry). IsPlanned script en.call) printed.history i entry planned_each at in
      let lane : entry.call.lane ≤ 4 = All-get (λ (en : Entry). en.call.lane ≤ 4) printed.history i entry e.legal.so_far.lanes at in
      let index : (p.0).call.index ≤ 4096 = Each-contains (λ (plan : Planned). plan.call.index ≤ 4096) (planned script) p.0 (index-bound script script_is) p.1 in
      let before : List Entry = take i printed.history in
      let made : length (accepted before) ≤ 4096 = omega (arith, filter_map-shorter change_of before, take-shorter i printed.history, history-few) in
      let fits : StateFits (16 + length (accepted before)) (state_after script before) =
      replay-fits script 16 (accepted before) (opening script.header.capture script.header.playback)
      (accepted-commands script script_is before (Each-take (λ (en : Entry). IsPlanned script en.call) i printed.history planned_each)) (opening-fits script script_is) in
      let form : IsReplyForm (reply (state_after script before) (length (accepted before) + 1) entry.call.command) =
      reply-form (16 + length (accepted before)) (state_after script before) fits (omega (arith, made)) (length (accepted before) + 1) (omega (arith, made)) entry.call.command in
      record {
        lane = omega (arith, lane);
        index = omega (arith, index, ap (λ (call : Call). call.index) p.2);
        reply = subst IsReplyForm (sym (e.legal.so_far.replies i entry at)) form;
      }

  calls-form : All IsCallLine report.calls
  calls-form =
      All-from_get IsCallLine report.calls
      (λ i call at. let w = slice_get-map printed_call printed.history i call at in subst IsCallLine w.2 (call-line i w.0 w.1))

  number-fits : (i : ℕ) → i < length (turns script) → number course (i + 1) ≤ 4096
  number-fits i low =
      let q : i + 1 ≡ suc i = omega arith in
      let within = e.cycles.bounds i (get_or printed.numbers i 0) (get_or (turns script) i no_turn) (slice-at printed.numbers i 0 (omega (arith, low, e.cycles.each))) (slice-at (turns script) i no_turn low) in
      let stage : ℕ = 2 * (get_or (turns script) i no_turn).phase + 2 in
      let test : Entry → Bool = λ (entry : Entry). nat_lt (stage_of script entry.call) stage in
      omega (arith, within.1, ap (number course) q, filter_map-shorter change_of (filter test printed.history), filter-shorter test printed.history, history-few)

  cycle-form : (i : ℕ) (cycle : PrintedCycle) → slice_get report.cycles i ≡ Some cycle → IsCycleLine i cycle
  cycle-form i cycle at =
      let m = map-at (λ j. printed_cycle course (j + 1)) (length (turns script)) i cycle at in
      let frame = frame-fits course script_is commands (i + 1) in
      subst (IsCycleLine i) m.1
      (record {
        cycle_is = refl;
        number = omega (arith, number-fits i m.0);
        frame = omega (arith, frame, m.0, cycles-few);
        bbt = moment-bbt course script_is commands (i + 1) (omega (arith, m.0, cycles-few));
      })

  meter-form : Each IsMeterLine report.meters
  meter-form =
      Each-flat_map IsMeterLine (λ (change : Change). meters_by course change.number change.command) course.changes
      (Each-weaker (λ (change : Change). IsCommand script.header change.command) (λ (change : Change). Each IsMeterLine (meters_by course change.number change.command))
      (λ change c. meters-form course script_is change.number change.command c) course.changes commands)

  event-form : Each IsEventLine report.events
  event-form =
      Each-flat_map IsEventLine (λ (change : Change). events_by course change.number change.command) course.changes
      (Each-weaker (λ (change : Change). IsCommand script.header change.command) (λ (change : Change). Each IsEventLine (events_by course change.number change.command))
      (λ change c. events-form course script_is change.number change.command c) course.changes commands)

  kept-low : (losses : List Overrun) (recorder k : ℕ) → kept_before course losses recorder k ≤ k
  kept-low losses recorder k =
      omega (arith, count_by-le-length (λ j. is_taping course recorder (j + 1) && not (is_lost losses (j + 1))) (below (k - 1)), length-below (k - 1))

  played-low : (disk k : ℕ) → played_before course disk k ≤ k
  played-low disk k =
      omega (arith, count_by-le-length (λ j. is_disk_active course disk (j + 1) && not (is_underrun course disk (j + 1))) (below (k - 1)), length-below (k - 1))

  recorder-form : (i : ℕ) (recorder : PrintedRecorder) → slice_get report.recorders i ≡ Some recorder → IsRecorderLine script i recorder
  recorder-form i recorder at =
      let m = map-at (printed_recorder course printed.overruns) (length script.header.recorders) i recorder at in
      let losses : List Overrun = overruns_of printed i in
      let lost = (e.recorders i m.0).lost in
      let each : Each (IsOverrun course losses i) losses = Each-from_all (IsOverrun course losses i) losses lost.overruns in
      subst (IsRecorderLine script i) m.1
      (record {
        number_is = refl;
        blocks = omega (arith, kept-low losses i (length (turns script) + 1), cycles-few);
        few = omega (
          arith,
          length-map (λ (o : Overrun). o.cycle) losses,
          strict-few (map (λ (o : Overrun). o.cycle) losses) (length (turns script)) lost.by_cycle
              (Each-map (λ x. (1 ≤ x) × (x ≤ length (turns script))) (λ (o : Overrun). o.cycle) losses (Each-weaker (IsOverrun course losses i) (λ (o : Overrun). (1 ≤ o.cycle) × (o.cycle ≤ length (turns script))) (λ o q. (q.first, q.last)) losses each)),
        );
        each = All-from_each (IsOverrunLine i) losses
            (Each-weaker (IsOverrun course losses i) (IsOverrunLine i)
            (λ o q.
            let kept : kept_before course losses i o.cycle ≤ o.cycle = kept-low losses i o.cycle in
            record { recorder_is = q.recorder_is; cycle = omega (arith, q.last, cycles-few); sent = omega (arith, q.last, cycles-few, q.sent, kept); taken = omega (arith, q.last, cycles-few, q.sent, kept, q.full) })
            losses each);
      })

  disk-form : (i : ℕ) (disk : PrintedDisk) → slice_get report.disks i ≡ Some disk → IsDiskLine script i disk
  disk-form i disk at =
      let m = map-at (printed_disk course) (length script.header.disks) i disk at in
      let misses : List Underrun = underruns_of course i in
      let played = e.disks i m.0 in
      let each : Each (IsMissed course i) misses = Each-from_all (IsMissed course i) misses played.missed in
      subst (IsDiskLine script i) m.1
      (record {
        number_is = refl;
        blocks = omega (arith, min-le_right (file_blocks course i) (played_before course i (length (turns script) + 1)), played-low i (length (turns script) + 1), cycles-few);
        few = omega (
          arith,
          length-map (λ (o : Underrun). o.cycle) misses,
          strict-few (map (λ (o : Underrun). o.cycle) misses) (length (turns script)) played.by_cycle
              (Each-map (λ x. (1 ≤ x) × (x ≤ length (turns script))) (λ (o : Underrun). o.cycle) misses (Each-weaker (IsMissed course i) (λ (o : Underrun). (1 ≤ o.cycle) × (o.cycle ≤ length (turns script))) (λ o q. (q.first, q.last)) misses each)),
        );
        each = All-from_each (IsUnderrunLine i) misses
            (Each-weaker (IsMissed course i) (IsUnderrunLine i)
            (λ o q.
            let kept : played_before course i o.cycle ≤ o.cycle = played-low i o.cycle in
            record { disk_is = q.disk_is; cycle = omega (arith, q.last, cycles-few); sent = omega (arith, q.last, cycles-few, q.sent, kept); taken = omega (arith, q.last, cycles-few, q.taken, kept) })
            misses each);
      })

  pub explained-form : IsForm script report
  explained-form =
      let cycles : length report.cycles ≡ length (turns script) = length-map_below (λ j. printed_cycle course (j + 1)) (length (turns script)) in
      let recorders : length report.recorders ≡ length script.header.recorders = length-map_below (printed_recorder course printed.overruns) (length script.header.recorders) in
      let disks : length report.disks ≡ length script.header.disks = length-map_below (printed_disk course) (length script.header.disks) in
      record {
        few_calls = omega (arith, length-map printed_call printed.history, e.legal.every_call);
        call_each = calls-form;
        cycles = cycles;
        cycle_each = cycle-form;
        few_meters = omega (arith, meters-few course course.changes, calls-few opens_meter script printed.history e.legal.so_far);
        meter_each = All-from_each IsMeterLine report.meters meter-form;
        few_events = omega (arith, events-few course script_is course.changes, calls-few opens_log script printed.history e.legal.so_far);
        event_each = All-from_each IsEventLine report.events event-form;
        recorders = recorders;
        recorder_each = recorder-form;
        disks = disks;
        disk_each = disk-form;
        short = lines-short script script_is report (Each-from_all IsCallLine report.calls calls-form) (omega (arith, cycles, cycles-few)) cycle-form meter-form event-form
            (omega (arith, recorders, script_is.header.few_recorders)) recorder-form (omega (arith, disks, script_is.header.few_disks)) disk-form;
      }
