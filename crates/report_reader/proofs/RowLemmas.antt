-- The lines of a report: their texts, and when they are of the form.
--     rows-printed      the texts of a report's lines
--     form-rows, rows-form      the form of a report, by its lines
use Rattle.std.proofs.Common.{◌≡◌, ℕ, ◌+◌, ◌<◌, ◌≤◌, List, [], ◌∷◌, ◌++◌, length, map, flat_map, slice_get, All, Option, Some, None, refl, ◌∙◌, ap, ap₂, arith, codes, decimal}
use Rattle.std.proofs.lemmas.List.{map-append}
use Rattle.jack_types.specs.declared.moments.Bbt.{Bbt}
use Rattle.jack_types.specs.declared.replies.Overrun.{Overrun}
use Rattle.jack_types.specs.declared.replies.Reply.{Reply}
use Rattle.jack_types.specs.declared.replies.Reply.TheVariants.{Accepted, Refused, Latency}
use Rattle.jack_types.specs.declared.replies.Underrun.{Underrun}
use Rattle.check_model.specs.Checking.{IsForm, IsCallLine, IsCycleLine, IsMeterLine, IsEventLine, IsOverrunLine, IsUnderrunLine, IsRecorderLine, IsDiskLine, IsReplyForm, IsBbtForm}
use Rattle.session_model.specs.Grammar.{IsScript}
use Rattle.session_model.specs.Reports.{Report, PrintedCall, PrintedCycle, PrintedMeter, PrintedEvent, PrintedRecorder, PrintedDisk, report_lines, line, call_line, cycle_line, meter_line, event_line, overrun_line, underrun_line, recorder_lines, disk_lines}
use Rattle.session_model.specs.Scripts.{Script, turns}
use Rattle.session_laws.proofs.ListLemmas.{Each, Each-weaker, Each-append, Each-map, Each-flat_map, Each-unmap, Each-at}
use Rattle.report_texts.proofs.SameReportLemmas.{turns-few}
use Rattle.session_laws.proofs.SerialLossLemmas.{All-from_each}
use Rattle.check_laws.proofs.SameLemmas.{Each-from_all, Each-from_get, place-inside}
use Rattle.check_laws.proofs.ShortFits.{lines-short}
use Rattle.report_reader.specs.Forms.{IsLineForm, IsReply, IsPlace, line_text}
use Rattle.report_reader.specs.Reports.{IsPlaced, call_row, cycle_row, disk_rows, event_row, meter_row, overrun_row, place_row, recorder_rows, reply_row, report_rows, underrun_row}
use Rattle.report_reader.specs.declared.rows.Line.{Line}
use Rattle.report_reader.specs.declared.rows.Line.TheVariants.{Report as ReportLine, Call, Cycle, End}

-- ---- texts

call-text : (call : PrintedCall) → line_text (call_row call) ≡ call_line call
call-text call = go call.reply
  where
    go : (r : Reply) → line_text (Call (record { lane = call.lane; index = call.index; reply = reply_row r })) ≡ call_line (record { lane = call.lane; index = call.index; reply = r })
    go (Accepted n) = refl
    go (Refused r) = refl
    go (Latency range) = refl

pub cycle-text : (cycle : PrintedCycle) → line_text (cycle_row cycle) ≡ cycle_line cycle
cycle-text cycle = go cycle.moment.bbt
  where
    go : (p : Option Bbt)
        → line_text (Cycle (record { cycle = cycle.moment.cycle; number = cycle.number; state = cycle.moment.state; frame = cycle.moment.frame; place = place_row p }))
        ≡ cycle_line (record { number = cycle.number; moment = record { cycle = cycle.moment.cycle; state = cycle.moment.state; frame = cycle.moment.frame; rate = cycle.moment.rate; bbt = p } })
    go None = refl
    go (Some place) = refl

map-printed : {X : Type 0} (row : X → Line) (text : X → List ℕ) → ((x : X) → line_text (row x) ≡ text x) → (xs : List X) → map line_text (map row xs) ≡ map text xs
map-printed row text f [] = refl
map-printed row text f (x ∷ xs) = ap₂ (λ t ts. t ∷ ts) (f x) (map-printed row text f xs)

flat-printed : {X : Type 0} (rows : X → List Line) (texts : X → List (List ℕ)) → ((x : X) → map line_text (rows x) ≡ texts x) → (xs : List X) → map line_text (flat_map rows xs) ≡ flat_map texts xs
flat-printed rows texts f [] = refl
flat-printed rows texts f (x ∷ xs) = map-append line_text (rows x) (flat_map rows xs) ∙ ap₂ (λ ts us. ts ++ us) (f x) (flat-printed rows texts f xs)

both : (xs ys : List Line) (ts us : List (List ℕ)) → map line_text xs ≡ ts → map line_text ys ≡ us → map line_text (xs ++ ys) ≡ ts ++ us
both xs ys ts us h k = map-append line_text xs ys ∙ ap₂ (λ a b. a ++ b) h k

recorder-text : (recorder : PrintedRecorder) → map line_text (recorder_rows recorder) ≡ recorder_lines recorder
recorder-text recorder =
    ap (λ (ts : List (List ℕ)). line (codes "recorder" ∷ decimal recorder.recorder ∷ decimal recorder.blocks ∷ decimal (length recorder.overruns) ∷ []) ∷ ts) (map-printed overrun_row overrun_line (λ o. refl) recorder.overruns)

disk-text : (disk : PrintedDisk) → map line_text (disk_rows disk) ≡ disk_lines disk
disk-text disk =
    ap (λ (ts : List (List ℕ)). line (codes "disk" ∷ decimal disk.disk ∷ decimal disk.blocks ∷ decimal (length disk.underruns) ∷ []) ∷ ts) (map-printed underrun_row underrun_line (λ o. refl) disk.underruns)

pub rows-printed : (report : Report) → map line_text (report_rows report) ≡ report_lines report
rows-printed report =
    let a : List Line = ReportLine ∷ map call_row report.calls in
    let b : List Line = map cycle_row report.cycles in
    let c : List Line = map meter_row report.meters in
    let d : List Line = map event_row report.events in
    let e : List Line = flat_map recorder_rows report.recorders in
    let f : List Line = flat_map disk_rows report.disks in
    let at : List (List ℕ) = line (codes "report" ∷ codes "1" ∷ []) ∷ map call_line report.calls in
    let bt : List (List ℕ) = map cycle_line report.cycles in
    let ct : List (List ℕ) = map meter_line report.meters in
    let dt : List (List ℕ) = map event_line report.events in
    let et : List (List ℕ) = flat_map recorder_lines report.recorders in
    let ft : List (List ℕ) = flat_map disk_lines report.disks in
    both (a ++ b ++ c ++ d ++ e ++ f) (End ∷ []) (at ++ bt ++ ct ++ dt ++ et ++ ft) (line (codes "end" ∷ []) ∷ [])
    (both (a ++ b ++ c ++ d ++ e) f (at ++ bt ++ ct ++ dt ++ et) ft
    (both (a ++ b ++ c ++ d) e (at ++ bt ++ ct ++ dt) et
    (both (a ++ b ++ c) d (at ++ bt ++ ct) dt
    (both (a ++ b) c (at ++ bt) ct
    (both a b at bt
    (ap (λ (ts : List (List ℕ)). line (codes "report" ∷ codes "1" ∷ []) ∷ ts) (map-printed call_row call_line call-text report.calls))
    (map-printed cycle_row cycle_line cycle-text report.cycles))
    (map-printed meter_row meter_line (λ m. refl) report.meters))
    (map-printed event_row event_line (λ m. refl) report.events))
    (flat-printed recorder_rows recorder_lines recorder-text report.recorders))
    (flat-printed disk_rows disk_lines disk-text report.disks))
    refl

-- ---- lists

module _ {X : Type 0} where
  pub Each-split : (P : X → Type 0) (xs ys : List X) → Each P (xs ++ ys) → Each P xs × Each P ys
  Each-split P [] ys h = (tt, h)
  Each-split P (x ∷ xs) ys h = let k = Each-split P xs ys h.1 in ((h.0, k.0), k.1)

pub Each-unflat : {X Y : Type 0} (P : Y → Type 0) (f : X → List Y) (xs : List X) → Each P (flat_map f xs) → Each (λ x. Each P (f x)) xs
Each-unflat P f [] h = tt
Each-unflat P f (x ∷ xs) h = let k = Each-split P (f x) (flat_map f xs) h in (k.0, Each-unflat P f xs k.1)

-- ---- forms

reply-form : (r : Reply) → IsReplyForm r → IsReply (reply_row r)
reply-form (Accepted n) h = h
reply-form (Refused r) h = tt
reply-form (Latency range) h = (h.0, h.1)

form-reply : (r : Reply) → IsReply (reply_row r) → IsReplyForm r
form-reply (Accepted n) h = h
form-reply (Refused r) h = tt
form-reply (Latency range) h = (h.0, h.1)

pub place-form : (p : Option Bbt) → IsBbtForm p → IsPlace (place_row p)
place-form None h = tt
place-form (Some place) h = (h.0, h.1, h.2)

form-place : (p : Option Bbt) → IsPlace (place_row p) → IsBbtForm p
form-place None h = tt
form-place (Some place) h = (h.0, h.1, h.2)

call-form : (call : PrintedCall) → IsCallLine call → IsLineForm (call_row call)
call-form call h = (h.lane, h.index, reply-form call.reply h.reply)

form-call : (call : PrintedCall) → IsLineForm (call_row call) → IsCallLine call
form-call call h = record { lane = h.0; index = h.1; reply = form-reply call.reply h.2 }

cycle-form : (i : ℕ) (cycle : PrintedCycle) → i < 1000000 → IsCycleLine i cycle → IsLineForm (cycle_row cycle)
cycle-form i cycle low h = (omega (arith, low, h.cycle_is), h.number, h.frame, place-form cycle.moment.bbt h.bbt)

form-cycle : (i : ℕ) (cycle : PrintedCycle) → cycle.moment.cycle ≡ i + 1 → IsLineForm (cycle_row cycle) → IsCycleLine i cycle
form-cycle i cycle e h = record { cycle_is = e; number = h.1; frame = h.2; bbt = form-place cycle.moment.bbt h.3 }

meter-form : (meter : PrintedMeter) → IsMeterLine meter → IsLineForm (meter_row meter)
meter-form meter h = (h.client, h.peak)

form-meter : (meter : PrintedMeter) → IsLineForm (meter_row meter) → IsMeterLine meter
form-meter meter h = record { client = h.0; peak = h.1 }

event-form : (event : PrintedEvent) → IsEventLine event → IsLineForm (event_row event)
event-form event h = (h.client, h.cycle, h.offset, refl, record { least = h.held.least; most = h.held.most; padding = h.held.padding }, h.bytes)

form-event : (event : PrintedEvent) → IsLineForm (event_row event) → IsEventLine event
form-event event h = record { client = h.0; cycle = h.1; offset = h.2; held = record { least = (h.4).least; most = (h.4).most; padding = (h.4).padding }; bytes = h.5 }

overrun-form : (i : ℕ) (overrun : Overrun) → i < 1000000 → IsOverrunLine i overrun → IsLineForm (overrun_row overrun)
overrun-form i overrun low h = (omega (arith, low, h.recorder_is), h.cycle, h.sent, h.taken)

underrun-form : (i : ℕ) (underrun : Underrun) → i < 1000000 → IsUnderrunLine i underrun → IsLineForm (underrun_row underrun)
underrun-form i underrun low h = (omega (arith, low, h.disk_is), h.cycle, h.sent, h.taken)

module _ (script : Script) (script_is : IsScript script) where
  recorder-form : (i : ℕ) (recorder : PrintedRecorder) → i < 1000000 → IsRecorderLine script i recorder → Each IsLineForm (recorder_rows recorder)
  recorder-form i recorder low h = (
    (omega (arith, low, h.number_is), h.blocks, omega (arith, h.few, turns-few script script_is)),
    Each-map IsLineForm overrun_row recorder.overruns (Each-weaker (IsOverrunLine i) (λ (o : Overrun). IsLineForm (overrun_row o)) (λ o q. overrun-form i o low q) recorder.overruns (Each-from_all (IsOverrunLine i) recorder.overruns h.each)),
  )

  disk-form : (i : ℕ) (disk : PrintedDisk) → i < 1000000 → IsDiskLine script i disk → Each IsLineForm (disk_rows disk)
  disk-form i disk low h = (
    (omega (arith, low, h.number_is), h.blocks, omega (arith, h.few, turns-few script script_is)),
    Each-map IsLineForm underrun_row disk.underruns (Each-weaker (IsUnderrunLine i) (λ (o : Underrun). IsLineForm (underrun_row o)) (λ o q. underrun-form i o low q) disk.underruns (Each-from_all (IsUnderrunLine i) disk.underruns h.each)),
  )

  pub form-rows : (report : Report) → IsForm script report → IsPlaced script report × All IsLineForm (report_rows report)
  form-rows report form = (
    record {
      few_calls = form.few_calls;
      cycles = form.cycles;
      cycle_each = λ i cycle at. (form.cycle_each i cycle at).cycle_is;
      few_meters = form.few_meters;
      few_events = form.few_events;
      recorders = form.recorders;
      recorder_each = λ i recorder at. let r = form.recorder_each i recorder at in record { number_is = r.number_is; few = r.few; each = λ k d b. (r.each k d b).recorder_is };
      disks = form.disks;
      disk_each = λ i disk at. let r = form.disk_each i disk at in record { number_is = r.number_is; few = r.few; each = λ k d b. (r.each k d b).disk_is };
    },
    All-from_each IsLineForm (report_rows report)
        (Each-append IsLineForm (a ++ b ++ c ++ d ++ e ++ f) (End ∷ [])
        (Each-append IsLineForm (a ++ b ++ c ++ d ++ e) f
        (Each-append IsLineForm (a ++ b ++ c ++ d) e
        (Each-append IsLineForm (a ++ b ++ c) d
        (Each-append IsLineForm (a ++ b) c
        (Each-append IsLineForm a b
        (tt, Each-map IsLineForm call_row report.calls (Each-weaker IsCallLine (λ (x : PrintedCall). IsLineForm (call_row x)) call-form report.calls (Each-from_all IsCallLine report.calls form.call_each)))
        (Each-map IsLineForm cycle_row report.cycles (Each-from_get (λ (x : PrintedCycle). IsLineForm (cycle_row x)) report.cycles (λ i x q. cycle-form i x (omega (arith, cycles-few, form.cycles, place-inside report.cycles i x q)) (form.cycle_each i x q)))))
        (Each-map IsLineForm meter_row report.meters (Each-weaker IsMeterLine (λ (x : PrintedMeter). IsLineForm (meter_row x)) meter-form report.meters (Each-from_all IsMeterLine report.meters form.meter_each))))
        (Each-map IsLineForm event_row report.events (Each-weaker IsEventLine (λ (x : PrintedEvent). IsLineForm (event_row x)) event-form report.events (Each-from_all IsEventLine report.events form.event_each))))
        (Each-flat_map IsLineForm recorder_rows report.recorders
        (Each-from_get (λ (x : PrintedRecorder). Each IsLineForm (recorder_rows x)) report.recorders (λ i x q. recorder-form i x (omega (arith, script_is.header.few_recorders, form.recorders, place-inside report.recorders i x q)) (form.recorder_each i x q)))))
        (Each-flat_map IsLineForm disk_rows report.disks
        (Each-from_get (λ (x : PrintedDisk). Each IsLineForm (disk_rows x)) report.disks (λ i x q. disk-form i x (omega (arith, script_is.header.few_disks, form.disks, place-inside report.disks i x q)) (form.disk_each i x q)))))
        (tt, tt)),
  )
    where
      cycles-few : length (turns script) ≤ 1000000
      cycles-few = turns-few script script_is

      a : List Line
      a = ReportLine ∷ map call_row report.calls

      b : List Line
      b = map cycle_row report.cycles

      c : List Line
      c = map meter_row report.meters

      d : List Line
      d = map event_row report.events

      e : List Line
      e = flat_map recorder_rows report.recorders

      f : List Line
      f = flat_map disk_rows report.disks

  pub rows-form : (report : Report) → IsPlaced script report → All IsLineForm (report_rows report) → IsForm script report
  rows-form report placed all =
      let a : List Line = ReportLine ∷ map call_row report.calls in
      let b : List Line = map cycle_row report.cycles in
      let c : List Line = map meter_row report.meters in
      let d : List Line = map event_row report.events in
      let e : List Line = flat_map recorder_rows report.recorders in
      let f : List Line = flat_map disk_rows report.disks in
      let six = Each-split IsLineForm (a ++ b ++ c ++ d ++ e ++ f) (End ∷ []) (Each-from_all IsLineForm (report_rows report) all) in
      let five = Each-split IsLineForm (a ++ b ++ c ++ d ++ e) f six.0 in
      let four = Each-split IsLineForm (a ++ b ++ c ++ d) e five.0 in
      let three = Each-split IsLineForm (a ++ b ++ c) d four.0 in
      let two = Each-split IsLineForm (a ++ b) c three.0 in
      let one = Each-split IsLineForm a b two.0 in
      parts report placed
      (Each-unmap IsLineForm call_row report.calls one.0.1)
      (Each-unmap IsLineForm cycle_row report.cycles one.1)
      (Each-unmap IsLineForm meter_row report.meters two.1)
      (Each-unmap IsLineForm event_row report.events three.1)
      (Each-unflat IsLineForm recorder_rows report.recorders four.1)
      (Each-unflat IsLineForm disk_rows report.disks five.1)
    where
      parts : (report : Report) → IsPlaced script report
          → Each (λ x. IsLineForm (call_row x)) report.calls → Each (λ x. IsLineForm (cycle_row x)) report.cycles → Each (λ x. IsLineForm (meter_row x)) report.meters → Each (λ x. IsLineForm (event_row x)) report.events
          → Each (λ x. Each IsLineForm (recorder_rows x)) report.recorders → Each (λ x. Each IsLineForm (disk_rows x)) report.disks → IsForm script report
      parts report placed calls cycles meters events recorders disks =
          let call_all : Each IsCallLine report.calls = Each-weaker (λ (x : PrintedCall). IsLineForm (call_row x)) IsCallLine form-call report.calls calls in
          let meter_all : Each IsMeterLine report.meters = Each-weaker (λ (x : PrintedMeter). IsLineForm (meter_row x)) IsMeterLine form-meter report.meters meters in
          let event_all : Each IsEventLine report.events = Each-weaker (λ (x : PrintedEvent). IsLineForm (event_row x)) IsEventLine form-event report.events events in
          record {
            few_calls = placed.few_calls;
            call_each = All-from_each IsCallLine report.calls call_all;
            cycles = placed.cycles;
            cycle_each = cycle_one;
            few_meters = placed.few_meters;
            meter_each = All-from_each IsMeterLine report.meters meter_all;
            few_events = placed.few_events;
            event_each = All-from_each IsEventLine report.events event_all;
            recorders = placed.recorders;
            recorder_each = recorder_one;
            disks = placed.disks;
            disk_each = disk_one;
            short = lines-short script script_is report call_all (omega (arith, placed.cycles, turns-few script script_is)) cycle_one meter_all event_all
                (omega (arith, placed.recorders, script_is.header.few_recorders)) recorder_one (omega (arith, placed.disks, script_is.header.few_disks)) disk_one;
          }
        where
          cycle_one : (i : ℕ) (cycle : PrintedCycle) → slice_get report.cycles i ≡ Some cycle → IsCycleLine i cycle
          cycle_one i cycle at = form-cycle i cycle (placed.cycle_each i cycle at) (Each-at (λ (x : PrintedCycle). IsLineForm (cycle_row x)) report.cycles i cycle cycles at)

          recorder_one : (i : ℕ) (recorder : PrintedRecorder) → slice_get report.recorders i ≡ Some recorder → IsRecorderLine script i recorder
          recorder_one i recorder at =
              let p = placed.recorder_each i recorder at in
              let h = Each-at (λ (x : PrintedRecorder). Each IsLineForm (recorder_rows x)) report.recorders i recorder recorders at in
              let all = All-from_each (λ (o : Overrun). IsLineForm (overrun_row o)) recorder.overruns (Each-unmap IsLineForm overrun_row recorder.overruns h.1) in
              record { number_is = p.number_is; blocks = (h.0).1; few = p.few; each = λ k d b. record { recorder_is = p.each k d b; cycle = (all k d b).1; sent = (all k d b).2; taken = (all k d b).3 } }

          disk_one : (i : ℕ) (disk : PrintedDisk) → slice_get report.disks i ≡ Some disk → IsDiskLine script i disk
          disk_one i disk at =
              let p = placed.disk_each i disk at in
              let h = Each-at (λ (x : PrintedDisk). Each IsLineForm (disk_rows x)) report.disks i disk disks at in
              let all = All-from_each (λ (o : Underrun). IsLineForm (underrun_row o)) disk.underruns (Each-unmap IsLineForm underrun_row disk.underruns h.1) in
              record { number_is = p.number_is; blocks = (h.0).1; few = p.few; each = λ k d b. record { disk_is = p.each k d b; cycle = (all k d b).1; sent = (all k d b).2; taken = (all k d b).3 } }
