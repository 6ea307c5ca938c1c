-- Lines that lead to the end are those of a placed report.
--     lines-report      the report
use Rattle.std.proofs.Common.{◌≡◌, ℕ, zero, suc, ◌+◌, ◌-◌, ◌<◌, ◌≤◌, ◌==◌, ◌&&◌, ◌⊎◌, inl, inr, Bool, true, false, cond, nat_lt, nat_le, List, [], ◌∷◌, ◌++◌, length, map, flat_map, slice_get, Option, Some, None, refl, sym, ◌∙◌, ap, ap₂, subst, arith, append_assoc}
use Rattle.std.specs.Prelude.{option_and_then}
use Rattle.std.proofs.lemmas.Bool.Decides.{nat_tests}
use Rattle.jack_types.specs.declared.replies.Overrun.{Overrun}
use Rattle.jack_types.specs.declared.replies.Underrun.{Underrun}
use Rattle.session_model.specs.Reports.{Report, PrintedCall, PrintedCycle, PrintedMeter, PrintedEvent, PrintedRecorder, PrintedDisk}
use Rattle.session_model.specs.Scripts.{Script}
use Rattle.session_laws.proofs.ListLemmas.{Each, Each-weaker, slice-some}
use Rattle.session_laws.proofs.SerialLossLemmas.{All-from_each}
use Rattle.report_reader.specs.Forms.{IsLineForm, printed_call, printed_cycle, printed_event, printed_meter, printed_place, printed_reply}
use Rattle.report_reader.specs.Reports.{IsPlaced, IsPlacedRecorder, IsPlacedDisk, call_row, cycle_row, disk_rows, event_row, meter_row, overrun_row, place_row, recorder_rows, reply_row, report_rows, underrun_row}
use Rattle.report_reader.specs.declared.rows.CallLine.{CallLine}
use Rattle.report_reader.specs.declared.rows.CycleLine.{CycleLine}
use Rattle.report_reader.specs.declared.rows.EventLine.{EventLine}
use Rattle.report_reader.specs.declared.rows.Line.{Line}
use Rattle.report_reader.specs.declared.rows.Line.TheVariants.{Report as ReportLine, Call, Cycle, Meter, Midi, Recorder, Overrun as OverrunLine, Disk, Underrun as UnderrunLine, End}
use Rattle.report_reader.specs.declared.rows.Loss.{Loss}
use Rattle.report_reader.specs.declared.rows.Place.{Place as BarPlace}
use Rattle.report_reader.specs.declared.rows.ReplyLine.{ReplyLine}
use Rattle.report_reader.specs.declared.rows.ReplyLine.TheVariants.{Accepted as AcceptedLine, Refused as RefusedLine, Latency as LatencyLine}
use Rattle.report_laws.specs.Places.{in_cycles, in_disks, in_meters, in_recorders, limits_of, next, walk}
use Rattle.report_laws.specs.declared.places.Limits.{Limits}
use Rattle.report_laws.specs.declared.places.Place.{Place}
use Rattle.report_laws.specs.declared.places.Place.TheVariants.{Start, Calls, Cycles, Meters, Events, Recorders, Disks, Done}

-- ---- a line, and what is printed of it

call-back : (call : CallLine) → call_row (printed_call call) ≡ Call call
call-back call = go call.reply
  where
    go : (r : ReplyLine) → Call (record { lane = call.lane; index = call.index; reply = reply_row (printed_reply r) }) ≡ Call (record { lane = call.lane; index = call.index; reply = r })
    go (AcceptedLine n) = refl
    go (RefusedLine r) = refl
    go (LatencyLine min max) = refl

cycle-back : (cycle : CycleLine) → cycle_row (printed_cycle cycle) ≡ Cycle cycle
cycle-back cycle = go cycle.place
  where
    go : (p : Option BarPlace)
        → Cycle (record { cycle = cycle.cycle; number = cycle.number; state = cycle.state; frame = cycle.frame; place = place_row (printed_place p) })
        ≡ Cycle (record { cycle = cycle.cycle; number = cycle.number; state = cycle.state; frame = cycle.frame; place = p })
    go None = refl
    go (Some p) = refl

event-back : (event : EventLine) → event.event.offset ≡ 0 → event_row (printed_event event) ≡ Midi event
event-back event e = ap (λ n. Midi (record { client = event.client; cycle = event.cycle; offset = event.offset; event = record { offset = n; size = event.event.size; bytes = event.event.bytes } })) (sym e)

abbrev overrun_of : Loss → Overrun
overrun_of loss = record { recorder = loss.file; cycle = loss.cycle; sent = loss.sent; taken = loss.taken }

abbrev underrun_of : Loss → Underrun
underrun_of loss = record { disk = loss.file; cycle = loss.cycle; sent = loss.sent; taken = loss.taken }

none-some : {X : Type 0} (x : X) → None ≡ Some x → ⊥
none-some x e = cc

module _ (script : Script) where
  abbrev limits : Limits
  limits = limits_of script

  done-last : (xs : List Line) → walk limits Done xs ≡ Some Done → xs ≡ []
  done-last [] h = refl
  done-last (x ∷ xs) h = absurd (none-some Done h)

  -- ---- disks

  pub record DisksRead (d left : ℕ) (lines : List Line) : Type 0 where
    pub losses : List Underrun
    pub disks : List PrintedDisk
    pub lines_are : lines ≡ map underrun_row losses ++ (flat_map disk_rows disks ++ End ∷ [])
    pub count : length losses ≡ left
    pub each : Each (λ (o : Underrun). o.disk + 1 ≡ d) losses
    pub many : d + length disks ≡ limits.disks
    pub placed : (i : ℕ) (disk : PrintedDisk) → slice_get disks i ≡ Some disk → IsPlacedDisk script (d + i) disk

  read-disks : (lines : List Line) (d left : ℕ) → walk limits (Disks d left) lines ≡ Some Done → DisksRead d left lines
  read-disks [] d left h = absurd (other h)
    where
      other : Some (Disks d left) ≡ Some Done → ⊥
      other e = cc
  read-disks (Disk count ∷ xs) d left h = go (left == 0) (nat_lt d limits.disks) (count.file == d) (nat_le count.losses limits.cycles) refl refl refl refl h (λ k. read-disks xs (d + 1) count.losses k)
    where
      go : (s t u v : Bool) → (left == 0) ≡ s → nat_lt d limits.disks ≡ t → (count.file == d) ≡ u → nat_le count.losses limits.cycles ≡ v
          → option_and_then (λ q. walk limits q xs) (cond (s && t && u && v) (Some (Disks (d + 1) count.losses)) None) ≡ Some Done
          → (walk limits (Disks (d + 1) count.losses) xs ≡ Some Done → DisksRead (d + 1) count.losses xs) → DisksRead d left (Disk count ∷ xs)
      go false t u v a b c e k f = absurd (none-some Done k)
      go true false u v a b c e k f = absurd (none-some Done k)
      go true true false v a b c e k f = absurd (none-some Done k)
      go true true true false a b c e k f = absurd (none-some Done k)
      go true true true true a b c e k f =
          let behind = f k in
          let disk : PrintedDisk = record { disk = count.file; blocks = count.blocks; underruns = behind.losses } in
          let empty : left ≡ 0 = grind (arith, nat_tests) in
          let its : count.file ≡ d = grind (arith, nat_tests) in
          let few : count.losses ≤ limits.cycles = grind (arith, nat_tests) in
          record {
            losses = [];
            disks = disk ∷ behind.disks;
            lines_are = ap₂ (λ (y : Line) (ys : List Line). y ∷ ys) (ap (λ n. Disk (record { file = count.file; blocks = count.blocks; losses = n })) (sym behind.count))
                (behind.lines_are ∙ sym (append_assoc (map underrun_row behind.losses) (flat_map disk_rows behind.disks) (End ∷ [])));
            count = sym empty;
            each = tt;
            many = omega (arith, behind.many);
            placed = later disk behind.disks its (omega (arith, behind.count, few)) behind.losses behind.each refl behind.placed;
          }
        where
          later : (disk : PrintedDisk) (disks : List PrintedDisk) → disk.disk ≡ d → length disk.underruns ≤ limits.cycles → (losses : List Underrun) → Each (λ (o : Underrun). o.disk + 1 ≡ d + 1) losses → disk.underruns ≡ losses
              → ((i : ℕ) (y : PrintedDisk) → slice_get disks i ≡ Some y → IsPlacedDisk script (d + 1 + i) y) → (i : ℕ) (y : PrintedDisk) → slice_get (disk ∷ disks) i ≡ Some y → IsPlacedDisk script (d + i) y
          later disk disks its few losses each same behind zero y e =
              subst (IsPlacedDisk script (d + 0)) (slice-some disk y e)
              (record {
                number_is = omega (arith, its);
                few = few;
                each = All-from_each (λ (o : Underrun). o.disk ≡ d + 0) disk.underruns
                    (subst (Each (λ (o : Underrun). o.disk ≡ d + 0)) (sym same) (Each-weaker (λ (o : Underrun). o.disk + 1 ≡ d + 1) (λ (o : Underrun). o.disk ≡ d + 0) (λ o q. omega (arith, q)) losses each));
              })
          later disk disks its few losses each same behind (suc i) y e = subst (λ j. IsPlacedDisk script j y) (further i) (behind i y e)
            where
              further : (i : ℕ) → d + 1 + i ≡ d + suc i
              further i = omega arith
  read-disks (UnderrunLine loss ∷ xs) d left h = go (nat_lt 0 left) (loss.file + 1 == d) refl refl h (λ k. read-disks xs d (left - 1) k)
    where
      go : (s t : Bool) → nat_lt 0 left ≡ s → (loss.file + 1 == d) ≡ t → option_and_then (λ q. walk limits q xs) (cond (s && t) (Some (Disks d (left - 1))) None) ≡ Some Done
          → (walk limits (Disks d (left - 1)) xs ≡ Some Done → DisksRead d (left - 1) xs) → DisksRead d left (UnderrunLine loss ∷ xs)
      go false t a b k f = absurd (none-some Done k)
      go true false a b k f = absurd (none-some Done k)
      go true true a b k f =
          let behind = f k in
          let some : 0 < left = grind (arith, nat_tests) in
          let its : loss.file + 1 ≡ d = grind (arith, nat_tests) in
          record {
            losses = underrun_of loss ∷ behind.losses;
            disks = behind.disks;
            lines_are = ap (λ (ys : List Line). UnderrunLine loss ∷ ys) behind.lines_are;
            count = omega (arith, behind.count, some);
            each = (its, behind.each);
            many = behind.many;
            placed = behind.placed;
          }
  read-disks (End ∷ xs) d left h = go (left == 0) (d == limits.disks) refl refl h
    where
      go : (s t : Bool) → (left == 0) ≡ s → (d == limits.disks) ≡ t → option_and_then (λ q. walk limits q xs) (cond (s && t) (Some Done) None) ≡ Some Done → DisksRead d left (End ∷ xs)
      go false t a b k = absurd (none-some Done k)
      go true false a b k = absurd (none-some Done k)
      go true true a b k =
          let empty : left ≡ 0 = grind (arith, nat_tests) in
          let all : d ≡ limits.disks = grind (arith, nat_tests) in
          record { losses = []; disks = []; lines_are = ap (λ (ys : List Line). End ∷ ys) (done-last xs k); count = sym empty; each = tt; many = omega (arith, all); placed = λ i y e. absurd (none-some y e) }
  read-disks (ReportLine ∷ xs) d left h = absurd (none-some Done h)
  read-disks (Call x ∷ xs) d left h = absurd (none-some Done h)
  read-disks (Cycle x ∷ xs) d left h = absurd (none-some Done h)
  read-disks (Meter x ∷ xs) d left h = absurd (none-some Done h)
  read-disks (Midi x ∷ xs) d left h = absurd (none-some Done h)
  read-disks (Recorder x ∷ xs) d left h = absurd (none-some Done h)
  read-disks (OverrunLine x ∷ xs) d left h = absurd (none-some Done h)

  -- ---- recorders

  pub record RecordersRead (r left : ℕ) (lines : List Line) : Type 0 where
    pub losses : List Overrun
    pub recorders : List PrintedRecorder
    pub behind : List Line
    pub lines_are : lines ≡ map overrun_row losses ++ (flat_map recorder_rows recorders ++ behind)
    pub read : walk limits (Disks 0 0) behind ≡ Some Done
    pub count : length losses ≡ left
    pub each : Each (λ (o : Overrun). o.recorder + 1 ≡ r) losses
    pub many : r + length recorders ≡ limits.recorders
    pub placed : (i : ℕ) (recorder : PrintedRecorder) → slice_get recorders i ≡ Some recorder → IsPlacedRecorder script (r + i) recorder

  -- a line of a later kind
  recorders-end : (x : Line) (xs : List Line) (r left : ℕ) → in_recorders limits r left x ≡ cond (left == 0 && (r == limits.recorders)) (in_disks limits 0 0 x) None
      → walk limits (Recorders r left) (x ∷ xs) ≡ Some Done → RecordersRead r left (x ∷ xs)
  recorders-end x xs r left by h = go (left == 0) (r == limits.recorders) refl refl (ap (option_and_then (λ q. walk limits q xs)) (sym by) ∙ h)
    where
      go : (s t : Bool) → (left == 0) ≡ s → (r == limits.recorders) ≡ t → option_and_then (λ q. walk limits q xs) (cond (s && t) (in_disks limits 0 0 x) None) ≡ Some Done → RecordersRead r left (x ∷ xs)
      go false t a b k = absurd (none-some Done k)
      go true false a b k = absurd (none-some Done k)
      go true true a b k =
          let empty : left ≡ 0 = grind (arith, nat_tests) in
          let all : r ≡ limits.recorders = grind (arith, nat_tests) in
          record { losses = []; recorders = []; behind = x ∷ xs; lines_are = refl; read = k; count = sym empty; each = tt; many = omega (arith, all); placed = λ i y e. absurd (none-some y e) }

  read-recorders : (lines : List Line) (r left : ℕ) → walk limits (Recorders r left) lines ≡ Some Done → RecordersRead r left lines
  read-recorders [] r left h = absurd (other h)
    where
      other : Some (Recorders r left) ≡ Some Done → ⊥
      other e = cc
  read-recorders (Recorder count ∷ xs) r left h = go (left == 0) (nat_lt r limits.recorders) (count.file == r) (nat_le count.losses limits.cycles) refl refl refl refl h (λ k. read-recorders xs (r + 1) count.losses k)
    where
      go : (s t u v : Bool) → (left == 0) ≡ s → nat_lt r limits.recorders ≡ t → (count.file == r) ≡ u → nat_le count.losses limits.cycles ≡ v
          → option_and_then (λ q. walk limits q xs) (cond (s && t && u && v) (Some (Recorders (r + 1) count.losses)) None) ≡ Some Done
          → (walk limits (Recorders (r + 1) count.losses) xs ≡ Some Done → RecordersRead (r + 1) count.losses xs) → RecordersRead r left (Recorder count ∷ xs)
      go false t u v a b c e k f = absurd (none-some Done k)
      go true false u v a b c e k f = absurd (none-some Done k)
      go true true false v a b c e k f = absurd (none-some Done k)
      go true true true false a b c e k f = absurd (none-some Done k)
      go true true true true a b c e k f =
          let behind = f k in
          let recorder : PrintedRecorder = record { recorder = count.file; blocks = count.blocks; overruns = behind.losses } in
          let empty : left ≡ 0 = grind (arith, nat_tests) in
          let its : count.file ≡ r = grind (arith, nat_tests) in
          let few : count.losses ≤ limits.cycles = grind (arith, nat_tests) in
          record {
            losses = [];
            recorders = recorder ∷ behind.recorders;
            behind = behind.behind;
            lines_are = ap₂ (λ (y : Line) (ys : List Line). y ∷ ys) (ap (λ n. Recorder (record { file = count.file; blocks = count.blocks; losses = n })) (sym behind.count))
                (behind.lines_are ∙ sym (append_assoc (map overrun_row behind.losses) (flat_map recorder_rows behind.recorders) behind.behind));
            read = behind.read;
            count = sym empty;
            each = tt;
            many = omega (arith, behind.many);
            placed = later recorder behind.recorders its (omega (arith, behind.count, few)) behind.losses behind.each refl behind.placed;
          }
        where
          later : (recorder : PrintedRecorder) (recorders : List PrintedRecorder) → recorder.recorder ≡ r → length recorder.overruns ≤ limits.cycles
              → (losses : List Overrun) → Each (λ (o : Overrun). o.recorder + 1 ≡ r + 1) losses → recorder.overruns ≡ losses
              → ((i : ℕ) (y : PrintedRecorder) → slice_get recorders i ≡ Some y → IsPlacedRecorder script (r + 1 + i) y) → (i : ℕ) (y : PrintedRecorder) → slice_get (recorder ∷ recorders) i ≡ Some y → IsPlacedRecorder script (r + i) y
          later recorder recorders its few losses each same behind zero y e =
              subst (IsPlacedRecorder script (r + 0)) (slice-some recorder y e)
              (record {
                number_is = omega (arith, its);
                few = few;
                each = All-from_each (λ (o : Overrun). o.recorder ≡ r + 0) recorder.overruns
                    (subst (Each (λ (o : Overrun). o.recorder ≡ r + 0)) (sym same) (Each-weaker (λ (o : Overrun). o.recorder + 1 ≡ r + 1) (λ (o : Overrun). o.recorder ≡ r + 0) (λ o q. omega (arith, q)) losses each));
              })
          later recorder recorders its few losses each same behind (suc i) y e = subst (λ j. IsPlacedRecorder script j y) (further i) (behind i y e)
            where
              further : (i : ℕ) → r + 1 + i ≡ r + suc i
              further i = omega arith
  read-recorders (OverrunLine loss ∷ xs) r left h = go (nat_lt 0 left) (loss.file + 1 == r) refl refl h (λ k. read-recorders xs r (left - 1) k)
    where
      go : (s t : Bool) → nat_lt 0 left ≡ s → (loss.file + 1 == r) ≡ t → option_and_then (λ q. walk limits q xs) (cond (s && t) (Some (Recorders r (left - 1))) None) ≡ Some Done
          → (walk limits (Recorders r (left - 1)) xs ≡ Some Done → RecordersRead r (left - 1) xs) → RecordersRead r left (OverrunLine loss ∷ xs)
      go false t a b k f = absurd (none-some Done k)
      go true false a b k f = absurd (none-some Done k)
      go true true a b k f =
          let behind = f k in
          let some : 0 < left = grind (arith, nat_tests) in
          let its : loss.file + 1 ≡ r = grind (arith, nat_tests) in
          record {
            losses = overrun_of loss ∷ behind.losses;
            recorders = behind.recorders;
            behind = behind.behind;
            lines_are = ap (λ (ys : List Line). OverrunLine loss ∷ ys) behind.lines_are;
            read = behind.read;
            count = omega (arith, behind.count, some);
            each = (its, behind.each);
            many = behind.many;
            placed = behind.placed;
          }
  read-recorders (ReportLine ∷ xs) r left h = recorders-end ReportLine xs r left refl h
  read-recorders (Call x ∷ xs) r left h = recorders-end (Call x) xs r left refl h
  read-recorders (Cycle x ∷ xs) r left h = recorders-end (Cycle x) xs r left refl h
  read-recorders (Meter x ∷ xs) r left h = recorders-end (Meter x) xs r left refl h
  read-recorders (Midi x ∷ xs) r left h = recorders-end (Midi x) xs r left refl h
  read-recorders (Disk x ∷ xs) r left h = recorders-end (Disk x) xs r left refl h
  read-recorders (UnderrunLine x ∷ xs) r left h = recorders-end (UnderrunLine x) xs r left refl h
  read-recorders (End ∷ xs) r left h = recorders-end End xs r left refl h

  -- ---- kinds of which there may be fewer: calls, meters and events

  module _ {X : Type 0} (row : X → Line) (at : ℕ → Place) (limit : ℕ) (later : Place) where
    -- a line is of the kind, or read as one of a later kind
    abbrev Step : ℕ → Line → Type 0
    Step n x = ((item : X) × (row item ≡ x) × (next limits (at n) x ≡ cond (nat_lt n limit) (Some (at (n + 1))) None)) ⊎ (next limits (at n) x ≡ next limits later x)

    record SomeRead (n : ℕ) (lines : List Line) : Type 0 where
      pub items : List X
      pub behind : List Line
      pub lines_are : lines ≡ map row items ++ behind
      pub read : walk limits later behind ≡ Some Done
      pub few : n + length items ≤ limit
      pub form : Each IsLineForm behind

    read-some : ((n : ℕ) (x : Line) → IsLineForm x → Step n x) → ((n : ℕ) → at n ≡ Done → ⊥) → (lines : List Line) (n : ℕ) → n ≤ limit → Each IsLineForm lines → walk limits (at n) lines ≡ Some Done → SomeRead n lines
    read-some step not_done [] n low form h = absurd (not_done n (slice-some (at n) Done h))
    read-some step not_done (x ∷ xs) n low form h = go (step n x form.0) (λ more k. read-some step not_done xs (n + 1) more form.1 k)
      where
        one : (item : X) → row item ≡ x → (t : Bool) → nat_lt n limit ≡ t → option_and_then (λ q. walk limits q xs) (cond t (Some (at (n + 1))) None) ≡ Some Done
            → (n + 1 ≤ limit → walk limits (at (n + 1)) xs ≡ Some Done → SomeRead (n + 1) xs) → SomeRead n (x ∷ xs)
        one item e false a k f = absurd (none-some Done k)
        one item e true a k f =
            let r = f (grind (arith, nat_tests)) k in
            record { items = item ∷ r.items; behind = r.behind; lines_are = ap₂ (λ (y : Line) (ys : List Line). y ∷ ys) (sym e) r.lines_are; read = r.read; few = omega (arith, r.few); form = r.form }

        go : Step n x → (n + 1 ≤ limit → walk limits (at (n + 1)) xs ≡ Some Done → SomeRead (n + 1) xs) → SomeRead n (x ∷ xs)
        go (inl s) f = one s.0 s.1 (nat_lt n limit) refl (ap (option_and_then (λ q. walk limits q xs)) (sym s.2) ∙ h) f
        go (inr s) f = record { items = []; behind = x ∷ xs; lines_are = refl; read = ap (option_and_then (λ q. walk limits q xs)) (sym s) ∙ h; few = omega (arith, low); form = form }

  call-step : (n : ℕ) (x : Line) → IsLineForm x → Step call_row Calls limits.calls (Cycles 0) n x
  call-step n ReportLine form = inr refl
  call-step n (Call x) form = inl (printed_call x, call-back x, refl)
  call-step n (Cycle x) form = inr refl
  call-step n (Meter x) form = inr refl
  call-step n (Midi x) form = inr refl
  call-step n (Recorder x) form = inr refl
  call-step n (OverrunLine x) form = inr refl
  call-step n (Disk x) form = inr refl
  call-step n (UnderrunLine x) form = inr refl
  call-step n End form = inr refl

  meter-step : (n : ℕ) (x : Line) → IsLineForm x → Step meter_row Meters limits.meters (Events 0) n x
  meter-step n ReportLine form = inr refl
  meter-step n (Call x) form = inr refl
  meter-step n (Cycle x) form = inr refl
  meter-step n (Meter x) form = inl (printed_meter x, refl, refl)
  meter-step n (Midi x) form = inr refl
  meter-step n (Recorder x) form = inr refl
  meter-step n (OverrunLine x) form = inr refl
  meter-step n (Disk x) form = inr refl
  meter-step n (UnderrunLine x) form = inr refl
  meter-step n End form = inr refl

  event-step : (n : ℕ) (x : Line) → IsLineForm x → Step event_row Events limits.events (Recorders 0 0) n x
  event-step n ReportLine form = inr refl
  event-step n (Call x) form = inr refl
  event-step n (Cycle x) form = inr refl
  event-step n (Meter x) form = inr refl
  event-step n (Midi x) form = inl (printed_event x, event-back x form.3, refl)
  event-step n (Recorder x) form = inr refl
  event-step n (OverrunLine x) form = inr refl
  event-step n (Disk x) form = inr refl
  event-step n (UnderrunLine x) form = inr refl
  event-step n End form = inr refl

  -- ---- cycles

  record CyclesRead (n : ℕ) (lines : List Line) : Type 0 where
    pub cycles : List PrintedCycle
    pub behind : List Line
    pub lines_are : lines ≡ map cycle_row cycles ++ behind
    pub read : walk limits (Meters 0) behind ≡ Some Done
    pub many : n + length cycles ≡ limits.cycles
    pub each : (i : ℕ) (cycle : PrintedCycle) → slice_get cycles i ≡ Some cycle → cycle.moment.cycle ≡ n + i + 1
    pub form : Each IsLineForm behind

  cycles-end : (x : Line) (xs : List Line) (n : ℕ) → Each IsLineForm (x ∷ xs) → in_cycles limits n x ≡ cond (n == limits.cycles) (in_meters limits 0 x) None → walk limits (Cycles n) (x ∷ xs) ≡ Some Done → CyclesRead n (x ∷ xs)
  cycles-end x xs n form by h = go (n == limits.cycles) refl (ap (option_and_then (λ q. walk limits q xs)) (sym by) ∙ h)
    where
      go : (s : Bool) → (n == limits.cycles) ≡ s → option_and_then (λ q. walk limits q xs) (cond s (in_meters limits 0 x) None) ≡ Some Done → CyclesRead n (x ∷ xs)
      go false a k = absurd (none-some Done k)
      go true a k =
          let all : n ≡ limits.cycles = grind (arith, nat_tests) in
          record { cycles = []; behind = x ∷ xs; lines_are = refl; read = k; many = omega (arith, all); each = λ i y e. absurd (none-some y e); form = form }

  read-cycles : (lines : List Line) (n : ℕ) → Each IsLineForm lines → walk limits (Cycles n) lines ≡ Some Done → CyclesRead n lines
  read-cycles [] n form h = absurd (other h)
    where
      other : Some (Cycles n) ≡ Some Done → ⊥
      other e = cc
  read-cycles (Cycle x ∷ xs) n form h = go (nat_lt n limits.cycles) (x.cycle == n + 1) refl refl h (λ k. read-cycles xs (n + 1) form.1 k)
    where
      go : (s t : Bool) → nat_lt n limits.cycles ≡ s → (x.cycle == n + 1) ≡ t → option_and_then (λ q. walk limits q xs) (cond (s && t) (Some (Cycles (n + 1))) None) ≡ Some Done
          → (walk limits (Cycles (n + 1)) xs ≡ Some Done → CyclesRead (n + 1) xs) → CyclesRead n (Cycle x ∷ xs)
      go false t a b k f = absurd (none-some Done k)
      go true false a b k f = absurd (none-some Done k)
      go true true a b k f =
          let r = f k in
          let its : x.cycle ≡ n + 1 = grind (arith, nat_tests) in
          record {
            cycles = printed_cycle x ∷ r.cycles;
            behind = r.behind;
            lines_are = ap₂ (λ (y : Line) (ys : List Line). y ∷ ys) (sym (cycle-back x)) r.lines_are;
            read = r.read;
            many = omega (arith, r.many);
            each = later (printed_cycle x) r.cycles its r.each;
            form = r.form;
          }
        where
          later : (cycle : PrintedCycle) (cycles : List PrintedCycle) → cycle.moment.cycle ≡ n + 1 → ((i : ℕ) (y : PrintedCycle) → slice_get cycles i ≡ Some y → y.moment.cycle ≡ n + 1 + i + 1)
              → (i : ℕ) (y : PrintedCycle) → slice_get (cycle ∷ cycles) i ≡ Some y → y.moment.cycle ≡ n + i + 1
          later cycle cycles its behind zero y e = let same : cycle ≡ y = slice-some cycle y e in omega (arith, its, ap (λ (z : PrintedCycle). z.moment.cycle) same)
          later cycle cycles its behind (suc i) y e = omega (arith, behind i y e)
  read-cycles (ReportLine ∷ xs) n form h = cycles-end ReportLine xs n form refl h
  read-cycles (Call x ∷ xs) n form h = cycles-end (Call x) xs n form refl h
  read-cycles (Meter x ∷ xs) n form h = cycles-end (Meter x) xs n form refl h
  read-cycles (Midi x ∷ xs) n form h = cycles-end (Midi x) xs n form refl h
  read-cycles (Recorder x ∷ xs) n form h = cycles-end (Recorder x) xs n form refl h
  read-cycles (OverrunLine x ∷ xs) n form h = cycles-end (OverrunLine x) xs n form refl h
  read-cycles (Disk x ∷ xs) n form h = cycles-end (Disk x) xs n form refl h
  read-cycles (UnderrunLine x ∷ xs) n form h = cycles-end (UnderrunLine x) xs n form refl h
  read-cycles (End ∷ xs) n form h = cycles-end End xs n form refl h

  -- ---- the report

  no-items : {X : Type 0} (xs : List X) → length xs ≡ 0 → xs ≡ []
  no-items [] e = refl
  no-items (x ∷ xs) e = absurd (omega (arith, e))

  behind-first : (lines : List Line) → Each IsLineForm lines → walk limits (Calls 0) lines ≡ Some Done → (report : Report) × IsPlaced script report × (ReportLine ∷ lines ≡ report_rows report)
  behind-first lines form h =
      let c = read-some call_row Calls limits.calls (Cycles 0) call-step (λ n e. cc) lines 0 (omega arith) form h in
      let k = read-cycles c.behind 0 c.form c.read in
      let m = read-some meter_row Meters limits.meters (Events 0) meter-step (λ n e. cc) k.behind 0 (omega arith) k.form k.read in
      let e = read-some event_row Events limits.events (Recorders 0 0) event-step (λ n e. cc) m.behind 0 (omega arith) m.form m.read in
      let r = read-recorders e.behind 0 0 e.read in
      let d = read-disks r.behind 0 0 r.read in
      let report : Report = record { calls = c.items; cycles = k.cycles; meters = m.items; events = e.items; recorders = r.recorders; disks = d.disks } in (
        report,
        record {
          few_calls = omega (arith, c.few);
          cycles = omega (arith, k.many);
          cycle_each = λ i y q. numbered i y (k.each i y q);
          few_meters = omega (arith, m.few);
          few_events = omega (arith, e.few);
          recorders = omega (arith, r.many);
          recorder_each = λ i y q. subst (λ j. IsPlacedRecorder script j y) (no-more i) (r.placed i y q);
          disks = omega (arith, d.many);
          disk_each = λ i y q. subst (λ j. IsPlacedDisk script j y) (no-more i) (d.placed i y q);
        },
        whole c.items k.cycles m.items e.items r.recorders d.disks lines c.behind k.behind m.behind e.behind r.behind c.lines_are k.lines_are m.lines_are e.lines_are
            (r.lines_are ∙ ap (λ (os : List Overrun). map overrun_row os ++ (flat_map recorder_rows r.recorders ++ r.behind)) (no-items r.losses r.count))
            (d.lines_are ∙ ap (λ (os : List Underrun). map underrun_row os ++ (flat_map disk_rows d.disks ++ End ∷ [])) (no-items d.losses d.count)),
      )
    where
      numbered : (i : ℕ) (y : PrintedCycle) → y.moment.cycle ≡ 0 + i + 1 → y.moment.cycle ≡ i + 1
      numbered i y e = omega (arith, e)

      no-more : (i : ℕ) → 0 + i ≡ i
      no-more i = omega arith

      whole : (calls : List PrintedCall) (cycles : List PrintedCycle) (meters : List PrintedMeter) (events : List PrintedEvent) (recorders : List PrintedRecorder) (disks : List PrintedDisk) (xs b c d e f : List Line)
          → xs ≡ map call_row calls ++ b → b ≡ map cycle_row cycles ++ c → c ≡ map meter_row meters ++ d → d ≡ map event_row events ++ e → e ≡ flat_map recorder_rows recorders ++ f → f ≡ flat_map disk_rows disks ++ End ∷ []
          → ReportLine ∷ xs ≡ report_rows (record { calls = calls; cycles = cycles; meters = meters; events = events; recorders = recorders; disks = disks })
      whole calls cycles meters events recorders disks xs b c d e f p q r s t u =
          let one : List Line = ReportLine ∷ map call_row calls in
          let two : List Line = map cycle_row cycles in
          let three : List Line = map meter_row meters in
          let four : List Line = map event_row events in
          let five : List Line = flat_map recorder_rows recorders in
          let six : List Line = flat_map disk_rows disks in
          ap (λ (ys : List Line). ReportLine ∷ ys) p
          ∙ ap (λ (ys : List Line). one ++ ys) q
          ∙ sym (append_assoc one two c)
          ∙ ap (λ (ys : List Line). one ++ two ++ ys) r
          ∙ sym (append_assoc (one ++ two) three d)
          ∙ ap (λ (ys : List Line). one ++ two ++ three ++ ys) s
          ∙ sym (append_assoc (one ++ two ++ three) four e)
          ∙ ap (λ (ys : List Line). one ++ two ++ three ++ four ++ ys) t
          ∙ sym (append_assoc (one ++ two ++ three ++ four) five f)
          ∙ ap (λ (ys : List Line). one ++ two ++ three ++ four ++ five ++ ys) u
          ∙ sym (append_assoc (one ++ two ++ three ++ four ++ five) six (End ∷ []))

  pub lines-report : (lines : List Line) → Each IsLineForm lines → walk limits Start lines ≡ Some Done → (report : Report) × IsPlaced script report × (lines ≡ report_rows report)
  lines-report [] form h = absurd (other h)
    where
      other : Some Start ≡ Some Done → ⊥
      other e = cc
  lines-report (ReportLine ∷ xs) form h = behind-first xs form.1 h
  lines-report (Call x ∷ xs) form h = absurd (none-some Done h)
  lines-report (Cycle x ∷ xs) form h = absurd (none-some Done h)
  lines-report (Meter x ∷ xs) form h = absurd (none-some Done h)
  lines-report (Midi x ∷ xs) form h = absurd (none-some Done h)
  lines-report (Recorder x ∷ xs) form h = absurd (none-some Done h)
  lines-report (OverrunLine x ∷ xs) form h = absurd (none-some Done h)
  lines-report (Disk x ∷ xs) form h = absurd (none-some Done h)
  lines-report (UnderrunLine x ∷ xs) form h = absurd (none-some Done h)
  lines-report (End ∷ xs) form h = absurd (none-some Done h)
