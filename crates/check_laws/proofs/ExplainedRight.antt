-- Where a report explains its files, all parts of the one computation's report are right.
--     explained-back      what that report says is what explains the files
--     explained-right      all its parts are right
use Rattle.std.proofs.Common.{◌≡◌, ℕ, zero, suc, ◌+◌, ◌-◌, ◌<◌, ◌≤◌, Bool, true, false, cond, nat_lt, ◌==◌, List, [], ◌∷◌, ◌++◌, length, map, filter, filter_map, flat_map, take, get_or, slice_get, slice_index_or, Contains, IsNone, Option, Some, option_map, refl, sym, ◌∙◌, ap, ap₂, subst, arith, eq-eqb, length-take-le}
use Rattle.std.specs.List.{cons_option}
use Rattle.std.proofs.lemmas.Bool.Decides.{nat_tests}
use Rattle.jack_types.specs.declared.commands.Call.{Call}
use Rattle.jack_types.specs.declared.replies.Entry.{Entry}
use Rattle.jack_types.specs.declared.replies.Overrun.{Overrun}
use Rattle.jack_types.specs.declared.replies.Part.{Part}
use Rattle.jack_types.specs.declared.replies.Part.TheVariants.{Report as WrongReport, Call as WrongCall, Cycle as WrongCycle, Meter as WrongMeter, Midi as WrongMidi, Recorder as WrongRecorder, Overrun as WrongOverrun, Disk as WrongDisk, Underrun as WrongUnderrun, Record as WrongRecord, Playback as WrongPlayback}
use Rattle.jack_types.specs.declared.replies.Underrun.{Underrun}
use Rattle.session_model.specs.Courses.{Course, no_turn, number, underruns_of}
use Rattle.session_model.specs.Disks.{IsMissed, IsBehindRing, turned_underruns}
use Rattle.session_model.specs.Explanations.{Given, Printed, Written, Explained, course_of, overruns_of, record_text, playback_text}
use Rattle.session_model.specs.Histories.{LegalSoFar, accepted, calls_of, plan_of, state_after}
use Rattle.session_model.specs.Recorders.{Lost, IsOverrun, IsAfterSegment}
use Rattle.session_model.specs.Replies.{reply}
use Rattle.session_model.specs.Reports.{Report, PrintedCycle, PrintedRecorder, PrintedDisk, report_of, printed_call, printed_cycle, printed_recorder, printed_disk}
use Rattle.session_model.specs.Samples.{below}
use Rattle.session_model.specs.Scripts.{Script, Planned, turns, planned, planned_of}
use Rattle.grammar_laws.specs.session_laws.proofs.GraphLemmas.{Contains-take}
use Rattle.grammar_laws.specs.session_laws.proofs.ListLemmas.{Each, Each-contains, Each-from_contains, Each-below, Contains-kept, Contains-filtered, Contains-map, map-take}
use Rattle.grammar_laws.specs.session_laws.proofs.SerialLemmas.{plan_of-planned}
use Rattle.check_model.specs.Checking.{IsRight, IsCallRight, IsCycleInTurn, IsOverrunRight, IsUnderrunRight, SameAt, AllRight, printed_of, history_of, entry_of, recorder_blocks, disk_blocks, all_overruns, all_underruns, all_turned}
use Rattle.check_laws.proofs.PlaceLists.{none-some, slice-at, slice-map, length-map, All-from_get, All-get, Found, flat-found, strictly-get, nondecreasing-get, take-twice, map-at}
use Rattle.check_laws.proofs.SameLemmas.{Each-from_all}
use Rattle.check_laws.proofs.TurnedLemmas.{turned-is}
use Rattle.report_texts.proofs.SameReportLemmas.{Contains-unmap, IsPlanned, map-map, places-same}

-- ---- planned calls

-- a call that the script plans
pub legal-planned : (script : Script) (history : List Entry) → LegalSoFar script history → Each (λ (entry : Entry). IsPlanned script entry.call) history
legal-planned script history legal =
    Each-from_contains (λ (entry : Entry). IsPlanned script entry.call) history
    (λ entry c.
    let low : entry.call.lane ≤ 4 = Each-contains (λ (e : Entry). e.call.lane ≤ 4) history entry (Each-from_all (λ (e : Entry). e.call.lane ≤ 4) history legal.lanes) c in
    let keeps = legal.lane_order entry.call.lane low in
    let there : Contains (filter (λ (call : Call). call.lane == entry.call.lane) (calls_of history)) entry.call =
    Contains-kept (λ (call : Call). call.lane == entry.call.lane) (calls_of history) entry.call (eq-eqb entry.call.lane entry.call.lane refl) (Contains-map (λ (e : Entry). e.call) history entry c) in
    let of_plan : Contains (map (λ (plan : Planned). plan.call) (planned_of script entry.call.lane)) entry.call =
    Contains-take keeps.0 (map (λ (plan : Planned). plan.call) (planned_of script entry.call.lane)) entry.call (subst (λ cs. Contains cs entry.call) keeps.1 there) in
    let w = Contains-unmap (λ (plan : Planned). plan.call) (planned_of script entry.call.lane) entry.call of_plan in
    (w.0, Contains-filtered (λ (plan : Planned). plan.call.lane == entry.call.lane) (planned script) w.0 w.1, w.2))

entry-known : (script : Script) (entry : Entry) → IsPlanned script entry.call → entry_of script (printed_call entry) ≡ Some entry
entry-known script entry p =
    let at : plan_of script entry.call ≡ Some p.0 = ap (plan_of script) (sym p.2) ∙ plan_of-planned script p.0 p.1 in
    ap (option_map (λ (plan : Planned). record { call = plan.call; reply = entry.reply })) at ∙ ap (λ (call : Call). Some (record { call = call; reply = entry.reply })) p.2

known-map : {X Y : Type 0} (f : Y → Option X) (g : X → Y) (xs : List X) → Each (λ x. f (g x) ≡ Some x) xs → filter_map f (map g xs) ≡ xs
known-map f g [] h = refl
known-map f g (x ∷ xs) h = ap₂ (λ o zs. cons_option o zs) h.0 (known-map f g xs h.1)

history-back : (script : Script) (history : List Entry) → LegalSoFar script history → history_of script (map printed_call history) ≡ history
history-back script history legal =
    known-map (entry_of script) printed_call history
    (weaker history (legal-planned script history legal))
  where
    weaker : (es : List Entry) → Each (λ (entry : Entry). IsPlanned script entry.call) es → Each (λ (entry : Entry). entry_of script (printed_call entry) ≡ Some entry) es
    weaker [] h = tt
    weaker (entry ∷ es) h = (entry-known script entry h.0, weaker es h.1)

-- ---- fronts of a legal history

take-of_take : {X : Type 0} (m n : ℕ) (xs : List X) → (k : ℕ) × (take m (take n xs) ≡ take k xs)
take-of_take m n xs = go (nat_lt n m) refl
  where
    all : {X : Type 0} (m n : ℕ) (xs : List X) → n ≤ m → take m (take n xs) ≡ take n xs
    all zero zero xs h = refl
    all zero (suc n) xs h = absurd (omega (arith, h))
    all (suc m) zero xs h = refl
    all (suc m) (suc n) [] h = refl
    all (suc m) (suc n) (x ∷ xs) h = ap (λ zs. x ∷ zs) (all m n xs (omega (arith, h)))

    go : (b : Bool) → nat_lt n m ≡ b → (k : ℕ) × (take m (take n xs) ≡ take k xs)
    go true e = (n, all m n xs (grind (arith, nat_tests)))
    go false e = (m, take-twice m n xs (grind (arith, nat_tests)))

filter-take : {X : Type 0} (p : X → Bool) (n : ℕ) (xs : List X) → (m : ℕ) × (filter p (take n xs) ≡ take m (filter p xs))
filter-take p zero xs = (0, refl)
filter-take p (suc n) [] = (0, refl)
filter-take {X = X} p (suc n) (x ∷ xs) = go (p x) (filter-take p n xs)
  where
    go : (b : Bool) → (m : ℕ) × (filter p (take n xs) ≡ take m (filter p xs)) → (m : ℕ) × (cond b (x ∷ filter p (take n xs)) (filter p (take n xs)) ≡ take m (cond b (x ∷ filter p xs) (filter p xs)))
    go true w = (suc w.0, ap (λ zs. x ∷ zs) w.1)
    go false w = (w.0, w.1)

slice-of_take : {X : Type 0} (n : ℕ) (xs : List X) (i : ℕ) (x : X) → slice_get (take n xs) i ≡ Some x → (i < n) × (slice_get xs i ≡ Some x)
slice-of_take zero xs i x e = absurd (none-some x e)
slice-of_take (suc n) [] i x e = absurd (none-some x e)
slice-of_take (suc n) (y ∷ xs) zero x e = (omega arith, e)
slice-of_take (suc n) (y ∷ xs) (suc i) x e = let w = slice-of_take n xs i x e in (omega (arith, w.0), w.1)

pub LegalSoFar-take : (script : Script) (history : List Entry) (n : ℕ) → LegalSoFar script history → LegalSoFar script (take n history)
LegalSoFar-take script history n legal = record {
  lanes = All-from_get (λ (entry : Entry). entry.call.lane ≤ 4) (take n history) (λ i entry e. All-get (λ (entry : Entry). entry.call.lane ≤ 4) history i entry legal.lanes (slice-of_take n history i entry e).1);
  lane_order = λ lane low.
      let test : Call → Bool = λ (call : Call). call.lane == lane in
      let keeps = legal.lane_order lane low in
      let f = filter-take test n (calls_of history) in
      let planned_calls : List Call = map (λ (plan : Planned). plan.call) (planned_of script lane) in
      let g = take-of_take f.0 keeps.0 planned_calls in
      (g.0, ap (filter test) (map-take (λ (entry : Entry). entry.call) n history) ∙ f.1 ∙ ap (take f.0) keeps.1 ∙ g.1);
  stage_order = λ i entry plan before here there same before_there lower.
      let w = slice-of_take n history i entry here in
      subst (λ es. Contains (calls_of es) before.call) (sym (take-twice i n history (omega (arith, w.0)))) (legal.stage_order i entry plan before w.1 there same before_there lower);
  replies = λ i entry here.
      let w = slice-of_take n history i entry here in
      subst (λ es. entry.reply ≡ reply (state_after script es) (length (accepted es) + 1) entry.call.command) (sym (take-twice i n history (omega (arith, w.0)))) (legal.replies i entry w.1);
}

-- ---- lists by places

flat_map-each : {X Y : Type 0} (f g : X → List Y) (xs : List X) → Each (λ x. f x ≡ g x) xs → flat_map f xs ≡ flat_map g xs
flat_map-each f g [] h = refl
flat_map-each f g (x ∷ xs) h = ap₂ (λ a b. a ++ b) h.0 (flat_map-each f g xs h.1)

flat_map-map : {X Y Z : Type 0} (f : Y → List Z) (g : X → Y) (xs : List X) → flat_map f (map g xs) ≡ flat_map (λ x. f (g x)) xs
flat_map-map f g [] = refl
flat_map-map f g (x ∷ xs) = ap (λ zs. f (g x) ++ zs) (flat_map-map f g xs)

-- what is right at a number of each part, where the report says this
abbrev pub IsRightBy : Given → Written → Report → Printed → Part → ℕ → Type 0
IsRightBy given written report p WrongReport n = Unit {0}
IsRightBy given written report p WrongCall n = IsCallRight given.script report n
IsRightBy given written report p WrongCycle n = IsCycleInTurn (course_of given p) p report n
IsRightBy given written report p WrongMeter n = SameAt report.meters (report_of (course_of given p) p.history p.overruns).meters n
IsRightBy given written report p WrongMidi n = SameAt report.events (report_of (course_of given p) p.history p.overruns).events n
IsRightBy given written report p WrongRecorder n = SameAt (recorder_blocks report) (recorder_blocks (report_of (course_of given p) p.history p.overruns)) n
IsRightBy given written report p WrongOverrun n = IsOverrunRight (course_of given p) p report n
IsRightBy given written report p WrongDisk n = SameAt (disk_blocks report) (disk_blocks (report_of (course_of given p) p.history p.overruns)) n
IsRightBy given written report p WrongUnderrun n = IsUnderrunRight (course_of given p) report n
IsRightBy given written report p WrongRecord n = 1 ≤ n → n ≤ length given.script.header.recorders → slice_index_or written.records (n - 1) [] ≡ record_text given p (n - 1)
IsRightBy given written report p WrongPlayback n = written.playback ≡ playback_text given p

by-right : (given : Given) (written : Written) (report : Report) (part : Part) (n : ℕ) → IsRightBy given written report (printed_of given.script report) part n → IsRight given written report part n
by-right given written report WrongReport n h = h
by-right given written report WrongCall n h = h
by-right given written report WrongCycle n h = h
by-right given written report WrongMeter n h = h
by-right given written report WrongMidi n h = h
by-right given written report WrongRecorder n h = h
by-right given written report WrongOverrun n h = h
by-right given written report WrongDisk n h = h
by-right given written report WrongUnderrun n h = h
by-right given written report WrongRecord n h = h
by-right given written report WrongPlayback n h = h

module _ (given : Given) (printed : Printed) (written : Written) (e : Explained given printed written) where
  abbrev script : Script
  script = given.script

  abbrev course : Course
  course = course_of given printed

  abbrev pub whole : Report
  whole = report_of course printed.history printed.overruns

  -- ---- what the report says

  numbers-back : map (λ (cycle : PrintedCycle). cycle.number) whole.cycles ≡ printed.numbers
  numbers-back =
      map-map (λ (cycle : PrintedCycle). cycle.number) (λ i. printed_cycle course (i + 1)) (below (length (turns script)))
      ∙ places-same (λ i. number course (i + 1)) printed.numbers (length (turns script)) 0 e.cycles.each (λ i. let q : i + 1 ≡ suc i = omega arith in ap (λ k. get_or (0 ∷ printed.numbers) k 0) q)

  overruns-back : map (λ (recorder : PrintedRecorder). recorder.overruns) whole.recorders ≡ printed.overruns
  overruns-back =
      map-map (λ (recorder : PrintedRecorder). recorder.overruns) (printed_recorder course printed.overruns) (below (length script.header.recorders))
      ∙ places-same (overruns_of printed) printed.overruns (length script.header.recorders) [] e.overruns (λ i. refl)

  underruns-back : map (λ (disk : PrintedDisk). disk.underruns) whole.disks ≡ printed.underruns
  underruns-back =
      map-map (λ (disk : PrintedDisk). disk.underruns) (printed_disk course) (below (length script.header.disks))
      ∙ places-same (underruns_of course) printed.underruns (length script.header.disks) [] e.underruns (λ i. refl)

  pub explained-back : printed_of script whole ≡ printed
  explained-back =
      let history : history_of script whole.calls ≡ printed.history = history-back script printed.history e.legal.so_far in
      (λ i. record { history = history i; numbers = numbers-back i; overruns = overruns-back i; underruns = underruns-back i })

  -- ---- calls

  front : (n : ℕ) → history_of script (take n whole.calls) ≡ take n printed.history
  front n = ap (history_of script) (sym (map-take printed_call n printed.history)) ∙ history-back script (take n printed.history) (LegalSoFar-take script printed.history n e.legal.so_far)

  call-right : (n : ℕ) → IsCallRight script whole n
  call-right n = record {
    known = λ h. ap length (front n) ∙ length-take-le n printed.history (omega (arith, h, length-map printed_call printed.history));
    legal = λ h. subst (LegalSoFar script) (sym (front n)) (LegalSoFar-take script printed.history n e.legal.so_far);
    there = λ h. omega (arith, h, length-map printed_call printed.history, e.legal.every_call);
  }

  -- ---- cycles

  rises : (k : ℕ) → k < length (turns script) → number course k ≤ number course (suc k)
  rises zero h = omega arith
  rises (suc j) h = e.cycles.rising j (suc j) 0 (omega arith) (omega (arith, h, e.cycles.each))

  cycle-right : (k : ℕ) → IsCycleInTurn course printed whole (suc k)
  cycle-right k = (λ l. record {
    rises = let back : suc k - 1 ≡ k = omega arith in subst (λ j. number course j ≤ number course (suc k)) (sym back) (rises k (omega (arith, l)));
    within = e.cycles.bounds k (get_or printed.numbers k 0) (get_or (turns script) k no_turn) (slice-at printed.numbers k 0 (omega (arith, l, e.cycles.each))) (slice-at (turns script) k no_turn (omega (arith, l)));
    asked = λ i entry plan p q s. subst (λ j. get_or (0 ∷ printed.numbers) j 0 ≤ length (accepted (take i printed.history))) s (e.cycles.asked i entry plan p q (omega (arith, s)));
    line_is = refl;
  })

  -- ---- overruns

  abbrev overruns-of : PrintedRecorder → List Overrun
  overruns-of = λ (recorder : PrintedRecorder). recorder.overruns

  record OverrunAt (n : ℕ) (o : Overrun) : Type 0 where
    pub r : ℕ
    pub j : ℕ
    pub low : r < length script.header.recorders
    pub at : slice_get (overruns_of printed r) j ≡ Some o
    pub is : IsOverrun course (overruns_of printed r) r o
    pub place : n ≡ length (flat_map overruns-of (take r whole.recorders)) + j

  recorder-find : (n : ℕ) (o : Overrun) → slice_get (all_overruns whole) n ≡ Some o → OverrunAt n o
  recorder-find n o q =
      let w : Found overruns-of whole.recorders n o = flat-found overruns-of whole.recorders n o q in
      let m = map-at (printed_recorder course printed.overruns) (length script.header.recorders) w.r w.x w.at_x in
      let at : slice_get (overruns_of printed w.r) w.j ≡ Some o = ap (λ (x : PrintedRecorder). slice_get x.overruns w.j) m.1 ∙ w.at_y in
      record { r = w.r; j = w.j; low = m.0; at = at; is = All-get (IsOverrun course (overruns_of printed w.r) w.r) (overruns_of printed w.r) w.j o (e.recorders w.r m.0).lost.overruns at; place = w.place }

  overrun-right : (n : ℕ) → IsOverrunRight course printed whole n
  overrun-right n = record {
    is_one = λ o q.
        let w : OverrunAt (n - 1) o = recorder-find (n - 1) o q in
        subst (λ k. IsOverrun course (overruns_of printed k) k o) (sym w.is.recorder_is) w.is;
    follows = λ o p two q s same.
        let v : OverrunAt (n - 2) o = recorder-find (n - 2) o q in
        let w : OverrunAt (n - 1) p = recorder-find (n - 1) p s in
        let both : v.r ≡ w.r = sym v.is.recorder_is ∙ same ∙ w.is.recorder_is in
        let off : length (flat_map overruns-of (take v.r whole.recorders)) ≡ length (flat_map overruns-of (take w.r whole.recorders)) = ap (λ r. length (flat_map overruns-of (take r whole.recorders))) both in
        let next : w.j ≡ suc v.j = omega (arith, v.place, w.place, off, two) in
        let os : List Overrun = overruns_of printed v.r in
        let at_p : slice_get os (suc v.j) ≡ Some p = ap₂ (λ r j. slice_get (overruns_of printed r) j) both (sym next) ∙ w.at in
        let lost : Lost course os v.r = (e.recorders v.r v.low).lost in
        let cycle : Overrun → ℕ = λ (x : Overrun). x.cycle in
        let taken : Overrun → ℕ = λ (x : Overrun). x.taken in (
          strictly-get (map cycle os) v.j o.cycle p.cycle lost.by_cycle (slice-map cycle os v.j ∙ ap (option_map cycle) v.at) (slice-map cycle os (suc v.j) ∙ ap (option_map cycle) at_p),
          nondecreasing-get (map taken os) v.j o.taken p.taken lost.taken_rises (slice-map taken os v.j ∙ ap (option_map taken) v.at) (slice-map taken os (suc v.j) ∙ ap (option_map taken) at_p),
        );
    in_threads = λ threads o q.
        let w : OverrunAt (n - 1) o = recorder-find (n - 1) o q in
        subst (λ k. IsAfterSegment course (overruns_of printed k) k o) (sym w.is.recorder_is)
        (All-get (IsAfterSegment course (overruns_of printed w.r) w.r) (overruns_of printed w.r) w.j o ((e.recorders w.r w.low).lost.in_threads threads) w.at);
  }

  -- ---- underruns

  abbrev underruns-of : PrintedDisk → List Underrun
  underruns-of = λ (disk : PrintedDisk). disk.underruns

  record UnderrunAt (n : ℕ) (o : Underrun) : Type 0 where
    pub r : ℕ
    pub j : ℕ
    pub low : r < length script.header.disks
    pub at : slice_get (underruns_of course r) j ≡ Some o
    pub is : IsMissed course r o
    pub place : n ≡ length (flat_map underruns-of (take r whole.disks)) + j

  disk-find : (n : ℕ) (o : Underrun) → slice_get (all_underruns whole) n ≡ Some o → UnderrunAt n o
  disk-find n o q =
      let w : Found underruns-of whole.disks n o = flat-found underruns-of whole.disks n o q in
      let m = map-at (printed_disk course) (length script.header.disks) w.r w.x w.at_x in
      let at : slice_get (underruns_of course w.r) w.j ≡ Some o = ap (λ (x : PrintedDisk). slice_get x.underruns w.j) m.1 ∙ w.at_y in
      record { r = w.r; j = w.j; low = m.0; at = at; is = All-get (IsMissed course w.r) (underruns_of course w.r) w.j o (e.disks w.r m.0).missed at; place = w.place }

  turned-all : IsNone script.header.threads → all_underruns whole ≡ all_turned course
  turned-all serial =
      flat_map-map underruns-of (printed_disk course) (below (length script.header.disks))
      ∙ flat_map-each (underruns_of course) (turned_underruns course) (below (length script.header.disks))
      (Each-below (λ d. underruns_of course d ≡ turned_underruns course d) (length script.header.disks) (λ d h. turned-is course d ((e.disks d h).in_serial serial) (e.disks d h)))

  underrun-right : (n : ℕ) → IsUnderrunRight course whole n
  underrun-right n = record {
    is_one = λ o q.
        let w : UnderrunAt (n - 1) o = disk-find (n - 1) o q in
        subst (λ k. IsMissed course k o) (sym w.is.disk_is) w.is;
    follows = λ o p two q s same.
        let v : UnderrunAt (n - 2) o = disk-find (n - 2) o q in
        let w : UnderrunAt (n - 1) p = disk-find (n - 1) p s in
        let both : v.r ≡ w.r = sym v.is.disk_is ∙ same ∙ w.is.disk_is in
        let off : length (flat_map underruns-of (take v.r whole.disks)) ≡ length (flat_map underruns-of (take w.r whole.disks)) = ap (λ r. length (flat_map underruns-of (take r whole.disks))) both in
        let next : w.j ≡ suc v.j = omega (arith, v.place, w.place, off, two) in
        let os : List Underrun = underruns_of course v.r in
        let at_p : slice_get os (suc v.j) ≡ Some p = ap₂ (λ r j. slice_get (underruns_of course r) j) both (sym next) ∙ w.at in
        let cycle : Underrun → ℕ = λ (x : Underrun). x.cycle in
        strictly-get (map cycle os) v.j o.cycle p.cycle (e.disks v.r v.low).by_cycle (slice-map cycle os v.j ∙ ap (option_map cycle) v.at) (slice-map cycle os (suc v.j) ∙ ap (option_map cycle) at_p);
    in_threads = λ threads o q.
        let w : UnderrunAt (n - 1) o = disk-find (n - 1) o q in
        subst (λ k. IsBehindRing course k o) (sym w.is.disk_is)
        (All-get (IsBehindRing course w.r) (underruns_of course w.r) w.j o ((e.disks w.r w.low).in_threads threads) w.at);
    in_serial = λ serial. ap (λ us. slice_get us (n - 1)) (turned-all serial);
  }

  -- ---- all parts

  right-by : (part : Part) (k : ℕ) → IsRightBy given written whole printed part (suc k)
  right-by WrongReport k = tt
  right-by WrongCall k = call-right (suc k)
  right-by WrongCycle k = cycle-right k
  right-by WrongMeter k = refl
  right-by WrongMidi k = refl
  right-by WrongRecorder k = refl
  right-by WrongOverrun k = overrun-right (suc k)
  right-by WrongDisk k = refl
  right-by WrongUnderrun k = underrun-right (suc k)
  right-by WrongRecord k = (λ one low. (e.recorders (suc k - 1) (omega (arith, low))).file)
  right-by WrongPlayback k = e.playback

  pub explained-right : (part : Part) → AllRight (IsRight given written whole part)
  explained-right part zero h = absurd (omega (arith, h))
  explained-right part (suc k) h = by-right given written whole part (suc k) (subst (λ (p : Printed). IsRightBy given written whole p part (suc k)) (sym explained-back) (right-by part k))
