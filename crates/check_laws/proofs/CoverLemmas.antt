-- Files that nothing explains have a first wrong part.
--     cover      it can't be that nothing explains the files and that nothing is the first wrong part
use Rattle.std.proofs.Common.{◌≡◌, ℕ, zero, suc, ◌+◌, ◌-◌, ◌<◌, ◌≤◌, Bool, true, false, nat_lt, ◌==◌, inl, inr, List, [], ◌∷◌, length, map, take, slice_get, slice_index_or, Option, Some, None, refl, sym, ◌∙◌, ap₂, subst, arith, eqb-true}
use Rattle.std.proofs.lemmas.Bool.Decides.{nat_tests}
use Rattle.jack_types.specs.declared.moments.TransportState.TheVariants.{Stopped}
use Rattle.jack_types.specs.declared.replies.Part.{Part}
use Rattle.jack_types.specs.declared.replies.Part.TheVariants.{Report as WrongReport, Call as WrongCall, Cycle as WrongCycle, Meter as WrongMeter, Midi as WrongMidi, Recorder as WrongRecorder, Overrun as WrongOverrun, Disk as WrongDisk, Underrun as WrongUnderrun, Record as WrongRecord, Playback as WrongPlayback}
use Rattle.jack_types.specs.declared.replies.Row.{Row}
use Rattle.session_model.specs.Explanations.{Given, Printed, Written, Explained, course_of, record_text, playback_text}
use Rattle.session_model.specs.Grammar.{IsScript}
use Rattle.session_model.specs.Reports.{Report, PrintedCycle, PrintedRecorder, PrintedDisk, report_lines}
use Rattle.session_model.specs.Samples.{below}
use Rattle.session_model.specs.Scripts.{Script, turns, planned}
use Rattle.grammar_laws.specs.session_laws.proofs.ActivationLemmas.{length-map_below}
use Rattle.report_texts.proofs.SameReportLemmas.{turns-few}
use Rattle.check_model.specs.Checking.{IsForm, IsRight, IsCycleLine, IsRecorderLine, IsDiskLine, IsFirstNot, AllRight, DifferAt, IsPlaceIn, IsFirstWrong, BeginsReport, SameAt, counted_number, ended_lines, parts, explained, all_overruns, all_underruns, all_turned, recorder_blocks, disk_blocks, printed_of}
use Rattle.check_laws.proofs.PlaceLists.{none-some, some-same, slice-past, slice-inside, map-at}
use Rattle.check_laws.proofs.RightLemmas.{right-explained}
use Rattle.check_laws.proofs.ShortFits.{lines-short}

-- not refutable
abbrev pub Stable : Type 0 → Type 0
Stable A = (A → ⊥) → ⊥

below-all : (P : ℕ → Type 0) → ((n : ℕ) → ((m : ℕ) → m < n → P m) → Stable (P n)) → (n : ℕ) → Stable ((m : ℕ) → m < n → P m)
below-all P step zero deny = deny (λ m h. absurd (omega (arith, h)))
below-all P step (suc n) deny = below-all P step n (λ before. step n before (λ here. deny (λ m h. go m h (m == n) refl before here)))
  where
    go : (m : ℕ) → m < suc n → (b : Bool) → (m == n) ≡ b → ((k : ℕ) → k < n → P k) → P n → P m
    go m h true e before here = subst P (sym (eqb-true m n e)) here
    go m h false e before here = before m (grind (arith, nat_tests))

-- two lists that differ do so first at some place
differ-place : (xs ys : List ℕ) → (xs ≡ ys → ⊥) → (p : ℕ) × DifferAt xs ys p
differ-place [] [] h = absurd (h refl)
differ-place [] (y ∷ ys) h = (0, record { same_before = refl; differ = none-some y })
differ-place (x ∷ xs) [] h = (0, record { same_before = refl; differ = λ e. none-some x (sym e) })
differ-place (x ∷ xs) (y ∷ ys) h = go (x == y) refl (λ k. differ-place xs ys k)
  where
    go : (b : Bool) → (x == y) ≡ b → ((xs ≡ ys → ⊥) → (p : ℕ) × DifferAt xs ys p) → (p : ℕ) × DifferAt (x ∷ xs) (y ∷ ys) p
    go true e rest =
        let same : x ≡ y = eqb-true x y e in
        let w = rest (λ k. h (ap₂ (λ z zs. z ∷ zs) same k)) in
        (suc w.0, record { same_before = ap₂ (λ z zs. z ∷ zs) same (w.1).same_before; differ = (w.1).differ })
    go false e rest = (0, record { same_before = refl; differ = λ q. apart (some-same x y q) })
      where
        apart : x ≡ y → ⊥
        apart q = grind (arith, nat_tests)

pub whole-take : {X : Type 0} (xs ys : List X) → take (suc (length xs)) xs ≡ take (suc (length xs)) ys → xs ≡ ys
whole-take [] [] e = refl
whole-take [] (y ∷ ys) e = absurd (nil y [] e)
  where
    nil : {X : Type 0} (x : X) (zs : List X) → [] ≡ x ∷ zs → ⊥
    nil x zs q = cc
whole-take (x ∷ xs) [] e = absurd (nil x (take (suc (length xs)) xs) (sym e))
  where
    nil : {X : Type 0} (x : X) (zs : List X) → [] ≡ x ∷ zs → ⊥
    nil x zs q = cc
whole-take (x ∷ xs) (y ∷ ys) e = ap₂ (λ z zs. z ∷ zs) (one x y (take (suc (length xs)) xs) (take (suc (length xs)) ys) e) (whole-take xs ys (others x y (take (suc (length xs)) xs) (take (suc (length xs)) ys) e))
  where
    one : {X : Type 0} (a b : X) (fs gs : List X) → a ∷ fs ≡ b ∷ gs → a ≡ b
    one a b fs gs q = cc

    others : {X : Type 0} (a b : X) (fs gs : List X) → a ∷ fs ≡ b ∷ gs → fs ≡ gs
    others a b fs gs q = cc

-- ---- some report of the form

abbrev plain_cycle : ℕ → PrintedCycle
plain_cycle i = record { number = 0; moment = record { cycle = i + 1; state = Stopped; frame = 0; rate = 0; bbt = None } }

abbrev plain_recorder : ℕ → PrintedRecorder
plain_recorder i = record { recorder = i; blocks = 0; overruns = [] }

abbrev plain_disk : ℕ → PrintedDisk
plain_disk i = record { disk = i; blocks = 0; underruns = [] }

abbrev plain : Script → Report
plain script = record {
  calls = [];
  cycles = map plain_cycle (below (length (turns script)));
  meters = [];
  events = [];
  recorders = map plain_recorder (below (length script.header.recorders));
  disks = map plain_disk (below (length script.header.disks));
}

plain-form : (script : Script) → IsScript script → IsForm script (plain script)
plain-form script is = record {
  few_calls = omega arith;
  call_each = λ k d b. absurd (none b);
  cycles = length-map_below plain_cycle (length (turns script));
  cycle_each = cycle;
  few_meters = omega arith;
  meter_each = λ k d b. absurd (none b);
  few_events = omega arith;
  event_each = λ k d b. absurd (none b);
  recorders = length-map_below plain_recorder (length script.header.recorders);
  recorder_each = recorder;
  disks = length-map_below plain_disk (length script.header.disks);
  disk_each = disk;
  short = lines-short script is (plain script) tt (omega (arith, length-map_below plain_cycle (length (turns script)), turns-few script is)) cycle tt tt
      (omega (arith, length-map_below plain_recorder (length script.header.recorders), is.header.few_recorders)) recorder
      (omega (arith, length-map_below plain_disk (length script.header.disks), is.header.few_disks)) disk;
}
  where
    none : {k : ℕ} → k < 0 → ⊥
    none b = omega arith

    cycle : (i : ℕ) (c : PrintedCycle) → slice_get (map plain_cycle (below (length (turns script)))) i ≡ Some c → IsCycleLine i c
    cycle i c e = subst (IsCycleLine i) (map-at plain_cycle (length (turns script)) i c e).1 (record { cycle_is = refl; number = omega arith; frame = omega arith; bbt = tt })

    recorder : (i : ℕ) (r : PrintedRecorder) → slice_get (map plain_recorder (below (length script.header.recorders))) i ≡ Some r → IsRecorderLine script i r
    recorder i r e = subst (IsRecorderLine script i) (map-at plain_recorder (length script.header.recorders) i r e).1 (record { number_is = refl; blocks = omega arith; few = omega arith; each = λ k d b. absurd (none b) })

    disk : (i : ℕ) (r : PrintedDisk) → slice_get (map plain_disk (below (length script.header.disks))) i ≡ Some r → IsDiskLine script i r
    disk i r e = subst (IsDiskLine script i) (map-at plain_disk (length script.header.disks) i r e).1 (record { number_is = refl; blocks = omega arith; few = omega arith; each = λ k d b. absurd (none b) })

-- ---- a first wrong number is a row

module _ (given : Given) (written : Written) (report : Report) where
  abbrev Right : Part → ℕ → Type 0
  Right part n = IsRight given written report part n

  -- the row's number and place
  record Counted (part : Part) (n : ℕ) : Type 0 where
    pub number : ℕ
    pub place : ℕ
    pub counted : counted_number part number ≡ n
    pub placed : IsPlaceIn given written report part number place

  row-of : (part : Part) (n : ℕ) → 1 ≤ n → (Right part n → ⊥) → Counted part n
  row-of WrongReport n one deny = record { number = n; place = 0; counted = refl; placed = refl }
  row-of WrongCall n one deny = record { number = n; place = 0; counted = refl; placed = refl }
  row-of WrongCycle n one deny = record { number = n; place = 0; counted = refl; placed = refl }
  row-of WrongMeter n one deny = record { number = n; place = 0; counted = refl; placed = refl }
  row-of WrongMidi n one deny = record { number = n; place = 0; counted = refl; placed = refl }
  row-of WrongRecorder n one deny = record { number = n; place = 0; counted = refl; placed = refl }
  row-of WrongOverrun n one deny = record { number = n; place = 0; counted = refl; placed = refl }
  row-of WrongDisk n one deny = record { number = n; place = 0; counted = refl; placed = refl }
  row-of WrongUnderrun n one deny = record { number = n; place = 0; counted = refl; placed = refl }
  row-of WrongRecord n one deny =
      let w = differ-place (slice_index_or written.records (n - 1) []) (record_text given (printed_of given.script report) (n - 1)) (λ e. deny (λ a b. e)) in
      record { number = n - 1; place = w.0; counted = omega (arith, one); placed = w.1 }
  row-of WrongPlayback n one deny =
      let w = differ-place written.playback (playback_text given (printed_of given.script report)) deny in
      record { number = n - 1; place = w.0; counted = omega (arith, one); placed = w.1 }

  past-same : {X : Type 0} (xs ys : List X) (n : ℕ) → length xs + length ys + 1 ≤ n → SameAt xs ys n
  past-same xs ys n h = slice-past xs (n - 1) (omega (arith, h)) ∙ sym (slice-past ys (n - 1) (omega (arith, h)))

  -- from this number on, a part is right where it is right before
  abbrev bound : Part → ℕ
  bound WrongReport = 0
  bound WrongCall = length report.calls + length (planned given.script) + 1
  bound WrongCycle = length (turns given.script) + 1
  bound WrongMeter = length report.meters + length (explained given report).meters + 1
  bound WrongMidi = length report.events + length (explained given report).events + 1
  bound WrongRecorder = length (recorder_blocks report) + length (recorder_blocks (explained given report)) + 1
  bound WrongOverrun = length (all_overruns report) + 1
  bound WrongDisk = length (disk_blocks report) + length (disk_blocks (explained given report)) + 1
  bound WrongUnderrun = length (all_underruns report) + length (all_turned (course_of given (printed_of given.script report))) + 1
  bound WrongRecord = length given.script.header.recorders + 1
  bound WrongPlayback = 2

  far-right : (part : Part) (n : ℕ) → bound part ≤ n → ((m : ℕ) → m < bound part → 1 ≤ m → Right part m) → Right part n
  far-right WrongReport n h before = tt
  far-right WrongCall n h before = record { known = λ l. absurd (omega (arith, h, l)); legal = λ l. absurd (omega (arith, h, l)); there = λ l. absurd (omega (arith, h, l)) }
  far-right WrongCycle n h before = (λ l. absurd (omega (arith, h, l)))
  far-right WrongMeter n h before = past-same report.meters (explained given report).meters n h
  far-right WrongMidi n h before = past-same report.events (explained given report).events n h
  far-right WrongRecorder n h before = past-same (recorder_blocks report) (recorder_blocks (explained given report)) n h
  far-right WrongOverrun n h before = record {
    is_one = λ o e. absurd (omega (arith, h, slice-inside (all_overruns report) (n - 1) o e));
    follows = λ o p two d e. absurd (omega (arith, h, slice-inside (all_overruns report) (n - 1) p e));
    in_threads = λ threads o e. absurd (omega (arith, h, slice-inside (all_overruns report) (n - 1) o e));
  }
  far-right WrongDisk n h before = past-same (disk_blocks report) (disk_blocks (explained given report)) n h
  far-right WrongUnderrun n h before = record {
    is_one = λ o e. absurd (omega (arith, h, slice-inside (all_underruns report) (n - 1) o e));
    follows = λ o p two d e. absurd (omega (arith, h, slice-inside (all_underruns report) (n - 1) p e));
    in_threads = λ threads o e. absurd (omega (arith, h, slice-inside (all_underruns report) (n - 1) o e));
    in_serial = λ serial. past-same (all_underruns report) (all_turned (course_of given (printed_of given.script report))) n h;
  }
  far-right WrongRecord n h before = (λ one l. absurd (omega (arith, h, l)))
  far-right WrongPlayback n h before = before 1 (omega arith) (omega arith)

  -- where there is no first number that is not right, all are
  part-right : (part : Part) → ((n : ℕ) → IsFirstNot (Right part) n → ⊥) → Stable (AllRight (Right part))
  part-right part none deny =
      below-all (λ m. 1 ≤ m → Right part m)
      (λ n before wrong. at n (nat_lt 0 n) refl before wrong)
      (bound part)
      (λ before. deny (λ n one. all n one (nat_lt n (bound part)) refl before))
    where
      at : (n : ℕ) (b : Bool) → nat_lt 0 n ≡ b → ((m : ℕ) → m < n → 1 ≤ m → Right part m) → ((1 ≤ n → Right part n) → ⊥) → ⊥
      at n true e before wrong =
          let one : 1 ≤ n = grind (arith, nat_tests) in
          none n (one, (λ m p q. before m q p), (λ r. wrong (λ o. r)))
      at n false e before wrong = wrong (λ o. absurd (zero-not n e o))
        where
          zero-not : (m : ℕ) → nat_lt 0 m ≡ false → 1 ≤ m → ⊥
          zero-not m q o = grind (arith, nat_tests)

      all : (n : ℕ) → 1 ≤ n → (b : Bool) → nat_lt n (bound part) ≡ b → ((m : ℕ) → m < bound part → 1 ≤ m → Right part m) → Right part n
      all n one true e before = before n (grind (arith, nat_tests)) one
      all n one false e before = far-right part n (grind (arith, nat_tests)) before

module _ (given : Given) (written : Written) (script_is : IsScript given.script) (many : length written.records ≡ length given.script.header.recorders)
    (unexplained : (printed : Printed) → Explained given printed written → ⊥) (none : (row : Row) → IsFirstWrong given written row → ⊥) where
  begins : (n : ℕ) → Stable (BeginsReport given.script written.report n)
  begins zero deny = deny (plain given.script, plain-form given.script script_is, refl)
  begins (suc n) deny = begins n (λ b. none (record { what = WrongReport; number = suc n; place = 0 }) (inl (refl, (b, deny), refl)))

  module _ (report : Report) (form : IsForm given.script report) (text : ended_lines written.report ≡ report_lines report) where
    abbrev PartsRight : ℕ → Type 0
    PartsRight j = (part : Part) → slice_get parts j ≡ Some part → AllRight (IsRight given written report part)

    next-part : (j : ℕ) → ((i : ℕ) → i < j → PartsRight i) → Stable (PartsRight j)
    next-part j before = go (slice_get parts j) refl
      where
        go : (o : Option Part) → slice_get parts j ≡ o → Stable (PartsRight j)
        go None e deny = deny (λ part q. absurd (none-some part (sym e ∙ q)))
        go (Some here) e deny =
            part-right given written report here
            (λ n first.
            let w = row-of given written report here n first.0 first.2 in
            none (record { what = here; number = w.number; place = w.place })
            (inr (
              report,
              j,
              record {
                form = form;
                text = text;
                part = e;
                before = λ i part low q. before i low part q;
                first = subst (IsFirstNot (IsRight given written report here)) (sym w.counted) first;
                place = w.placed;
              },
            )))
            (λ all. deny (λ part q. subst (λ p. AllRight (IsRight given written report p)) (some-same here part (sym e ∙ q)) all))

    all-parts : ((j : ℕ) → j < 10 → PartsRight j) → (part : Part) → AllRight (IsRight given written report part)
    all-parts h WrongReport = (λ n one. tt)
    all-parts h WrongCall = h 0 (omega arith) WrongCall refl
    all-parts h WrongCycle = h 1 (omega arith) WrongCycle refl
    all-parts h WrongMeter = h 2 (omega arith) WrongMeter refl
    all-parts h WrongMidi = h 3 (omega arith) WrongMidi refl
    all-parts h WrongRecorder = h 4 (omega arith) WrongRecorder refl
    all-parts h WrongOverrun = h 5 (omega arith) WrongOverrun refl
    all-parts h WrongDisk = h 6 (omega arith) WrongDisk refl
    all-parts h WrongUnderrun = h 7 (omega arith) WrongUnderrun refl
    all-parts h WrongRecord = h 8 (omega arith) WrongRecord refl
    all-parts h WrongPlayback = h 9 (omega arith) WrongPlayback refl

    of_form : ⊥
    of_form =
        below-all PartsRight next-part 10
        (λ all. unexplained (printed_of given.script report) (right-explained given written report form text many (all-parts all)))

  pub cover : ⊥
  cover =
      begins (suc (length (ended_lines written.report)))
      (λ b. of_form b.0 b.1 (whole-take (ended_lines written.report) (report_lines b.0) b.2))
