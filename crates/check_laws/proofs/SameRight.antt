-- What is right of a report is right of one that says the same.
--     IsRight-same, IsPlace-same
use Rattle.std.proofs.Common.{◌≡◌, ℕ, ◌-◌, ◌≤◌, [], length, map, slice_get, slice_index_or, option_map, sym, ◌∙◌, ap, subst}
use Rattle.jack_types.specs.declared.replies.Part.{Part}
use Rattle.jack_types.specs.declared.replies.Part.TheVariants.{Report as WrongReport, Call as WrongCall, Cycle as WrongCycle, Meter as WrongMeter, Midi as WrongMidi, Recorder as WrongRecorder, Overrun as WrongOverrun, Disk as WrongDisk, Underrun as WrongUnderrun, Record as WrongRecord, Playback as WrongPlayback}
use Rattle.session_model.specs.Explanations.{Given, Printed, Written, course_of, record_text, playback_text}
use Rattle.session_model.specs.Reports.{Report, PrintedRecorder, PrintedDisk, cycle_line, report_of}
use Rattle.check_model.specs.Checking.{IsRight, IsCycleInTurn, IsOverrunRight, IsUnderrunRight, SameAt, DifferAt, IsPlaceIn, printed_of, history_of, recorder_blocks, disk_blocks}
use Rattle.check_laws.proofs.PlaceLists.{slice-map}
use Rattle.check_laws.proofs.SameLemmas.{Same}

module _ (given : Given) (written : Written) (a b : Report) (s : Same a b) where
  -- the other report with the first one's cycles
  abbrev mid : Report
  mid = record { calls = b.calls; cycles = a.cycles; meters = b.meters; events = b.events; recorders = b.recorders; disks = b.disks }

  to_mid : a ≡ mid
  to_mid = (λ i. record { calls = s.calls i; cycles = a.cycles; meters = s.meters i; events = s.events i; recorders = s.recorders i; disks = s.disks i })

  printed-mid : printed_of given.script mid ≡ printed_of given.script b
  printed-mid = (λ i. record {
    history = history_of given.script b.calls;
    numbers = s.numbers i;
    overruns = map (λ (recorder : PrintedRecorder). recorder.overruns) b.recorders;
    underruns = map (λ (disk : PrintedDisk). disk.underruns) b.disks;
  })

  pub printed-same : printed_of given.script a ≡ printed_of given.script b
  printed-same = ap (printed_of given.script) to_mid ∙ printed-mid

  same-line : (i : ℕ) → option_map cycle_line (slice_get b.cycles i) ≡ option_map cycle_line (slice_get a.cycles i)
  same-line i = sym (slice-map cycle_line b.cycles i) ∙ ap (λ ls. slice_get ls i) (sym s.lines) ∙ slice-map cycle_line a.cycles i

  from_mid : (part : Part) (n : ℕ) → IsRight given written mid part n → IsRight given written b part n
  from_mid WrongReport n h = tt
  from_mid WrongCall n h = record { known = h.known; legal = h.legal; there = h.there }
  from_mid WrongCycle n h =
      let k : IsCycleInTurn (course_of given (printed_of given.script b)) (printed_of given.script b) mid n =
      subst (λ (p : Printed). IsCycleInTurn (course_of given p) p mid n) printed-mid h in
      (λ l. record { rises = (k l).rises; within = (k l).within; asked = (k l).asked; line_is = same-line (n - 1) ∙ (k l).line_is })
  from_mid WrongMeter n h = subst (λ (p : Printed). SameAt b.meters (report_of (course_of given p) p.history p.overruns).meters n) printed-mid h
  from_mid WrongMidi n h = subst (λ (p : Printed). SameAt b.events (report_of (course_of given p) p.history p.overruns).events n) printed-mid h
  from_mid WrongRecorder n h = subst (λ (p : Printed). SameAt (recorder_blocks b) (recorder_blocks (report_of (course_of given p) p.history p.overruns)) n) printed-mid h
  from_mid WrongOverrun n h =
      let k = subst (λ (p : Printed). IsOverrunRight (course_of given p) p mid n) printed-mid h in
      record { is_one = k.is_one; follows = k.follows; in_threads = k.in_threads }
  from_mid WrongDisk n h = subst (λ (p : Printed). SameAt (disk_blocks b) (disk_blocks (report_of (course_of given p) p.history p.overruns)) n) printed-mid h
  from_mid WrongUnderrun n h =
      let k = subst (λ (p : Printed). IsUnderrunRight (course_of given p) mid n) printed-mid h in
      record { is_one = k.is_one; follows = k.follows; in_threads = k.in_threads; in_serial = k.in_serial }
  from_mid WrongRecord n h = subst (λ (p : Printed). 1 ≤ n → n ≤ length given.script.header.recorders → slice_index_or written.records (n - 1) [] ≡ record_text given p (n - 1)) printed-mid h
  from_mid WrongPlayback n h = subst (λ (p : Printed). written.playback ≡ playback_text given p) printed-mid h

  pub IsRight-same : (part : Part) (n : ℕ) → IsRight given written a part n → IsRight given written b part n
  IsRight-same part n h = from_mid part n (subst (λ (r : Report). IsRight given written r part n) to_mid h)

  pub IsPlace-same : (part : Part) (number place : ℕ) → IsPlaceIn given written a part number place → IsPlaceIn given written b part number place
  IsPlace-same WrongReport number place h = h
  IsPlace-same WrongCall number place h = h
  IsPlace-same WrongCycle number place h = h
  IsPlace-same WrongMeter number place h = h
  IsPlace-same WrongMidi number place h = h
  IsPlace-same WrongRecorder number place h = h
  IsPlace-same WrongOverrun number place h = h
  IsPlace-same WrongDisk number place h = h
  IsPlace-same WrongUnderrun number place h = h
  IsPlace-same WrongRecord number place h = subst (λ (p : Printed). DifferAt (slice_index_or written.records number []) (record_text given p number) place) printed-same h
  IsPlace-same WrongPlayback number place h = subst (λ (p : Printed). DifferAt written.playback (playback_text given p) place) printed-same h
