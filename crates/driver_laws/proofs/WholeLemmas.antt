-- What a driver's rings and playback say behind the last cycle, in the words of the definitions.
--     samples-recorded      the blocks put are what the recorder's file has
--     Lost-from_ring, Played-from_ring      a ring's overruns, and a disk's underruns, are ones that can be
use Rattle.std.proofs.Common.{◌≡◌, ℕ, ◌+◌, Bool, false, not, List, [], ◌∷◌, ◌++◌, length, map, filter, flat_map, IsTrue, IsSome, IsNone, All, refl, sym, ◌∙◌, ap, subst, get_or, slice_index_or}
use Rattle.record_ring.specs.jack_types.specs.declared.replies.Overrun.{Overrun}
use Rattle.record_ring.specs.jack_types.specs.declared.replies.Underrun.{Underrun}
use Rattle.record_ring.specs.session_model.specs.Courses.{Course, turn, underruns_of}
use Rattle.record_ring.specs.session_model.specs.Disks.{Played, IsBehindRing, IsSerial}
use Rattle.record_ring.specs.session_model.specs.Recorders.{Lost, IsAfterSegment, block, recorded}
use Rattle.record_ring.specs.session_model.specs.Samples.{below}
use Rattle.record_ring.specs.session_model.specs.Scripts.{turns}
use Rattle.record_ring.specs.driver_words.specs.Rings.{Sending, Getting}
use Rattle.record_ring.specs.session_model.specs.Rings.{samples_of_blocks}
use Rattle.driver_laws.specs.Keeping.{is_kept, kept_blocks, KeepsRing, KeepsDisk}

samples-map : (course : Course) (recorder : ℕ) (is : List ℕ) → samples_of_blocks (map (λ i. record { cycle = i + 1; samples = block course recorder (i + 1) }) is) ≡ flat_map (λ i. block course recorder (i + 1)) is
samples-map course recorder [] = refl
samples-map course recorder (i ∷ is) = ap (λ rest. block course recorder (i + 1) ++ rest) (samples-map course recorder is)

-- the samples of the blocks kept are those of the recorder's file
pub samples-recorded : (course : Course) (losses : List Overrun) (recorder : ℕ) → samples_of_blocks (kept_blocks course losses recorder (length (turns course.script))) ≡ recorded course losses recorder
samples-recorded course losses recorder = samples-map course recorder (filter (is_kept course losses recorder) (below (length (turns course.script))))

in_run : (b : Bool) → b ≡ false → IsTrue (not b)
in_run b e = subst (λ (c : Bool). IsTrue (not c)) (sym e) refl

-- a ring behind all cycles, with overruns in `run` cycles alone
pub Lost-from_ring : (course : Course) (recorder : ℕ) (ring : Sending) (losses : List Overrun) → KeepsRing course (length (turns course.script)) recorder ring losses
    → All (λ (overrun : Overrun). (turn course overrun.cycle).is_freewheel ≡ false) losses
    → (IsSome course.script.header.threads → All (IsAfterSegment course losses recorder) losses)
    → Lost course losses recorder
Lost-from_ring course recorder ring losses keeps of_run threads = record {
  by_cycle = keeps.by_cycle;
  overruns = λ k d h.
      let overrun : Overrun = get_or losses k d in
      let one = keeps.all k d h in
      record {
        recorder_is = one.recorder_is;
        first = one.first;
        last = one.last;
        active = one.active;
        in_run = in_run _ (of_run k d h);
        sent = one.sent;
        full = one.full ∙ ap (λ c. overrun.taken + c) keeps.capacity;
      };
  taken_rises = keeps.rising;
  in_threads = threads;
}

-- a disk's ring behind all cycles, with underruns in `run` cycles alone
pub Played-from_ring : (course : Course) (disk : ℕ) (got : Getting) → KeepsDisk course (length (turns course.script)) disk got (underruns_of course disk)
    → All (λ (underrun : Underrun). (turn course underrun.cycle).is_freewheel ≡ false) (underruns_of course disk)
    → (IsSome course.script.header.threads → All (IsBehindRing course disk) (underruns_of course disk))
    → (IsNone course.script.header.threads → IsSerial course disk)
    → Played course disk
Played-from_ring course disk got keeps of_run threads serial = record {
  by_cycle = keeps.by_cycle;
  missed = λ k d h.
      let underrun : Underrun = get_or (slice_index_or course.underruns disk []) k d in
      let one = keeps.all k d h in
      record {
        disk_is = one.disk_is;
        first = one.first;
        last = one.last;
        active = one.active;
        in_run = in_run (turn course underrun.cycle).is_freewheel (of_run k d h);
        sent = one.sent;
        taken = one.taken ∙ one.sent;
        in_file = one.in_file;
      };
  in_threads = threads;
  in_serial = serial;
}
