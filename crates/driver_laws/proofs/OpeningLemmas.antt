-- A driver before its first cycle.
--     Keeps-none      a new driver keeps every course of its script and scores over what its capture tells
use Rattle.std.proofs.Common.{◌≡◌, ℕ, ◌+◌, ◌*◌, List, [], length, map, drop, slice_get, get_or, Option, Some, None, sym, ◌∙◌, ap, subst, arith}
use Rattle.std.proofs.Math.Nat.{min-zero}
use Rattle.std.proofs.lemmas.Option.{slice_get_within, get_or_from_slice_get}
use Rattle.record_ring.specs.jack_types.specs.declared.replies.Overrun.{Overrun}
use Rattle.record_ring.specs.jack_types.specs.declared.replies.Underrun.{Underrun}
use Rattle.record_ring.specs.session_model.specs.Courses.{Course, frames_before}
use Rattle.record_ring.specs.session_model.specs.Disks.{file_blocks}
use Rattle.record_ring.specs.session_model.specs.Driving.{IsDriven}
use Rattle.record_ring.specs.session_model.specs.Kinds.{Memory, Sound}
use Rattle.record_ring.specs.session_model.specs.Samples.{below}
use Rattle.record_ring.specs.session_model.specs.Scripts.{Script}
use Rattle.record_ring.specs.session_model.specs.State.{OpenClient}
use Rattle.record_ring.specs.session_model.specs.Transport.{moment, row}
use Rattle.cycle_plan.specs.session_laws.proofs.DrivingLemmas.{IsDriven-none}
use Rattle.record_ring.specs.driver_words.specs.Rings.{Sending, Getting}
use Rattle.driver_laws.specs.Drivers.{Driver, Remembered, run, overruns_on, underruns_on, bench_at, memory_in}
use Rattle.driver_laws.specs.Keeping.{KeepsRing, KeepsDisk, HasTape, played_so_far, Keeps}
use Rattle.driver_laws.specs.Openings.{IsEmptyRing, IsEmptyDisk, IsNew}
use Rattle.driver_laws.proofs.PlaceLemmas.{none_below}

KeepsRing-none : (course : Course) (recorder : ℕ) (ring : Sending) → IsEmptyRing course.script.header.ring ring → KeepsRing course 0 recorder ring []
KeepsRing-none course recorder ring empty = record {
  put = empty.put;
  by_cycle = λ k h. absurd (omega (arith, h));
  all = λ k d h. absurd (none_below h);
  rising = λ i j d le h. absurd (none_below h);
  least = λ k d h. absurd (none_below h);
  capacity = empty.capacity_is;
}

KeepsDisk-none : (course : Course) (disk : ℕ) (got : Getting) → IsEmptyDisk got → KeepsDisk course 0 disk got []
KeepsDisk-none course disk got empty = record {
  count = ap length empty.blocks ∙ sym (min-zero (file_blocks course disk));
  behind = λ past. absurd (none_below past);
  by_cycle = λ k h. absurd (omega (arith, h));
  all = λ k d h. absurd (none_below h);
}

module _ (script : Script) (scores : List Sound) (driver : Driver) (new : IsNew script scores driver) (course : Course) (same : course.script ≡ script) (told : driver.left ≡ Some course.capture) where
  none_run : run driver ≡ 0
  none_run = ap length new.numbers

  ring_kept : (recorder : ℕ) (ring : Sending) → slice_get driver.rings recorder ≡ Some ring → KeepsRing course 0 recorder ring (overruns_on driver.overruns recorder)
  ring_kept recorder ring here =
      let empty : IsEmptyRing course.script.header.ring ring =
      subst (IsEmptyRing course.script.header.ring) (get_or_from_slice_get driver.rings recorder ring ring here)
      (subst (λ (s : Script). IsEmptyRing s.header.ring (get_or driver.rings recorder ring)) (sym same) (new.rings recorder ring (slice_get_within driver.rings recorder ring here))) in
      subst (λ (os : List Overrun). KeepsRing course 0 recorder ring (overruns_on os recorder)) (sym new.overruns) (KeepsRing-none course recorder ring empty)

  disk_kept : (disk : ℕ) (got : Getting) → slice_get driver.disks disk ≡ Some got → KeepsDisk course 0 disk got (underruns_on driver.underruns disk)
  disk_kept disk got here =
      let empty : IsEmptyDisk got = subst IsEmptyDisk (get_or_from_slice_get driver.disks disk got got here) (new.disks disk got (slice_get_within driver.disks disk got here)) in
      subst (λ (us : List Underrun). KeepsDisk course 0 disk got (underruns_on us disk)) (sym new.underruns) (KeepsDisk-none course disk got empty)

  left_kept : driver.left ≡ Some (drop (frames_before course (0 + 1) * course.script.header.capture) course.capture)
  left_kept =
      let none : 0 ≡ frames_before course (0 + 1) * course.script.header.capture = omega arith in
      told ∙ ap (λ m. Some (drop m course.capture)) none

  driven_kept : IsDriven course 0 driver.nodes (bench_at driver) (memory_in driver)
  driven_kept =
      subst (λ (nodes : List OpenClient). IsDriven course 0 nodes (bench_at driver) (memory_in driver)) (sym new.nodes)
      (subst (λ (held : ℕ → Option Memory). IsDriven course 0 [] (bench_at driver) held) (sym nothing_held) (IsDriven-none course (bench_at driver)))
    where
      nothing_held : memory_in driver ≡ (λ birth. None)
      nothing_held i = λ birth. memory_none birth i
        where
          memory_none : (birth : ℕ) → memory_in driver birth ≡ None
          memory_none birth = ap (λ (kept : List Remembered). memory_in (record driver { memories = kept }) birth) new.memories

  -- a new driver keeps every course over what its capture tells
  pub Keeps-none : Keeps driver course
  Keeps-none =
      let back : 0 ≡ run driver = sym none_run in
      record {
        moments = new.moments ∙ ap (λ n. map (λ i. moment course (i + 1)) (below n)) back;
        transport = new.transport ∙ ap (row course) back;
        rings = λ recorder ring here. subst (λ n. KeepsRing course n recorder ring (overruns_on driver.overruns recorder)) back (ring_kept recorder ring here);
        disks = λ disk got here. subst (λ n. KeepsDisk course n disk got (underruns_on driver.underruns disk)) back (disk_kept disk got here);
        left = subst (λ n. driver.left ≡ Some (drop (frames_before course (n + 1) * course.script.header.capture) course.capture)) back left_kept;
        playback = subst (λ playback. HasTape playback (played_so_far course (run driver))) (sym new.playback) tt;
        driven = subst (λ n. IsDriven course n driver.nodes (bench_at driver) (memory_in driver)) back driven_kept;
      }
