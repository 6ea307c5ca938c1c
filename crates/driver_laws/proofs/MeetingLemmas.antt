-- Meetings with the publisher and with other ends of rings change nothing of what a driver keeps.
--     Fits-met, Keeps-met
use Rattle.std.proofs.Common.{◌≡◌, ℕ, ◌≤◌, ◌==◌, List, length, take, slice_get, get_or, All, sym, ◌∙◌, ap, subst, arith}
use Rattle.std.specs.List.{list_any}
use Rattle.record_ring.specs.jack_types.specs.declared.replies.Overrun.{Overrun}
use Rattle.record_ring.specs.jack_types.specs.declared.replies.Underrun.{Underrun}
use Rattle.record_ring.specs.session_model.specs.Courses.{Course}
use Rattle.record_ring.specs.driver_words.specs.Rings.{Sending, Getting}
use Rattle.driver_laws.specs.Drivers.{Driver, overruns_on, underruns_on, run}
use Rattle.driver_laws.specs.Keeping.{Fits, FitsDisk, Keeps, KeepsRing, IsLoss}
use Rattle.driver_laws.specs.Cycling.{HasMetOthers, RingStays, DiskStays}

-- what fits a disk whose ends met fits it before
fits_disk : (course : Course) (disk : ℕ) (old got : Getting) → DiskStays old got → FitsDisk course disk got → FitsDisk course disk old
fits_disk course disk old got stays fits = record {
  blocks = λ i block here. fits.blocks i block (ap (λ bs. slice_get bs i) stays.got ∙ here);
  whole = λ done. sym (ap length stays.got) ∙ fits.whole (stays.done ∙ done);
}

module _ (driver after : Driver) (course : Course) (met : HasMetOthers driver after) where
  numbers_same : after.numbers ≡ driver.numbers
  numbers_same = ap (λ (d : Driver). d.numbers) met.same

  -- a course that fits behind a meeting fits before it
  pub Fits-met : Fits after course → Fits driver course
  Fits-met fits = record {
    script = fits.script ∙ ap (λ (d : Driver). d.script) met.same;
    scores = fits.scores ∙ ap (λ (d : Driver). d.scores) met.same;
    channels = fits.channels;
    of_calls = fits.of_calls;
    numbers = subst (λ ns. ns ≡ take (length ns) course.numbers) numbers_same fits.numbers;
    rows = λ k taken here. fits.rows k taken (ap (λ rows. slice_get rows k) met.rows ∙ here);
    underruns = λ disk k low.
        let low_after : k ≤ run after = subst (λ ns. k ≤ length ns) (sym numbers_same) low in
        fits.underruns disk k low_after ∙ ap (λ us. list_any (λ (u : Underrun). u.cycle == k) (underruns_on us disk)) (ap (λ (d : Driver). d.underruns) met.same);
    disks = λ disk got here. let w = met.back disk got here in fits_disk course disk got w.0 w.2 (fits.disks disk w.0 w.1);
  }

  ring_met : (recorder : ℕ) (old ring : Sending) (losses : List Overrun) → RingStays old ring → KeepsRing course (run driver) recorder old losses → KeepsRing course (run driver) recorder ring losses
  ring_met recorder old ring losses stays keeps = record {
    put = stays.put ∙ keeps.put;
    by_cycle = keeps.by_cycle;
    all = subst (λ c. All (IsLoss course losses recorder (run driver) c) losses) (sym stays.capacity) keeps.all;
    rising = keeps.rising;
    least = λ k d h. let low : (get_or losses k d).taken ≤ old.least = keeps.least k d h in omega (arith, low, stays.least);
    capacity = stays.capacity ∙ keeps.capacity;
  }

  -- and what is kept before it is kept behind
  pub Keeps-met : Keeps driver course → Keeps after course
  Keeps-met keeps =
      let middle : Driver = record driver { reading = after.reading; rings = after.rings; disks = after.disks } in
      let there : Keeps middle course = record {
        moments = keeps.moments;
        transport = keeps.transport;
        rings = λ recorder ring here. let w = met.rings recorder ring here in ring_met recorder w.0 ring (overruns_on driver.overruns recorder) w.2 (keeps.rings recorder w.0 w.1);
        disks = λ disk got here.
            let w = met.disks disk got here in
            let old = keeps.disks disk w.0 w.1 in
            record {
              count = ap length w.2.got ∙ old.count;
              behind = λ past. w.2.done ∙ old.behind past;
              by_cycle = old.by_cycle;
              all = old.all;
            };
        left = keeps.left;
        playback = keeps.playback;
        driven = keeps.driven;
      } in
      subst (λ (d : Driver). Keeps d course) (sym met.same) there
