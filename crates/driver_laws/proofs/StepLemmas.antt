-- What the driver keeps before a cycle it keeps behind.
--     ran      one cycle more was run
--     graph-of_row      the graph of the cycle is that of the content that its row took
--     Keeps-next      from the facts of one cycle
--     KeepsBut-next      where the playback failed
use Rattle.std.proofs.Common.{◌≡◌, ℕ, suc, ◌+◌, ◌*◌, Bool, true, false, List, [], ◌∷◌, ◌++◌, length, map, take, drop, slice_get, Some, None, Option, refl, sym, ◌∙◌, ap, subst, arith}
use Rattle.std.proofs.lemmas.List.{length_push, length-map}
use Rattle.std.proofs.lemmas.Option.{slice_get_within}
use Rattle.record_ring.specs.session_model.specs.Benches.{IsPlan}
use Rattle.record_ring.specs.session_model.specs.Courses.{Course, turn, graph, number, frames_before}
use Rattle.record_ring.specs.session_model.specs.Cycles.{player_born}
use Rattle.record_ring.specs.session_model.specs.Driving.{IsDriven}
use Rattle.record_ring.specs.session_model.specs.Playback.{played_in}
use Rattle.record_ring.specs.session_model.specs.Samples.{below}
use Rattle.record_ring.specs.session_model.specs.Scripts.{Script}
use Rattle.record_ring.specs.session_model.specs.Transport.{moment, row}
use Rattle.cycle_plan.specs.graph_word.specs.declared.view.TakenRow.{TakenRow}
use Rattle.cycle_plan.specs.graph_word.specs.Publications.{Reading}
use Rattle.record_ring.specs.driver_words.specs.Rings.{Sending, Getting}
use Rattle.record_ring.specs.driver_words.specs.Tapes.{Tape}
use Rattle.driver_laws.specs.Drivers.{Driver, run, turn_of, frames_read, graph_of, last_content, content_now, graph_now, has_tape, has_disk, overruns_on, underruns_on, bench_at, memory_in, block_in}
use Rattle.driver_laws.specs.Keeping.{Fits, Keeps, KeepsRing, KeepsDisk, HasTape, HasTapeFront, played_so_far}
use Rattle.driver_laws.specs.Cycling.{StepsOnce, PlaysOnce, WritesOnce, Written, WrittenFront, KeepsBut}
use Rattle.driver_laws.proofs.PlaceLemmas.{there_too, last_of}
use Rattle.driver_laws.proofs.RingLemmas.{KeepsRing-next}
use Rattle.driver_laws.proofs.DiskLemmas.{KeepsDisk-next}
use Rattle.driver_laws.proofs.DrivenLemmas.{IsDriven-played}
use Rattle.driver_laws.proofs.FrameLemmas.{left-next, played_so_far-run, played_so_far-freewheel, moments-next}

last_content-push : (rows : List TakenRow) (taken : TakenRow) → last_content (rows ++ taken ∷ []) ≡ taken.changes
last_content-push [] taken = refl
last_content-push (first ∷ []) taken = refl
last_content-push (first ∷ next ∷ rows) taken = last_content-push (next ∷ rows) taken

module _ (driver after : Driver) (steps : StepsOnce driver after) where
  -- one cycle more was run
  pub ran : run after ≡ suc (run driver)
  ran =
      let size : run after ≡ run driver + 1 = ap length steps.numbers ∙ length_push driver.numbers steps.number in
      omega (arith, size)

  -- its row stands behind those before
  pub rows_are : after.reading.rows ≡ driver.reading.rows ++ record { cycle = run driver + 1; changes = steps.taken.held } ∷ []
  rows_are =
      ap (λ (r : Reading). r.rows) steps.begins.after_is
      ∙ ap (λ rows. rows ++ record { cycle = run driver + 1; changes = steps.taken.held } ∷ []) (ap (λ (r : Reading). r.rows) steps.takes.same)

  -- there is one row for each cycle before
  pub rows_before : length driver.reading.rows ≡ run driver
  rows_before =
      let size : length after.reading.rows ≡ length driver.reading.rows + 1 = ap length rows_are ∙ length_push driver.reading.rows (record { cycle = run driver + 1; changes = steps.taken.held }) in
      let own : length after.reading.rows ≡ run after = sym (length-map after.reading.rows (λ (r : TakenRow). length r.changes)) ∙ ap length steps.own_rows.numbers in
      omega (arith, size, own, ran)

  pub row_there : slice_get after.reading.rows (run driver) ≡ Some (record { cycle = run driver + 1; changes = steps.taken.held })
  row_there =
      ap (λ rows. slice_get rows (run driver)) rows_are
      ∙ ap (slice_get (driver.reading.rows ++ record { cycle = run driver + 1; changes = steps.taken.held } ∷ [])) (sym rows_before)
      ∙ last_of driver.reading.rows (record { cycle = run driver + 1; changes = steps.taken.held })

  -- the last content is the one that was taken
  pub content-taken : content_now after ≡ steps.taken.held
  content-taken = ap last_content rows_are ∙ last_content-push driver.reading.rows (record { cycle = run driver + 1; changes = steps.taken.held })

  module _ (course : Course) (fits : Fits after course) where
    -- the graph of the cycle is that of the content that its row took
    pub graph-of_row : graph course (suc (run driver)) ≡ graph_now after
    graph-of_row =
        ap (λ (s : Script). graph_of s (take (number course (suc (run driver))) course.changes)) fits.script
        ∙ ap (graph_of after.script) (sym (fits.rows (run driver) (record { cycle = run driver + 1; changes = steps.taken.held }) row_there) ∙ sym content-taken)

    next : suc (run driver) ≡ run driver + 1
    next = omega arith

    pub graph-now : graph course (run driver + 1) ≡ graph_now after
    graph-now = ap (graph course) (sym next) ∙ graph-of_row

    pub script-same : course.script ≡ driver.script
    script-same = fits.script ∙ steps.script

    turn_is : turn course (run driver + 1) ≡ turn_of driver.script (run driver + 1)
    turn_is = ap (λ (s : Script). turn_of s (run driver + 1)) script-same

    module _ (plays : PlaysOnce driver after course) (keeps : Keeps driver course) where
      moments_kept : after.moments ≡ map (λ i. moment course (i + 1)) (below (suc (run driver)))
      moments_kept = plays.moments ∙ ap (λ ms. ms ++ moment course (run driver + 1) ∷ []) keeps.moments ∙ sym (moments-next course (run driver))

      ring_kept : (recorder : ℕ) (ring : Sending) → slice_get after.rings recorder ≡ Some ring → KeepsRing course (suc (run driver)) recorder ring (overruns_on after.overruns recorder)
      ring_kept recorder ring here =
          let w = there_too after.rings driver.rings recorder ring (sym steps.as_many) here in
          KeepsRing-next course recorder (run driver) (has_tape (graph_now after) recorder) (block_in after recorder) w.0 ring (overruns_on driver.overruns recorder) (overruns_on after.overruns recorder)
          (ap (λ state. has_tape state recorder) graph-now)
          (λ on. plays.blocks recorder (slice_get_within driver.rings recorder w.0 w.1) on)
          (steps.rings recorder w.0 ring w.1 here)
          (keeps.rings recorder w.0 w.1)

      disk_kept : (disk : ℕ) (got : Getting) → slice_get after.disks disk ≡ Some got → KeepsDisk course (suc (run driver)) disk got (underruns_on after.underruns disk)
      disk_kept disk got here =
          let w = there_too after.disks driver.disks disk got (sym steps.as_many_disks) here in
          KeepsDisk-next course disk (run driver) (has_disk (graph_now after) disk) w.0 got (underruns_on driver.underruns disk) (underruns_on after.underruns disk)
          (ap (λ state. has_disk state disk) graph-now)
          (fits.underruns disk (run driver + 1) (omega (arith, ran)))
          (fits.disks disk got here)
          (steps.disks disk w.0 got w.1 here)
          (keeps.disks disk w.0 w.1)

      left_kept : after.left ≡ Some (drop (frames_before course (suc (run driver) + 1) * course.script.header.capture) course.capture)
      left_kept =
          steps.left (drop (frames_before course (run driver + 1) * course.script.header.capture) course.capture) keeps.left
          ∙ ap (λ (s : Script). Some (drop (frames_read (turn_of s (run driver + 1)) * s.header.capture) (drop (frames_before course (run driver + 1) * course.script.header.capture) course.capture))) (sym script-same)
          ∙ ap (λ samples. Some samples) (left-next course (run driver) course.script.header.capture)

      driven_kept : IsDriven course (suc (run driver)) after.nodes (bench_at after) (memory_in after)
      driven_kept =
          let back : graph_now after ≡ graph course (suc (run driver)) = sym graph-of_row in
          IsDriven-played course (run driver) driver.nodes (bench_at driver) (memory_in driver) keeps.driven
          after.nodes plays.links plays.before (bench_at after) (memory_in after)
          (subst (λ state. IsPlan state after.nodes plays.links) back plays.plan)
          plays.ready plays.played plays.remembered
          (λ birth none. plays.others birth (ap (λ state. player_born state birth) back ∙ none))

      freewheel_is : (turn course (run driver + 1)).is_freewheel ≡ (turn_of driver.script (run driver + 1)).is_freewheel
      freewheel_is = ap (λ t. t.is_freewheel) turn_is

      playback_kept : WritesOnce driver after → Written driver after (played_in course (run driver + 1)) → HasTape after.playback (played_so_far course (suc (run driver)))
      playback_kept writes written = go (turn course (run driver + 1)).is_freewheel refl
        where
          go : (b : Bool) → (turn course (run driver + 1)).is_freewheel ≡ b → HasTape after.playback (played_so_far course (suc (run driver)))
          go true e = subst (HasTape after.playback) (sym (played_so_far-freewheel course (run driver) e))
              (subst (λ playback. HasTape playback (played_so_far course (run driver))) (sym (writes.unwritten (sym freewheel_is ∙ e))) keeps.playback)
          go false e = subst (HasTape after.playback) (sym (played_so_far-run course (run driver) e)) (written (sym freewheel_is ∙ e) (played_so_far course (run driver)) keeps.playback)

      -- all but the playback is kept, and the playback where it is
      keeps_with : (playback : Option Tape) → HasTape playback (played_so_far course (run after)) → Keeps (record after { playback = playback }) course
      keeps_with playback has =
          let back : suc (run driver) ≡ run after = sym ran in
          record {
            moments = subst (λ n. after.moments ≡ map (λ i. moment course (i + 1)) (below n)) back moments_kept;
            transport = plays.transport ∙ ap (row course) (sym next ∙ back);
            rings = λ recorder ring here. subst (λ n. KeepsRing course n recorder ring (overruns_on after.overruns recorder)) back (ring_kept recorder ring here);
            disks = λ disk got here. subst (λ n. KeepsDisk course n disk got (underruns_on after.underruns disk)) back (disk_kept disk got here);
            left = subst (λ n. after.left ≡ Some (drop (frames_before course (n + 1) * course.script.header.capture) course.capture)) back left_kept;
            playback = has;
            driven = subst (λ n. IsDriven course n after.nodes (bench_at after) (memory_in after)) back driven_kept;
          }

      -- what it keeps before a cycle it keeps behind
      pub Keeps-next : WritesOnce driver after → Written driver after (played_in course (run driver + 1)) → Keeps after course
      Keeps-next writes written = keeps_with after.playback (subst (λ n. HasTape after.playback (played_so_far course n)) (sym ran) (playback_kept writes written))

      -- and where the playback failed, all but that
      pub KeepsBut-next : WrittenFront driver after (played_in course (run driver + 1)) → KeepsBut after course
      KeepsBut-next written = record {
        rest = keeps_with None tt;
        front = subst (λ n. HasTapeFront after.playback (played_so_far course n)) (sym ran)
            (subst (HasTapeFront after.playback) (sym (played_so_far-run course (run driver) (freewheel_is ∙ written.in_run)))
            (written.front (played_so_far course (run driver)) keeps.playback));
      }
