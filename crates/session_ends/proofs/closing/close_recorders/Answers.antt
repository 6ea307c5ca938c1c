use Rattle.std.proofs.Common.{◌≡◌, ◌<◌, length, set, slice_get, Some, refl, sym, ◌∙◌, ap, arith}
use Rattle.std.proofs.lemmas.Option.{slice_get-get_or, slice_get_read}
use Rattle.session_works.specs.Drivers.{Gear}
use Rattle.recorder_rings.specs.Sending.{no_ring}
use Rattle.session_works.specs.Insides.{parts_of}
use Rattle.session_ends.proofs.CloseLemmas.{close-fails, closed-failed, closed-more, closes-all, may-close}
use Rattle.session_works.proofs.ResultLemmas.{on-err}
use Rattle.session_works.proofs.StayLemmas.{ends-many}
use Rattle.session_ends.proofs.closing.close_recorders.Goals as goal

pub close_recorder-requires-clause-pair : goal.close_recorder-requires-clause-pair
close_recorder-requires-clause-pair g c =
    (may-close g.G.Guest.sound c.args.ring c.loop-recorder.recorder (parts_of c.args.works.now) c.loop-recorder.works.driver.rings.rings c.loop-recorder.works.recorders.items c.producer.result.now c.index_mut-one.result.now c.requires.sound c.requires.files c.loop-recorder.invariant.each ring there).0
  where
    low : c.loop-recorder.recorder < length c.loop-recorder.works.recorders.items
    low = omega (arith, c.loop-recorder-test.true, c.loop-recorder.invariant.end, c.loop-recorder.invariant.each.recordings_same)

    there : slice_get c.loop-recorder.works.recorders.items c.loop-recorder.recorder ≡ Some c.index_mut-one.result.now
    there = slice_get_read c.loop-recorder.works.recorders.items (length c.loop-recorder.works.recorders.items) c.loop-recorder.recorder c.index_mut-one.result.now refl low c.index_mut-one.ensures.value

    ring : slice_get c.loop-recorder.works.driver.rings.rings c.loop-recorder.recorder ≡ Some c.producer.result.now
    ring = slice_get-get_or c.loop-recorder.works.driver.rings.rings c.loop-recorder.recorder no_ring (omega (arith, low, c.loop-recorder.invariant.each.recordings_same, c.loop-recorder.invariant.each.rings_same, ends-many g.G.Guest.sound (parts_of c.args.works.now) c.requires.sound)) ∙ ap Some (sym c.producer.ensures.value)

pub close_recorder-requires-clause-file : goal.close_recorder-requires-clause-file
close_recorder-requires-clause-file g c =
    (may-close g.G.Guest.sound c.args.ring c.loop-recorder.recorder (parts_of c.args.works.now) c.loop-recorder.works.driver.rings.rings c.loop-recorder.works.recorders.items c.producer.result.now c.index_mut-one.result.now c.requires.sound c.requires.files c.loop-recorder.invariant.each ring there).1
  where
    low : c.loop-recorder.recorder < length c.loop-recorder.works.recorders.items
    low = omega (arith, c.loop-recorder-test.true, c.loop-recorder.invariant.end, c.loop-recorder.invariant.each.recordings_same)

    there : slice_get c.loop-recorder.works.recorders.items c.loop-recorder.recorder ≡ Some c.index_mut-one.result.now
    there = slice_get_read c.loop-recorder.works.recorders.items (length c.loop-recorder.works.recorders.items) c.loop-recorder.recorder c.index_mut-one.result.now refl low c.index_mut-one.ensures.value

    ring : slice_get c.loop-recorder.works.driver.rings.rings c.loop-recorder.recorder ≡ Some c.producer.result.now
    ring = slice_get-get_or c.loop-recorder.works.driver.rings.rings c.loop-recorder.recorder no_ring (omega (arith, low, c.loop-recorder.invariant.each.recordings_same, c.loop-recorder.invariant.each.rings_same, ends-many g.G.Guest.sound (parts_of c.args.works.now) c.requires.sound)) ∙ ap Some (sym c.producer.ensures.value)

pub returns-in_err-close_recorder-clause-failed : goal.returns-in_err-close_recorder-clause-failed
returns-in_err-close_recorder-clause-failed g c = on-err c.from_residual.result
    (close-fails c.args.ring c.loop-recorder.recorder (parts_of c.args.works.now) _ c.requires.ring (omega (arith, c.loop-recorder-test.true, c.loop-recorder.invariant.end))
    (closed-failed c.args.ring c.loop-recorder.recorder c.args.works.now.driver.rings.rings c.args.works.now.recorders.items c.loop-recorder.works.driver.rings.rings c.loop-recorder.works.recorders.items c.producer.result.now c.close_recorder.new.producer c.index_mut-one.result.now c.close_recorder.new.recorder ring there
    c.in_err-close_recorder.ensures.failed c.loop-recorder.invariant.each))
  where
    low : c.loop-recorder.recorder < length c.loop-recorder.works.recorders.items
    low = omega (arith, c.loop-recorder-test.true, c.loop-recorder.invariant.end, c.loop-recorder.invariant.each.recordings_same)

    there : slice_get c.loop-recorder.works.recorders.items c.loop-recorder.recorder ≡ Some c.index_mut-one.result.now
    there = slice_get_read c.loop-recorder.works.recorders.items (length c.loop-recorder.works.recorders.items) c.loop-recorder.recorder c.index_mut-one.result.now refl low c.index_mut-one.ensures.value

    ring : slice_get c.loop-recorder.works.driver.rings.rings c.loop-recorder.recorder ≡ Some c.producer.result.now
    ring = slice_get-get_or c.loop-recorder.works.driver.rings.rings c.loop-recorder.recorder no_ring (omega (arith, low, c.loop-recorder.invariant.each.recordings_same, c.loop-recorder.invariant.each.rings_same, ends-many g.G.Guest.sound (parts_of c.args.works.now) c.requires.sound)) ∙ ap Some (sym c.producer.ensures.value)

pub loop-recorder-preserved : goal.loop-recorder-preserved
loop-recorder-preserved g c = record {
  each = closed-more c.args.ring c.loop-recorder.recorder c.args.works.now.driver.rings.rings c.args.works.now.recorders.items c.loop-recorder.works.driver.rings.rings c.loop-recorder.works.recorders.items c.producer.result.now c.close_recorder.new.producer c.index_mut-one.result.now c.close_recorder.new.recorder ring there
      c.in_ok-close_recorder.ensures.closed c.loop-recorder.invariant.each;
  desk = c.loop-recorder.invariant.desk;
  readers = c.loop-recorder.invariant.readers;
  driver = ap (λ (d : Gear). record d { rings = record d.rings { rings = set c.loop-recorder.works.driver.rings.rings c.loop-recorder.recorder c.close_recorder.new.producer } }) c.loop-recorder.invariant.driver;
  end = c.loop-recorder.invariant.end;
}
  where
    low : c.loop-recorder.recorder < length c.loop-recorder.works.recorders.items
    low = omega (arith, c.loop-recorder-test.true, c.loop-recorder.invariant.end, c.loop-recorder.invariant.each.recordings_same)

    there : slice_get c.loop-recorder.works.recorders.items c.loop-recorder.recorder ≡ Some c.index_mut-one.result.now
    there = slice_get_read c.loop-recorder.works.recorders.items (length c.loop-recorder.works.recorders.items) c.loop-recorder.recorder c.index_mut-one.result.now refl low c.index_mut-one.ensures.value

    ring : slice_get c.loop-recorder.works.driver.rings.rings c.loop-recorder.recorder ≡ Some c.producer.result.now
    ring = slice_get-get_or c.loop-recorder.works.driver.rings.rings c.loop-recorder.recorder no_ring (omega (arith, low, c.loop-recorder.invariant.each.recordings_same, c.loop-recorder.invariant.each.rings_same, ends-many g.G.Guest.sound (parts_of c.args.works.now) c.requires.sound)) ∙ ap Some (sym c.producer.ensures.value)

pub returns-clause-closed : goal.returns-clause-closed
returns-clause-closed g c =
    closes-all c.args.ring c.loop-recorder.recorder (parts_of c.args.works.now) (parts_of c.loop-recorder.works) c.requires.ring (omega (arith, c.loop-recorder-test.false, c.loop-recorder.invariant.end)) c.loop-recorder.invariant.each
