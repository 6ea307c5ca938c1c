use Rattle.std.proofs.Common.{sym, ◌∙◌, ap, subst}
use Rattle.std.proofs.lemmas.Result.{on_err_weaker, on_ok_weaker}
use Rattle.session_works.specs.Drivers.{Gear}
use Rattle.session_works.specs.disk_runs.specs.Readings.{DisksBroke, DisksRead}
use Rattle.session_works.specs.Insides.{beside, held, parts_with, seen_with}
use Rattle.session_works.proofs.BesideLemmas.{files-beside}
use Rattle.session_works.proofs.PairedLemmas.{disks-sound, paired-sound}
use Rattle.session_works.proofs.ResultLemmas.{at-err, at-ok}
use Rattle.session_works.proofs.StayLemmas.{source-behind, stay-disks, stays-trans}
use Rattle.session_works.proofs.StoreLemmas.{rose-behind}
use Rattle.session_threads.proofs.BoundLemmas.{segment-broke, segment-fails, segment-whole}
use Rattle.session_threads.proofs.DiskLemmas.{may-read-all, next-read, pairs-read}
use Rattle.session_threads.proofs.segments.run_bound.Goals as goal

pub read_ahead-requires-clause-pairs : goal.read_ahead-requires-clause-pairs
read_ahead-requires-clause-pairs g c = disks-sound g.G.Guest.sound (parts_with (beside c.args.rig.works.desk c.args.rig.works.readers.items) c.args.rig.works.driver c.args.rig.works.recorders.items) c.requires.settled.sound

pub read_ahead-requires-clause-going : goal.read_ahead-requires-clause-going
read_ahead-requires-clause-going g c = may-read-all (seen_with g.G.Guest.sound (beside c.args.rig.works.desk c.args.rig.works.readers.items) c.args.rig.works.driver c.args.rig.works.recorders.items) c.requires.settled.sound.going

pub run_filled-requires-clause-sound : goal.run_filled-requires-clause-sound
run_filled-requires-clause-sound g c κs within = c.cycles_and_blocks.ensures.read c.args.ring (seen_with g.G.Guest.sound (beside c.args.rig.works.desk c.args.rig.works.readers.items) c.args.rig.works.driver c.args.rig.works.recorders.items) (seen_with g.G.Guest.sound (beside c.args.rig.works.desk c.read_ahead.new.readers.items) c.read_ahead.new.driver c.args.rig.works.recorders.items) c.requires.settled.sound (at-ok c.read_ahead.result _ c.in-Ok.is c.read_ahead.ensures.read c.args.rig.works.desk c.args.rig.works.recorders.items)

pub run_filled-requires-clause-files : goal.run_filled-requires-clause-files
run_filled-requires-clause-files g c κs within = files-beside (beside c.args.rig.works.desk c.args.rig.works.readers.items) (beside c.args.rig.works.desk c.read_ahead.new.readers.items) c.args.rig.works.driver c.read_ahead.new.driver c.args.rig.works.recorders.items c.requires.files

pub run_filled-requires-clause-next : goal.run_filled-requires-clause-next
run_filled-requires-clause-next g c κs within = next-read c.args.rig.works.driver c.read_ahead.new.driver c.read_ahead.ensures.driver g.G.Guest.sound _ _ c.requires.next

pub returns-in-Ok-clause-whole : goal.returns-in-Ok-clause-whole
returns-in-Ok-clause-whole g c = on_ok_weaker c.run_filled.result.1 (segment-whole _ (seen_with g.G.Guest.sound (beside c.args.rig.works.desk c.args.rig.works.readers.items) c.args.rig.works.driver c.args.rig.works.recorders.items) (seen_with g.G.Guest.sound (beside c.args.rig.works.desk c.read_ahead.new.readers.items) c.read_ahead.new.driver c.args.rig.works.recorders.items) _ (subst (λ n. DisksRead n (seen_with g.G.Guest.sound (beside c.args.rig.works.desk c.args.rig.works.readers.items) c.args.rig.works.driver c.args.rig.works.recorders.items) (seen_with g.G.Guest.sound (beside c.args.rig.works.desk c.read_ahead.new.readers.items) c.read_ahead.new.driver c.args.rig.works.recorders.items)) c.requires.ring (at-ok c.read_ahead.result _ c.in-Ok.is c.read_ahead.ensures.read c.args.rig.works.desk c.args.rig.works.recorders.items))) c.run_filled.ensures.whole

pub returns-in-Ok-clause-fails : goal.returns-in-Ok-clause-fails
returns-in-Ok-clause-fails g c = on_err_weaker c.run_filled.result.1 (λ fails. (fails.0, segment-fails _ fails.0 (seen_with g.G.Guest.sound (beside c.args.rig.works.desk c.args.rig.works.readers.items) c.args.rig.works.driver c.args.rig.works.recorders.items) (seen_with g.G.Guest.sound (beside c.args.rig.works.desk c.read_ahead.new.readers.items) c.read_ahead.new.driver c.args.rig.works.recorders.items) _ (subst (λ n. DisksRead n (seen_with g.G.Guest.sound (beside c.args.rig.works.desk c.args.rig.works.readers.items) c.args.rig.works.driver c.args.rig.works.recorders.items) (seen_with g.G.Guest.sound (beside c.args.rig.works.desk c.read_ahead.new.readers.items) c.read_ahead.new.driver c.args.rig.works.recorders.items)) c.requires.ring (at-ok c.read_ahead.result _ c.in-Ok.is c.read_ahead.ensures.read c.args.rig.works.desk c.args.rig.works.recorders.items)) fails.1)) c.run_filled.ensures.fails

pub returns-in-Ok-clause-stays : goal.returns-in-Ok-clause-stays
returns-in-Ok-clause-stays g c = stays-trans g.G.Guest.sound {S = g.row.S.Denot} {W = g.row.W.Denot} {G = g.row.G.Denot} (record { desk = c.args.rig.works.desk; driver = c.args.rig.works.driver; recorders = c.args.rig.works.recorders; readers = c.args.rig.works.readers }) (record { desk = c.args.rig.works.desk; driver = c.read_ahead.new.driver; recorders = c.args.rig.works.recorders; readers = c.read_ahead.new.readers }) c.run_filled.result.0.works (stay-disks g.G.Guest.sound (beside c.args.rig.works.desk c.args.rig.works.readers.items) (beside c.args.rig.works.desk c.read_ahead.new.readers.items) c.args.rig.works.driver c.read_ahead.new.driver c.args.rig.works.recorders.items c.read_ahead.ensures.driver c.read_ahead.ensures.later c.requires.files) c.run_filled.ensures.stays

pub returns-in-Ok-clause-read : goal.returns-in-Ok-clause-read
returns-in-Ok-clause-read g c is = source-behind g.G.Guest.sound (parts_with (beside c.args.rig.works.desk c.args.rig.works.readers.items) c.args.rig.works.driver c.args.rig.works.recorders.items) (parts_with (beside c.args.rig.works.desk c.read_ahead.new.readers.items) c.read_ahead.new.driver c.args.rig.works.recorders.items) _ (stay-disks g.G.Guest.sound (beside c.args.rig.works.desk c.args.rig.works.readers.items) (beside c.args.rig.works.desk c.read_ahead.new.readers.items) c.args.rig.works.driver c.read_ahead.new.driver c.args.rig.works.recorders.items c.read_ahead.ensures.driver c.read_ahead.ensures.later c.requires.files) (c.run_filled.ensures.read is)

pub returns-in-Ok-clause-write : goal.returns-in-Ok-clause-write
returns-in-Ok-clause-write g c is = rose-behind (held {S = g.row.S.Denot} {W = g.row.W.Denot} {G = g.row.G.Denot} (record { desk = c.args.rig.works.desk; driver = c.args.rig.works.driver; recorders = c.args.rig.works.recorders; readers = c.args.rig.works.readers })) (held {S = g.row.S.Denot} {W = g.row.W.Denot} {G = g.row.G.Denot} (record { desk = c.args.rig.works.desk; driver = c.read_ahead.new.driver; recorders = c.args.rig.works.recorders; readers = c.read_ahead.new.readers })) _ (stay-disks g.G.Guest.sound (beside c.args.rig.works.desk c.args.rig.works.readers.items) (beside c.args.rig.works.desk c.read_ahead.new.readers.items) c.args.rig.works.driver c.read_ahead.new.driver c.args.rig.works.recorders.items c.read_ahead.ensures.driver c.read_ahead.ensures.later c.requires.files).later (c.run_filled.ensures.write is)

pub returns-in-Err-clause-fails : goal.returns-in-Err-clause-fails
returns-in-Err-clause-fails g c =
    segment-broke _ (seen_with g.G.Guest.sound (beside c.args.rig.works.desk c.args.rig.works.readers.items) c.args.rig.works.driver c.args.rig.works.recorders.items) (seen_with g.G.Guest.sound (beside c.args.rig.works.desk c.read_ahead.new.readers.items) c.read_ahead.new.driver c.args.rig.works.recorders.items) c.requires.settled.sound.one.desk (subst (λ n. DisksBroke n (seen_with g.G.Guest.sound (beside c.args.rig.works.desk c.args.rig.works.readers.items) c.args.rig.works.driver c.args.rig.works.recorders.items) (seen_with g.G.Guest.sound (beside c.args.rig.works.desk c.read_ahead.new.readers.items) c.read_ahead.new.driver c.args.rig.works.recorders.items)) c.requires.ring (at-err c.read_ahead.result _ c.in-Err.is c.read_ahead.ensures.broken c.args.rig.works.desk c.args.rig.works.recorders.items))

pub returns-in-Err-clause-stays : goal.returns-in-Err-clause-stays
returns-in-Err-clause-stays g c = (stay-disks g.G.Guest.sound (beside c.args.rig.works.desk c.args.rig.works.readers.items) (beside c.args.rig.works.desk c.read_ahead.new.readers.items) c.args.rig.works.driver c.read_ahead.new.driver c.args.rig.works.recorders.items c.read_ahead.ensures.driver c.read_ahead.ensures.later c.requires.files)

pub returns-in-Err-clause-table : goal.returns-in-Err-clause-table
returns-in-Err-clause-table g c = c.requires.settled.sound.one.table ∙ ap (λ (gear : Gear). gear.reading.table) (sym c.read_ahead.ensures.driver)

pub returns-in-Err-clause-pairs : goal.returns-in-Err-clause-pairs
returns-in-Err-clause-pairs g c = pairs-read c.args.rig.works.driver c.read_ahead.new.driver c.read_ahead.ensures.driver c.args.rig.works.recorders.items (paired-sound g.G.Guest.sound (parts_with (beside c.args.rig.works.desk c.args.rig.works.readers.items) c.args.rig.works.driver c.args.rig.works.recorders.items) c.requires.settled.sound)

pub returns-in-Err-clause-read : goal.returns-in-Err-clause-read
returns-in-Err-clause-read g c is = at-err c.read_ahead.result _ c.in-Err.is c.read_ahead.ensures.cause c.args.rig.works.desk c.args.rig.works.recorders.items
