use Rattle.std.proofs.Common.{◌≡◌, refl, sym, ◌∙◌, ap, subst, arith, vec_items}
use Rattle.session_works.specs.DeskWords.{cycles_before}
use Rattle.driver_laws.specs.Drivers.{run}
use Rattle.session_works.specs.Drivers.{Gear, driver_of}
use Rattle.session_works.specs.Insides.{beside, seen}
use Rattle.session_works.proofs.BesideLemmas.{files-same}
use Rattle.session_threads.proofs.PhaseLemmas.{may-begin, next-of, opens-settled, phase-fails, phase-whole, read-between, stays-over, write-between}
use Rattle.session_works.proofs.SegmentLemmas.{of-phase}
use Rattle.session_works.proofs.StayLemmas.{stays-begun}
use Rattle.session_works.proofs.ResultLemmas.{at-err, at-ok}
use Rattle.session_threads.proofs.phases.run_phase.Goals as goal

pub begin-requires-clause-may : goal.begin-requires-clause-may
begin-requires-clause-may g c = let of = (of-phase c.phases_and_cycles.ensures.segments c.args.rig.works.driver.script c.args.rig.works.driver.script c.args.phase c.args.segment refl c.requires.there) in may-begin (seen g.G.Guest.sound {S = g.row.S.Denot} {W = g.row.W.Denot} {G = g.row.G.Denot} c.args.rig.works) c.args.phase of.phase c.requires.settled.sound c.requires.ran of.there

pub run_segment-rig-requires-clause-settled : goal.run_segment-rig-requires-clause-settled
run_segment-rig-requires-clause-settled g c κs within = opens-settled c.args.phase (seen g.G.Guest.sound {S = g.row.S.Denot} {W = g.row.W.Denot} {G = g.row.G.Denot} c.args.rig.works) (seen g.G.Guest.sound {S = g.row.S.Denot} {W = g.row.W.Denot} {G = g.row.G.Denot} c.begin.new.works) c.requires.settled c.begin.ensures.opens

pub run_segment-rig-requires-clause-files : goal.run_segment-rig-requires-clause-files
run_segment-rig-requires-clause-files g c κs within = files-same (beside c.args.rig.works.desk c.args.rig.works.readers.items) (beside c.begin.new.works.desk c.begin.new.works.readers.items) c.args.rig.works.driver c.begin.new.works.driver c.args.rig.works.recorders.items c.begin.new.works.recorders.items (ap vec_items c.begin.ensures.recorders) c.requires.files

pub run_segment-rig-requires-clause-begun : goal.run_segment-rig-requires-clause-begun
run_segment-rig-requires-clause-begun g c κs within = (let phase = c.begin.ensures.phase in omega (arith, phase), c.begin.ensures.group)

pub run_segment-rig-requires-clause-next : goal.run_segment-rig-requires-clause-next
run_segment-rig-requires-clause-next g c κs within some =
    next-of c.phases_and_cycles.ensures.there c.phases_and_cycles.ensures.is (driver_of g.G.Guest.sound c.begin.new.works.driver) c.args.phase c.args.segment (of-phase c.phases_and_cycles.ensures.segments c.args.rig.works.driver.script c.begin.new.works.driver.script c.args.phase c.args.segment (ap (λ (gear : Gear). gear.script) c.begin.ensures.driver) c.requires.there)
    (subst (λ (gear : Gear). run (driver_of g.G.Guest.sound gear) ≡ cycles_before gear.script c.args.phase) (sym c.begin.ensures.driver) c.requires.ran.cycles) (ap (λ (gear : Gear). gear.set) c.begin.ensures.driver) some

pub run_segment-rig-requires-clause-ring : goal.run_segment-rig-requires-clause-ring
run_segment-rig-requires-clause-ring g c κs within = c.requires.ring ∙ ap (λ (gear : Gear). gear.script.header.ring) (sym c.begin.ensures.driver)

pub run_segment-rig-requires-clause-drain : goal.run_segment-rig-requires-clause-drain
run_segment-rig-requires-clause-drain g c κs within = c.requires.drain ∙ ap (λ (gear : Gear). gear.script.header.drain) (sym c.begin.ensures.driver)

pub run_segment-rig-requires-clause-fill : goal.run_segment-rig-requires-clause-fill
run_segment-rig-requires-clause-fill g c κs within = c.requires.fill ∙ ap (λ (gear : Gear). gear.script.header.fill) (sym c.begin.ensures.driver)

pub settle-requires-clause-begun : goal.settle-requires-clause-begun
settle-requires-clause-begun g c = let phase = c.begin.ensures.phase in let same = c.run_segment-rig.ensures.phase in omega (arith, phase, same)

pub settle-requires-clause-group : goal.settle-requires-clause-group
settle-requires-clause-group g c = at-ok c.run_segment-rig.result.1 _ c.in-Ok.is c.run_segment-rig.ensures.group

pub settle-requires-clause-files : goal.settle-requires-clause-files
settle-requires-clause-files g c = c.run_segment-rig.ensures.stays.files

pub stop-requires-clause-files : goal.stop-requires-clause-files
stop-requires-clause-files g c = c.run_segment-rig.ensures.stays.files

pub returns-in-Ok-clause-whole : goal.returns-in-Ok-clause-whole
returns-in-Ok-clause-whole g c =
    phase-whole c.args.phase c.args.segment.cycles c.args.segment.is_freewheel (seen g.G.Guest.sound {S = g.row.S.Denot} {W = g.row.W.Denot} {G = g.row.G.Denot} c.args.rig.works) (seen g.G.Guest.sound {S = g.row.S.Denot} {W = g.row.W.Denot} {G = g.row.G.Denot} c.begin.new.works) (seen g.G.Guest.sound {S = g.row.S.Denot} {W = g.row.W.Denot} {G = g.row.G.Denot} c.run_segment-rig.result.0.works) (seen g.G.Guest.sound {S = g.row.S.Denot} {W = g.row.W.Denot} {G = g.row.G.Denot} c.settle.new.works) c.begin.ensures.opens
    (at-ok c.run_segment-rig.result.1 _ c.in-Ok.is c.run_segment-rig.ensures.whole) c.settle.ensures.settled

pub returns-in-Ok-clause-stays : goal.returns-in-Ok-clause-stays
returns-in-Ok-clause-stays g c = stays-over g.G.Guest.sound {S = g.row.S.Denot} {W = g.row.W.Denot} {G = g.row.G.Denot} c.args.rig.works c.begin.new.works c.run_segment-rig.result.0.works c.settle.new.works c.args.segment.period c.begin.ensures.driver c.begin.ensures.recorders c.begin.ensures.readers c.requires.files c.run_segment-rig.ensures.stays c.settle.ensures.stays

pub returns-in-Err-clause-fault : goal.returns-in-Err-clause-fault
returns-in-Err-clause-fault g c =
    let fails = at-err c.run_segment-rig.result.1 _ c.in-Err.is c.run_segment-rig.ensures.fails in
    (fails.0, phase-fails c.args.phase c.args.segment.cycles fails.0 c.args.segment.is_freewheel (seen g.G.Guest.sound {S = g.row.S.Denot} {W = g.row.W.Denot} {G = g.row.G.Denot} c.args.rig.works) (seen g.G.Guest.sound {S = g.row.S.Denot} {W = g.row.W.Denot} {G = g.row.G.Denot} c.begin.new.works) (seen g.G.Guest.sound {S = g.row.S.Denot} {W = g.row.W.Denot} {G = g.row.G.Denot} c.run_segment-rig.result.0.works) (seen g.G.Guest.sound {S = g.row.S.Denot} {W = g.row.W.Denot} {G = g.row.G.Denot} c.stop.new.works) c.begin.ensures.opens fails.1 c.stop.ensures.stopped)

pub returns-in-Err-clause-stays : goal.returns-in-Err-clause-stays
returns-in-Err-clause-stays g c = stays-over g.G.Guest.sound {S = g.row.S.Denot} {W = g.row.W.Denot} {G = g.row.G.Denot} c.args.rig.works c.begin.new.works c.run_segment-rig.result.0.works c.stop.new.works c.args.segment.period c.begin.ensures.driver c.begin.ensures.recorders c.begin.ensures.readers c.requires.files c.run_segment-rig.ensures.stays c.stop.ensures.stays

pub returns-in-Err-clause-read : goal.returns-in-Err-clause-read
returns-in-Err-clause-read g c is =
    read-between g.G.Guest.sound {S = g.row.S.Denot} {W = g.row.W.Denot} {G = g.row.G.Denot} c.args.rig.works c.begin.new.works c.run_segment-rig.result.0.works c.stop.new.works (stays-begun g.G.Guest.sound {S = g.row.S.Denot} {W = g.row.W.Denot} {G = g.row.G.Denot} c.args.rig.works c.begin.new.works c.args.segment.period c.begin.ensures.driver c.begin.ensures.recorders c.begin.ensures.readers c.requires.files) (c.run_segment-rig.ensures.read (c.in-Err.is ∙ is)) c.stop.ensures.stays

pub returns-in-Err-clause-write : goal.returns-in-Err-clause-write
returns-in-Err-clause-write g c is =
    write-between g.G.Guest.sound {S = g.row.S.Denot} {W = g.row.W.Denot} {G = g.row.G.Denot} c.args.rig.works c.begin.new.works c.run_segment-rig.result.0.works c.stop.new.works (stays-begun g.G.Guest.sound {S = g.row.S.Denot} {W = g.row.W.Denot} {G = g.row.G.Denot} c.args.rig.works c.begin.new.works c.args.segment.period c.begin.ensures.driver c.begin.ensures.recorders c.begin.ensures.readers c.requires.files) (c.run_segment-rig.ensures.write (c.in-Err.is ∙ is)) c.stop.ensures.stays
