use Rattle.std.proofs.Common.{ℕ, Bool, OnErr, sym, subst, arith}
use Rattle.session_works.specs.Drivers.{driver_of}
use Rattle.session_works.specs.Cycles.{AreNext}
use Rattle.session_works.specs.Insides.{parts_of, seen}
use Rattle.session_threads.specs.Phases.{SegmentFails, Segmented}
use Rattle.session_works.proofs.PairedLemmas.{disks-sound, paired-sound}
use Rattle.session_threads.proofs.PhaseLemmas.{rests}
use Rattle.session_works.proofs.StayLemmas.{stays-refl}
use Rattle.session_threads.proofs.segments.run_segment.Goals as goal

pub returns-then-segment-eq0-clause-whole : goal.returns-then-segment-eq0-clause-whole
returns-then-segment-eq0-clause-whole g c =
    subst (λ many. Segmented many c.args.segment.is_freewheel (seen g.G.Guest.sound {S = g.row.S.Denot} {W = g.row.W.Denot} {G = g.row.G.Denot} c.args.rig.works) (seen g.G.Guest.sound {S = g.row.S.Denot} {W = g.row.W.Denot} {G = g.row.G.Denot} c.args.rig.works)) (sym c.if-segment-eq0.true)
    (rests c.args.segment.is_freewheel (seen g.G.Guest.sound {S = g.row.S.Denot} {W = g.row.W.Denot} {G = g.row.G.Denot} c.args.rig.works) c.requires.settled.sound.one.desk)

pub returns-then-segment-eq0-clause-stays : goal.returns-then-segment-eq0-clause-stays
returns-then-segment-eq0-clause-stays g c = stays-refl g.G.Guest.sound {S = g.row.S.Denot} {W = g.row.W.Denot} {G = g.row.G.Denot} c.args.rig.works c.requires.files

pub returns-then-segment-eq0-clause-pairs : goal.returns-then-segment-eq0-clause-pairs
returns-then-segment-eq0-clause-pairs g c = paired-sound g.G.Guest.sound (parts_of {S = g.row.S.Denot} {W = g.row.W.Denot} {G = g.row.G.Denot} c.args.rig.works) c.requires.settled.sound

pub returns-then-segment-eq0-clause-disks : goal.returns-then-segment-eq0-clause-disks
returns-then-segment-eq0-clause-disks g c = disks-sound g.G.Guest.sound (parts_of {S = g.row.S.Denot} {W = g.row.W.Denot} {G = g.row.G.Denot} c.args.rig.works) c.requires.settled.sound

pub run_free-requires-clause-next : goal.run_free-requires-clause-next
run_free-requires-clause-next g c κs within = let some = c.if-segment-eq0.false in subst (λ free. AreNext c.args.segment.cycles free (driver_of g.G.Guest.sound c.args.rig.works.driver)) c.if-free.true (c.requires.next (omega (arith, some)))

pub run_bound-requires-clause-next : goal.run_bound-requires-clause-next
run_bound-requires-clause-next g c κs within = let some = c.if-segment-eq0.false in subst (λ free. AreNext c.args.segment.cycles free (driver_of g.G.Guest.sound c.args.rig.works.driver)) c.if-free.false (c.requires.next (omega (arith, some)))

pub returns-then-free-clause-fails : goal.returns-then-free-clause-fails
returns-then-free-clause-fails g c =
    subst (λ (free : Bool). OnErr c.run_free.result.1 ((kept : ℕ) × SegmentFails c.args.segment.cycles free kept (seen g.G.Guest.sound {S = g.row.S.Denot} {W = g.row.W.Denot} {G = g.row.G.Denot} c.args.rig.works) (seen g.G.Guest.sound {S = g.row.S.Denot} {W = g.row.W.Denot} {G = g.row.G.Denot} c.run_free.result.0.works))) (sym c.if-free.true) c.run_free.ensures.fails

pub returns-else-free-clause-fails : goal.returns-else-free-clause-fails
returns-else-free-clause-fails g c =
    subst (λ (free : Bool). OnErr c.run_bound.result.1 ((kept : ℕ) × SegmentFails c.args.segment.cycles free kept (seen g.G.Guest.sound {S = g.row.S.Denot} {W = g.row.W.Denot} {G = g.row.G.Denot} c.args.rig.works) (seen g.G.Guest.sound {S = g.row.S.Denot} {W = g.row.W.Denot} {G = g.row.G.Denot} c.run_bound.result.0.works))) (sym c.if-free.false) c.run_bound.ensures.fails
