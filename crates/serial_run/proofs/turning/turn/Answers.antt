use Rattle.std.proofs.Common.{List, sym, subst}
use Rattle.recorder_files.specs.Recorders.{Stored}
use Rattle.session_works.proofs.StayLemmas.{stays-met, stays-trans}
use Rattle.session_works.proofs.TurningLemmas.{turn-fails}
use Rattle.session_works.specs.Insides.{beside, held, seen, seen_with}
use Rattle.session_works.specs.Parts.{OneRose}
use Rattle.session_works.specs.declared.works.SessionWorks.{SessionWorks}
use Rattle.serial_run.proofs.TurnLemmas.{goes-round, held-met, source-met}
use Rattle.serial_run.proofs.turning.turn.Goals as goal

pub cycle-requires-clause-settled : goal.cycle-requires-clause-settled
cycle-requires-clause-settled g c κs within = record { desk = c.args.works.now.desk; settled = c.requires.settled; files = c.requires.files }

-- ---- the cycle failed

pub returns-in-Err-clause-failed : goal.returns-in-Err-clause-failed
returns-in-Err-clause-failed g c =
    turn-fails c.args.freewheel (seen g.G.Guest.sound c.args.works.now) (seen_with g.G.Guest.sound (beside c.args.works.now.desk c.cycle.new.readers.items) c.cycle.new.driver c.cycle.new.recorders.items) (seen g.G.Guest.sound c.meet.new.works) (c.in-Err.ensures.fails c.args.works.now.desk c.requires.settled) c.meet.ensures.met

pub returns-in-Err-clause-stays : goal.returns-in-Err-clause-stays
returns-in-Err-clause-stays g c =
    stays-trans g.G.Guest.sound {S = g.row.S.Denot} {W = g.row.W.Denot} {G = g.row.G.Denot} c.args.works.now cycled c.meet.new.works (c.cycle.ensures.stays c.args.works.now.desk)
    (stays-met g.G.Guest.sound {S = g.row.S.Denot} {W = g.row.W.Denot} {G = g.row.G.Denot} cycled c.meet.new.works c.meet.ensures.driver c.meet.ensures.recorders c.meet.ensures.readers (c.cycle.ensures.stays c.args.works.now.desk).files)
  where
    cycled : SessionWorks g.row.S.Denot g.row.W.Denot g.row.G.Denot
    cycled = record { desk = c.args.works.now.desk; driver = c.cycle.new.driver; recorders = c.cycle.new.recorders; readers = c.cycle.new.readers }

pub returns-in-Err-clause-read : goal.returns-in-Err-clause-read
returns-in-Err-clause-read g c is = source-met {S = g.row.S.Denot} {W = g.row.W.Denot} {G = g.row.G.Denot} c.args.works.now cycled c.meet.new.works c.meet.ensures.driver c.meet.ensures.readers (c.in-Err.ensures.read c.args.works.now.desk is)
  where
    cycled : SessionWorks g.row.S.Denot g.row.W.Denot g.row.G.Denot
    cycled = record { desk = c.args.works.now.desk; driver = c.cycle.new.driver; recorders = c.cycle.new.recorders; readers = c.cycle.new.readers }

pub returns-in-Err-clause-write : goal.returns-in-Err-clause-write
returns-in-Err-clause-write g c is =
    subst (λ (stores : List Stored). OneRose (held {S = g.row.S.Denot} {W = g.row.W.Denot} {G = g.row.G.Denot} c.args.works.now) stores)
    (sym (held-met {S = g.row.S.Denot} {W = g.row.W.Denot} {G = g.row.G.Denot} cycled c.meet.new.works c.meet.ensures.driver c.meet.ensures.recorders)) (c.in-Err.ensures.write c.args.works.now.desk is)
  where
    cycled : SessionWorks g.row.S.Denot g.row.W.Denot g.row.G.Denot
    cycled = record { desk = c.args.works.now.desk; driver = c.cycle.new.driver; recorders = c.cycle.new.recorders; readers = c.cycle.new.readers }

-- ---- it was whole

pub returns-clause-turned : goal.returns-clause-turned
returns-clause-turned g c =
    goes-round c.args.freewheel (seen g.G.Guest.sound c.args.works.now) (seen_with g.G.Guest.sound (beside c.args.works.now.desk c.cycle.new.readers.items) c.cycle.new.driver c.cycle.new.recorders.items) (seen g.G.Guest.sound c.go_round.new.works) (c.in_default.ensures.goes c.args.works.now.desk c.requires.settled) c.go_round.ensures.round

pub returns-clause-stays : goal.returns-clause-stays
returns-clause-stays g c =
    stays-trans g.G.Guest.sound {S = g.row.S.Denot} {W = g.row.W.Denot} {G = g.row.G.Denot} c.args.works.now cycled c.go_round.new.works (c.cycle.ensures.stays c.args.works.now.desk)
    (stays-met g.G.Guest.sound {S = g.row.S.Denot} {W = g.row.W.Denot} {G = g.row.G.Denot} cycled c.go_round.new.works c.go_round.ensures.driver c.go_round.ensures.recorders c.go_round.ensures.readers (c.cycle.ensures.stays c.args.works.now.desk).files)
  where
    cycled : SessionWorks g.row.S.Denot g.row.W.Denot g.row.G.Denot
    cycled = record { desk = c.args.works.now.desk; driver = c.cycle.new.driver; recorders = c.cycle.new.recorders; readers = c.cycle.new.readers }
