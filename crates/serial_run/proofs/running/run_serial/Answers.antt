use Rattle.std.proofs.lemmas.Result.{on_err_weaker, on_ok_weaker}
use Rattle.session_works.proofs.ReadyLemmas.{ready-files, ready-settled, run-rose, run-source, run-stays}
use Rattle.session_works.proofs.ResultLemmas.{on-ok_all, on-ok_both}
use Rattle.serial_run.proofs.RunningLemmas.{has-ran, ready-behind, run-fails, run-kept, run-whole}
use Rattle.serial_run.proofs.running.run_serial.Goals as goal

pub run_phases-requires-clause-settled : goal.run_phases-requires-clause-settled
run_phases-requires-clause-settled g c κs within = ready-settled g.G.Guest.sound {S = g.row.S.Denot} {W = g.row.W.Denot} {G = g.row.G.Denot} c.args.parts.now c.parts.inside.works _ _ c.parts.view_is c.requires.ready c.a_run_by_phases.ensures.settled

pub run_phases-requires-clause-behind : goal.run_phases-requires-clause-behind
run_phases-requires-clause-behind g c κs within = ready-behind g.G.Guest.sound {S = g.row.S.Denot} {W = g.row.W.Denot} {G = g.row.G.Denot} c.args.parts.now c.parts.inside.works _ _ c.parts.view_is c.requires.ready c.requires.serial c.a_run_by_phases.ensures.behind

pub run_phases-requires-clause-files : goal.run_phases-requires-clause-files
run_phases-requires-clause-files g c κs within = ready-files g.G.Guest.sound {S = g.row.S.Denot} {W = g.row.W.Denot} {G = g.row.G.Denot} c.args.parts.now c.parts.inside.works _ _ c.parts.view_is c.requires.ready

pub returns-clause-runs : goal.returns-clause-runs
returns-clause-runs g c =
    on-ok_all c.run_phases.result (run-whole g.G.Guest.sound {S = g.row.S.Denot} {W = g.row.W.Denot} {G = g.row.G.Denot} c.args.parts.now c.parts.inside.works _ _ c.parts.view_is c.requires.ready c.requires.serial c.run_phases.new.works c.run_phases.ensures.stays c.a_run_by_phases.ensures.kept c.a_run_by_phases.ensures.whole)
    c.run_phases.ensures.settled c.run_phases.ensures.behind c.run_phases.ensures.kept

pub returns-clause-ran : goal.returns-clause-ran
returns-clause-ran g c = on-ok_both c.run_phases.result (has-ran g.G.Guest.sound {S = g.row.S.Denot} {W = g.row.W.Denot} {G = g.row.G.Denot} c.args.parts.now c.parts.inside.works _ _ c.parts.view_is c.requires.ready c.requires.serial c.run_phases.new.works c.run_phases.ensures.stays c.a_run_by_phases.ensures.ran) c.run_phases.ensures.settled c.run_phases.ensures.behind

pub returns-clause-kept : goal.returns-clause-kept
returns-clause-kept g c = on_ok_weaker c.run_phases.result (run-kept g.G.Guest.sound {S = g.row.S.Denot} {W = g.row.W.Denot} {G = g.row.G.Denot} c.args.parts.now c.parts.inside.works _ _ c.parts.view_is c.requires.ready c.requires.serial c.run_phases.new.works c.run_phases.ensures.stays c.a_run_by_phases.ensures.kept) c.run_phases.ensures.kept

pub returns-clause-fault : goal.returns-clause-fault
returns-clause-fault g c = on_err_weaker c.run_phases.result (run-fails g.G.Guest.sound {S = g.row.S.Denot} {W = g.row.W.Denot} {G = g.row.G.Denot} c.args.parts.now c.parts.inside.works _ _ c.parts.view_is c.requires.ready c.requires.serial c.run_phases.new.works c.run_phases.ensures.stays c.a_run_by_phases.ensures.kept) c.run_phases.ensures.fault

pub returns-clause-stays : goal.returns-clause-stays
returns-clause-stays g c = run-stays g.G.Guest.sound {S = g.row.S.Denot} {W = g.row.W.Denot} {G = g.row.G.Denot} c.args.parts.now c.parts.inside.works _ _ c.parts.view_is c.requires.ready c.run_phases.new.works c.run_phases.ensures.stays

pub returns-clause-write : goal.returns-clause-write
returns-clause-write g c is = run-rose g.G.Guest.sound {S = g.row.S.Denot} {W = g.row.W.Denot} {G = g.row.G.Denot} c.args.parts.now c.parts.inside.works _ _ c.parts.view_is c.requires.ready c.run_phases.new.works c.run_phases.ensures.stays (c.run_phases.ensures.write is)

pub returns-clause-read : goal.returns-clause-read
returns-clause-read g c is = run-source g.G.Guest.sound {S = g.row.S.Denot} {W = g.row.W.Denot} {G = g.row.G.Denot} c.args.parts.now c.parts.inside.works _ _ c.parts.view_is c.requires.ready c.run_phases.new.works c.run_phases.ensures.stays (c.run_phases.ensures.read is)
