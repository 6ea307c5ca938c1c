use Rattle.std.proofs.lemmas.Result.{on_err_weaker}
use Rattle.session_works.proofs.ReadyLemmas.{ready-files, ready-settled, run-rose, run-source, run-stays}
use Rattle.session_works.proofs.ResultLemmas.{on-ok_all, on-ok_both}
use Rattle.session_threads.proofs.RunningLemmas.{has_threads, ready-ran, threads-fail, threads-ran, threads-whole}
use Rattle.session_threads.proofs.running.run_threads.Goals as goal

pub run_phases-rig-requires-clause-threads : goal.run_phases-rig-requires-clause-threads
run_phases-rig-requires-clause-threads g c κs within = has_threads g.G.Guest.sound {S = g.row.S.Denot} {W = g.row.W.Denot} {G = g.row.G.Denot} c.args.parts c.parts.inside.works _ _ c.parts.view_is c.requires.ready c.requires.threads

pub run_phases-rig-requires-clause-settled : goal.run_phases-rig-requires-clause-settled
run_phases-rig-requires-clause-settled g c κs within = ready-settled g.G.Guest.sound {S = g.row.S.Denot} {W = g.row.W.Denot} {G = g.row.G.Denot} c.args.parts c.parts.inside.works _ _ c.parts.view_is c.requires.ready c.a_run_by_phases.ensures.settled

pub run_phases-rig-requires-clause-ran : goal.run_phases-rig-requires-clause-ran
run_phases-rig-requires-clause-ran g c κs within = ready-ran g.G.Guest.sound {S = g.row.S.Denot} {W = g.row.W.Denot} {G = g.row.G.Denot} c.args.parts c.parts.inside.works _ _ c.parts.view_is c.requires.ready c.requires.threads c.a_run_by_phases.ensures.rests

pub run_phases-rig-requires-clause-files : goal.run_phases-rig-requires-clause-files
run_phases-rig-requires-clause-files g c κs within = ready-files g.G.Guest.sound {S = g.row.S.Denot} {W = g.row.W.Denot} {G = g.row.G.Denot} c.args.parts c.parts.inside.works _ _ c.parts.view_is c.requires.ready

pub returns-clause-runs : goal.returns-clause-runs
returns-clause-runs g c =
    on-ok_all c.run_phases-rig.result.1 (λ settled ran at. threads-whole g.G.Guest.sound {S = g.row.S.Denot} {W = g.row.W.Denot} {G = g.row.G.Denot} c.args.parts c.parts.inside.works _ _ c.parts.view_is c.requires.ready c.requires.threads c.run_phases-rig.result.0.works c.run_phases-rig.ensures.stays c.a_run_by_phases.ensures.at c.a_run_by_phases.ensures.whole ran at)
    c.run_phases-rig.ensures.settled c.run_phases-rig.ensures.ran c.run_phases-rig.ensures.at

pub returns-clause-ran : goal.returns-clause-ran
returns-clause-ran g c = on-ok_both c.run_phases-rig.result.1 (threads-ran g.G.Guest.sound {S = g.row.S.Denot} {W = g.row.W.Denot} {G = g.row.G.Denot} c.args.parts c.parts.inside.works _ _ c.parts.view_is c.requires.ready c.requires.threads c.run_phases-rig.result.0.works c.run_phases-rig.ensures.stays) c.run_phases-rig.ensures.settled c.run_phases-rig.ensures.ran

pub returns-clause-so_far : goal.returns-clause-so_far
returns-clause-so_far g c = on_err_weaker c.run_phases-rig.result.1 (threads-fail g.G.Guest.sound {S = g.row.S.Denot} {W = g.row.W.Denot} {G = g.row.G.Denot} c.args.parts c.parts.inside.works _ _ c.parts.view_is c.requires.ready c.requires.threads c.run_phases-rig.result.0.works c.run_phases-rig.ensures.stays c.a_run_by_phases.ensures.at) c.run_phases-rig.ensures.fault

pub returns-clause-stays : goal.returns-clause-stays
returns-clause-stays g c = run-stays g.G.Guest.sound {S = g.row.S.Denot} {W = g.row.W.Denot} {G = g.row.G.Denot} c.args.parts c.parts.inside.works _ _ c.parts.view_is c.requires.ready c.run_phases-rig.result.0.works c.run_phases-rig.ensures.stays

pub returns-clause-read : goal.returns-clause-read
returns-clause-read g c is = run-source g.G.Guest.sound {S = g.row.S.Denot} {W = g.row.W.Denot} {G = g.row.G.Denot} c.args.parts c.parts.inside.works _ _ c.parts.view_is c.requires.ready c.run_phases-rig.result.0.works c.run_phases-rig.ensures.stays (c.run_phases-rig.ensures.read is)

pub returns-clause-write : goal.returns-clause-write
returns-clause-write g c is = run-rose g.G.Guest.sound {S = g.row.S.Denot} {W = g.row.W.Denot} {G = g.row.G.Denot} c.args.parts c.parts.inside.works _ _ c.parts.view_is c.requires.ready c.run_phases-rig.result.0.works c.run_phases-rig.ensures.stays (c.run_phases-rig.ensures.write is)
