use Rattle.std.proofs.Common.{◌≤◌, length}
use Rattle.session_model.specs.Explanations.{Given}
use Rattle.session_works.specs.RunWords.{AtPhase, RanPhases}
use Rattle.session_works.specs.SerialWords.{IsSettled}
use Rattle.session_works.specs.Insides.{Stays, parts_of, seen}
use Rattle.session_threads.proofs.phases.run_phases.Given as goal

abbrev pub invariant-loop-phase : goal.invariant-loop-phase
invariant-loop-phase g l = record {
  ran : RanPhases (seen g.G.Guest.sound {S = g.row.S.Denot} {W = g.row.W.Denot} {G = g.row.G.Denot} l.rig.works) l.phase;
  settled : IsSettled (seen g.G.Guest.sound {S = g.row.S.Denot} {W = g.row.W.Denot} {G = g.row.G.Denot} l.rig.works);
  at : (given : Given) → AtPhase (seen g.G.Guest.sound {S = g.row.S.Denot} {W = g.row.W.Denot} {G = g.row.G.Denot} l.fn.rig.works) given 0 → AtPhase (seen g.G.Guest.sound {S = g.row.S.Denot} {W = g.row.W.Denot} {G = g.row.G.Denot} l.rig.works) given l.phase;
  within : l.phase ≤ length l.segments;
  stays : Stays g.G.Guest.sound (parts_of {S = g.row.S.Denot} {W = g.row.W.Denot} {G = g.row.G.Denot} l.fn.rig.works) (parts_of {S = g.row.S.Denot} {W = g.row.W.Denot} {G = g.row.G.Denot} l.rig.works);
}
