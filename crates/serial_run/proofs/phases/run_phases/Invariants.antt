use Rattle.std.proofs.Common.{◌≤◌}
use Rattle.session_model.specs.Explanations.{Given}
use Rattle.session_works.specs.RunWords.{SerialBehind, SerialKept}
use Rattle.session_works.specs.SerialWords.{IsSettled}
use Rattle.session_works.specs.Insides.{Stays, parts_of, seen}
use Rattle.serial_run.proofs.phases.run_phases.Given as goal

abbrev pub invariant-loop-phase : goal.invariant-loop-phase
invariant-loop-phase g l = record {
  behind : SerialBehind (seen g.G.Guest.sound {S = g.row.S.Denot} {W = g.row.W.Denot} {G = g.row.G.Denot} l.works) l.phase;
  settled : IsSettled (seen g.G.Guest.sound {S = g.row.S.Denot} {W = g.row.W.Denot} {G = g.row.G.Denot} l.works);
  within : l.phase ≤ l.phase-end;
  stays : Stays g.G.Guest.sound (parts_of {S = g.row.S.Denot} {W = g.row.W.Denot} {G = g.row.G.Denot} l.fn.works) (parts_of {S = g.row.S.Denot} {W = g.row.W.Denot} {G = g.row.G.Denot} l.works);
  kept : (given : Given) → SerialKept given (seen g.G.Guest.sound {S = g.row.S.Denot} {W = g.row.W.Denot} {G = g.row.G.Denot} l.fn.works) → SerialKept given (seen g.G.Guest.sound {S = g.row.S.Denot} {W = g.row.W.Denot} {G = g.row.G.Denot} l.works);
}
