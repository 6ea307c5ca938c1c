use Rattle.std.proofs.Common.{◌≤◌}
use Rattle.session_model.specs.Explanations.{Given}
use Rattle.session_works.specs.RunWords.{SerialKept}
use Rattle.session_works.specs.Insides.{Stays, parts_of, seen}
use Rattle.serial_run.proofs.PhaseLemmas.{InPhase}
use Rattle.serial_run.proofs.phases.run_phase.Given as goal

abbrev pub invariant-loop : goal.invariant-loop
invariant-loop g l = record {
  inside : InPhase g.G.Guest.sound {S = g.row.S.Denot} {W = g.row.W.Denot} {G = g.row.G.Denot} l.works l.segment l.phase l.counter;
  within : l.counter ≤ l.segment.cycles;
  stays : Stays g.G.Guest.sound (parts_of {S = g.row.S.Denot} {W = g.row.W.Denot} {G = g.row.G.Denot} l.fn.works) (parts_of {S = g.row.S.Denot} {W = g.row.W.Denot} {G = g.row.G.Denot} l.works);
  kept : (given : Given) → SerialKept given (seen g.G.Guest.sound {S = g.row.S.Denot} {W = g.row.W.Denot} {G = g.row.G.Denot} l.fn.works) → SerialKept given (seen g.G.Guest.sound {S = g.row.S.Denot} {W = g.row.W.Denot} {G = g.row.G.Denot} l.works);
}
