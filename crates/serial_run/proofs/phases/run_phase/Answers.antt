use Rattle.std.proofs.Common.{Err, refl, ◌∙◌, ap, arith}
use Rattle.session_works.proofs.SegmentLemmas.{of-phase}
use Rattle.serial_run.proofs.PhaseLemmas.{next-in, phase-begins, phase-ends, phase-fails, phase-keeps, stays-begun, turned-keeps, turned-on}
use Rattle.session_works.proofs.StayLemmas.{source-behind, stays-trans}
use Rattle.session_works.proofs.StoreLemmas.{rose-behind}
use Rattle.session_works.proofs.TurningLemmas.{caught}
use Rattle.session_works.specs.Insides.{held, parts_of}
use Rattle.session_works.proofs.ResultLemmas.{on-err}
use Rattle.serial_run.proofs.phases.run_phase.Goals as goal

pub loop-init : goal.loop-init
loop-init g c = record {
  inside = phase-begins g.G.Guest.sound {S = g.row.S.Denot} {W = g.row.W.Denot} {G = g.row.G.Denot} c.a_phase_by_cycles.ensures.front c.a_phase_by_cycles.ensures.begun c.a_phase_by_cycles.ensures.begun_tells c.args.works.now c.begin.new.works c.period.new.self c.args.phase c.args.segment (of-phase c.a_phase_by_cycles.ensures.segments c.args.works.now.driver.script c.args.works.now.driver.script c.args.phase c.args.segment refl c.requires.there) c.requires.settled c.requires.behind c.begin.ensures.begun c.begin.ensures.group c.period.ensures;
  within = omega arith;
  stays = stays-begun g.G.Guest.sound {S = g.row.S.Denot} {W = g.row.W.Denot} {G = g.row.G.Denot} c.args.works.now c.begin.new.works c.period.new.self c.args.segment.period c.requires.files c.begin.ensures.driver c.begin.ensures.recorders c.begin.ensures.readers c.period.ensures;
  kept = phase-keeps g.G.Guest.sound {S = g.row.S.Denot} {W = g.row.W.Denot} {G = g.row.G.Denot} c.a_phase_by_cycles.ensures.kept_front c.args.works.now c.begin.new.works c.period.new.self c.args.phase c.args.segment (of-phase c.a_phase_by_cycles.ensures.segments c.args.works.now.driver.script c.args.works.now.driver.script c.args.phase c.args.segment refl c.requires.there) c.requires.settled.sound c.requires.behind c.begin.ensures.begun c.period.ensures;
}

pub turn-requires-clause-left : goal.turn-requires-clause-left
turn-requires-clause-left g c κs within = (next-in g.G.Guest.sound {S = g.row.S.Denot} {W = g.row.W.Denot} {G = g.row.G.Denot} c.a_phase_by_cycles.ensures.there c.a_phase_by_cycles.ensures.is c.loop.works c.args.segment c.args.phase c.loop.counter c.loop.invariant.inside (of-phase c.a_phase_by_cycles.ensures.segments c.args.works.now.driver.script c.loop.works.driver.script c.args.phase c.args.segment c.loop.invariant.stays.script c.requires.there) c.loop-test.true).left

pub turn-requires-clause-kind : goal.turn-requires-clause-kind
turn-requires-clause-kind g c κs within = (next-in g.G.Guest.sound {S = g.row.S.Denot} {W = g.row.W.Denot} {G = g.row.G.Denot} c.a_phase_by_cycles.ensures.there c.a_phase_by_cycles.ensures.is c.loop.works c.args.segment c.args.phase c.loop.counter c.loop.invariant.inside (of-phase c.a_phase_by_cycles.ensures.segments c.args.works.now.driver.script c.loop.works.driver.script c.args.phase c.args.segment c.loop.invariant.stays.script c.requires.there) c.loop-test.true).kind

pub turn-requires-clause-period : goal.turn-requires-clause-period
turn-requires-clause-period g c κs within = (next-in g.G.Guest.sound {S = g.row.S.Denot} {W = g.row.W.Denot} {G = g.row.G.Denot} c.a_phase_by_cycles.ensures.there c.a_phase_by_cycles.ensures.is c.loop.works c.args.segment c.args.phase c.loop.counter c.loop.invariant.inside (of-phase c.a_phase_by_cycles.ensures.segments c.args.works.now.driver.script c.loop.works.driver.script c.args.phase c.args.segment c.loop.invariant.stays.script c.requires.there) c.loop-test.true).period

pub returns-in_err-turn-clause-fault : goal.returns-in_err-turn-clause-fault
returns-in_err-turn-clause-fault g c =
    on-err c.from_residual.result
    (λ given kept. phase-fails g.G.Guest.sound {S = g.row.S.Denot} {W = g.row.W.Denot} {G = g.row.G.Denot} c.a_phase_by_cycles.ensures.failed c.a_phase_by_cycles.ensures.there c.a_phase_by_cycles.ensures.is c.loop.works c.turn.new.works c.args.segment c.args.phase c.loop.counter c.loop.invariant.inside (of-phase c.a_phase_by_cycles.ensures.segments c.args.works.now.driver.script c.loop.works.driver.script c.args.phase c.args.segment c.loop.invariant.stays.script c.requires.there) c.loop-test.true
    c.in_err-turn.ensures.failed c.turn.ensures.stays.files given (c.loop.invariant.kept given kept))

pub returns-in_err-turn-clause-stays : goal.returns-in_err-turn-clause-stays
returns-in_err-turn-clause-stays g c = stays-trans g.G.Guest.sound {S = g.row.S.Denot} {W = g.row.W.Denot} {G = g.row.G.Denot} c.args.works.now c.loop.works c.turn.new.works c.loop.invariant.stays c.turn.ensures.stays

pub returns-in_err-turn-clause-write : goal.returns-in_err-turn-clause-write
returns-in_err-turn-clause-write g c is =
    rose-behind (held c.args.works.now) (held c.loop.works) (held c.turn.new.works) c.loop.invariant.stays.later
    (c.turn.ensures.write (c.in_err-turn.was ∙ ap Err (caught c.from_residual.result c.in_err-turn.field-0.0 _ c.from_residual.ensures.1 is)))

pub returns-in_err-turn-clause-read : goal.returns-in_err-turn-clause-read
returns-in_err-turn-clause-read g c is =
    source-behind g.G.Guest.sound (parts_of c.args.works.now) (parts_of c.loop.works) (parts_of c.turn.new.works) c.loop.invariant.stays
    (c.turn.ensures.read (c.in_err-turn.was ∙ ap Err (caught c.from_residual.result c.in_err-turn.field-0.0 _ c.from_residual.ensures.1 is)))

pub loop-preserved : goal.loop-preserved
loop-preserved g c = record {
  inside = turned-on g.G.Guest.sound {S = g.row.S.Denot} {W = g.row.W.Denot} {G = g.row.G.Denot} c.a_phase_by_cycles.ensures.there c.a_phase_by_cycles.ensures.is c.a_phase_by_cycles.ensures.next c.a_phase_by_cycles.ensures.turned c.loop.works c.turn.new.works c.args.segment c.args.phase c.loop.counter c.loop.invariant.inside (of-phase c.a_phase_by_cycles.ensures.segments c.args.works.now.driver.script c.loop.works.driver.script c.args.phase c.args.segment c.loop.invariant.stays.script c.requires.there)
      c.loop-test.true c.in_ok-turn.ensures.turned c.in_ok-turn.ensures.group c.turn.ensures.set;
  within = let low = c.loop-test.true in omega (arith, low);
  stays = stays-trans g.G.Guest.sound {S = g.row.S.Denot} {W = g.row.W.Denot} {G = g.row.G.Denot} c.args.works.now c.loop.works c.turn.new.works c.loop.invariant.stays c.turn.ensures.stays;
  kept = λ given kept. turned-keeps g.G.Guest.sound {S = g.row.S.Denot} {W = g.row.W.Denot} {G = g.row.G.Denot} c.a_phase_by_cycles.ensures.kept_next c.loop.works c.turn.new.works c.args.segment c.args.phase c.loop.counter c.loop.invariant.inside (of-phase c.a_phase_by_cycles.ensures.segments c.args.works.now.driver.script c.loop.works.driver.script c.args.phase c.args.segment c.loop.invariant.stays.script c.requires.there) c.loop-test.true c.in_ok-turn.ensures.turned given (c.loop.invariant.kept given kept);
}

pub returns-clause-behind : goal.returns-clause-behind
returns-clause-behind g c =
    phase-ends g.G.Guest.sound {S = g.row.S.Denot} {W = g.row.W.Denot} {G = g.row.G.Denot} c.a_phase_by_cycles.ensures.ends c.loop.works c.args.segment c.args.phase c.loop.counter c.loop.invariant.inside (of-phase c.a_phase_by_cycles.ensures.segments c.args.works.now.driver.script c.loop.works.driver.script c.args.phase c.args.segment c.loop.invariant.stays.script c.requires.there) c.loop.invariant.within c.loop-test.false
