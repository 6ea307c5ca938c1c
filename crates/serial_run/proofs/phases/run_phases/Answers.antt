use Rattle.std.proofs.Common.{◌≡◌, ◌+◌, suc, false, Err, ◌∙◌, ap, subst, arith}
use Rattle.session_works.specs.RunWords.{SerialBehind}
use Rattle.session_works.proofs.SegmentLemmas.{place_fits, segment_there}
use Rattle.session_works.proofs.StayLemmas.{source-behind, stays-trans}
use Rattle.session_works.proofs.StoreLemmas.{rose-behind}
use Rattle.session_works.proofs.TurningLemmas.{caught}
use Rattle.session_works.specs.Insides.{held, parts_of, seen}
use Rattle.serial_run.proofs.phases.run_phases.Goals as goal

pub overflow_cast-phase : goal.overflow_cast-phase
overflow_cast-phase g c = let small = place_fits c.phases_and_cycles.ensures.segments c.args.segments.now c.args.works.now.driver.script c.loop-phase.works.driver.script c.requires.segments c.loop-phase.invariant.stays.script c.loop-phase.phase c.loop-phase-test.true (record { period = 0; is_freewheel = false; cycles = 0 }) c.loop-phase.invariant.settled.sound.one.lawful in omega (arith, small)

pub run_phase-requires-clause-there : goal.run_phase-requires-clause-there
run_phase-requires-clause-there g c κs within = segment_there c.phases_and_cycles.ensures.segments c.args.segments.now c.args.works.now.driver.script c.loop-phase.works.driver.script c.requires.segments c.loop-phase.invariant.stays.script c.loop-phase.phase c.loop-phase-test.true (record { period = 0; is_freewheel = false; cycles = 0 })

pub returns-in_err-run_phase-clause-stays : goal.returns-in_err-run_phase-clause-stays
returns-in_err-run_phase-clause-stays g c = stays-trans g.G.Guest.sound {S = g.row.S.Denot} {W = g.row.W.Denot} {G = g.row.G.Denot} c.args.works.now c.loop-phase.works c.run_phase.new.works c.loop-phase.invariant.stays c.run_phase.ensures.stays

pub returns-in_err-run_phase-clause-write : goal.returns-in_err-run_phase-clause-write
returns-in_err-run_phase-clause-write g c is =
    rose-behind (held c.args.works.now) (held c.loop-phase.works) (held c.run_phase.new.works) c.loop-phase.invariant.stays.later
    (c.run_phase.ensures.write (c.in_err-run_phase.was ∙ ap Err (caught c.from_residual.result c.in_err-run_phase.field-0.0 _ c.from_residual.ensures.1 is)))

pub returns-in_err-run_phase-clause-read : goal.returns-in_err-run_phase-clause-read
returns-in_err-run_phase-clause-read g c is =
    source-behind g.G.Guest.sound (parts_of c.args.works.now) (parts_of c.loop-phase.works) (parts_of c.run_phase.new.works) c.loop-phase.invariant.stays
    (c.run_phase.ensures.read (c.in_err-run_phase.was ∙ ap Err (caught c.from_residual.result c.in_err-run_phase.field-0.0 _ c.from_residual.ensures.1 is)))

pub loop-phase-preserved : goal.loop-phase-preserved
loop-phase-preserved g c = record {
  behind = let next : suc c.loop-phase.phase ≡ c.loop-phase.phase + 1 = omega arith in subst (λ n. SerialBehind (seen g.G.Guest.sound c.run_phase.new.works) n) next c.in_ok-run_phase.ensures.behind;
  settled = c.in_ok-run_phase.ensures.settled;
  within = let low = c.loop-phase-test.true in omega (arith, low);
  stays = stays-trans g.G.Guest.sound {S = g.row.S.Denot} {W = g.row.W.Denot} {G = g.row.G.Denot} c.args.works.now c.loop-phase.works c.run_phase.new.works c.loop-phase.invariant.stays c.run_phase.ensures.stays;
  kept = λ given kept. c.in_ok-run_phase.ensures.kept given (c.loop-phase.invariant.kept given kept);
}
