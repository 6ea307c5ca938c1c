use Rattle.std.proofs.Common.{◌≡◌, false, IsSome, get_or, length, refl, sym, ◌∙◌, ap, subst, arith}
use Rattle.session_model.specs.Scripts.{Script, phases}
use Rattle.session_works.specs.RunWords.{AtPhase, RanPhases}
use Rattle.thread_laws.specs.Coming.{HasCome}
use Rattle.session_works.specs.Insides.{held, parts_of, seen}
use Rattle.session_threads.proofs.PhaseLemmas.{come-failed, ran-at, ran-on, stands-failed}
use Rattle.session_works.proofs.SegmentLemmas.{of-phase, place_fits, segment_there}
use Rattle.session_works.proofs.StayLemmas.{source-behind, stays-refl, stays-trans}
use Rattle.session_works.proofs.StoreLemmas.{rose-behind}
use Rattle.session_works.proofs.ResultLemmas.{at-err, at-ok}
use Rattle.session_threads.proofs.phases.run_phases.Goals as goal

pub overflow_cast-phase : goal.overflow_cast-phase
overflow_cast-phase g c = let small = place_fits c.phases_with_threads.ensures.segments c.args.segments.now c.args.rig.works.driver.script c.loop-phase.rig.works.driver.script c.requires.segments c.loop-phase.invariant.stays.script c.loop-phase.phase c.loop-phase-test.true (record { period = 0; is_freewheel = false; cycles = 0 }) c.loop-phase.invariant.settled.sound.one.lawful in omega (arith, small)

pub run_phase-next-requires-clause-there : goal.run_phase-next-requires-clause-there
run_phase-next-requires-clause-there g c κs within = segment_there c.phases_with_threads.ensures.segments c.args.segments.now c.args.rig.works.driver.script c.loop-phase.rig.works.driver.script c.requires.segments c.loop-phase.invariant.stays.script c.loop-phase.phase c.loop-phase-test.true (record { period = 0; is_freewheel = false; cycles = 0 })

pub loop-phase-init : goal.loop-phase-init
loop-phase-init g c = record {
  ran = c.requires.ran;
  settled = c.requires.settled;
  at = λ given at. at;
  within = omega arith;
  stays = stays-refl g.G.Guest.sound {S = g.row.S.Denot} {W = g.row.W.Denot} {G = g.row.G.Denot} c.args.rig.works c.requires.files;
}

pub loop-phase-preserved : goal.loop-phase-preserved
loop-phase-preserved g c = record {
  ran = (ran-on c.phases_with_threads.ensures.behind (seen g.G.Guest.sound {S = g.row.S.Denot} {W = g.row.W.Denot} {G = g.row.G.Denot} c.loop-phase.rig.works) (seen g.G.Guest.sound {S = g.row.S.Denot} {W = g.row.W.Denot} {G = g.row.G.Denot} c.run_phase-next.result.0.works) c.loop-phase.phase (get_or c.args.segments.now c.loop-phase.phase (record { period = 0; is_freewheel = false; cycles = 0 })) (of-phase c.phases_with_threads.ensures.segments c.loop-phase.rig.works.driver.script c.loop-phase.rig.works.driver.script c.loop-phase.phase (get_or c.args.segments.now c.loop-phase.phase (record { period = 0; is_freewheel = false; cycles = 0 })) refl (segment_there c.phases_with_threads.ensures.segments c.args.segments.now c.args.rig.works.driver.script c.loop-phase.rig.works.driver.script c.requires.segments c.loop-phase.invariant.stays.script c.loop-phase.phase c.loop-phase-test.true (record { period = 0; is_freewheel = false; cycles = 0 }))) c.loop-phase.invariant.settled c.loop-phase.invariant.ran (at-ok c.run_phase-next.result.1 _ c.in-Ok.is c.run_phase-next.ensures.whole)).1;
  settled = (ran-on c.phases_with_threads.ensures.behind (seen g.G.Guest.sound {S = g.row.S.Denot} {W = g.row.W.Denot} {G = g.row.G.Denot} c.loop-phase.rig.works) (seen g.G.Guest.sound {S = g.row.S.Denot} {W = g.row.W.Denot} {G = g.row.G.Denot} c.run_phase-next.result.0.works) c.loop-phase.phase (get_or c.args.segments.now c.loop-phase.phase (record { period = 0; is_freewheel = false; cycles = 0 })) (of-phase c.phases_with_threads.ensures.segments c.loop-phase.rig.works.driver.script c.loop-phase.rig.works.driver.script c.loop-phase.phase (get_or c.args.segments.now c.loop-phase.phase (record { period = 0; is_freewheel = false; cycles = 0 })) refl (segment_there c.phases_with_threads.ensures.segments c.args.segments.now c.args.rig.works.driver.script c.loop-phase.rig.works.driver.script c.requires.segments c.loop-phase.invariant.stays.script c.loop-phase.phase c.loop-phase-test.true (record { period = 0; is_freewheel = false; cycles = 0 }))) c.loop-phase.invariant.settled c.loop-phase.invariant.ran (at-ok c.run_phase-next.result.1 _ c.in-Ok.is c.run_phase-next.ensures.whole)).0;
  at = λ given at. ran-at c.phases_with_threads.ensures.at given (seen g.G.Guest.sound {S = g.row.S.Denot} {W = g.row.W.Denot} {G = g.row.G.Denot} c.loop-phase.rig.works) (seen g.G.Guest.sound {S = g.row.S.Denot} {W = g.row.W.Denot} {G = g.row.G.Denot} c.run_phase-next.result.0.works) c.loop-phase.phase (get_or c.args.segments.now c.loop-phase.phase (record { period = 0; is_freewheel = false; cycles = 0 })) (of-phase c.phases_with_threads.ensures.segments c.loop-phase.rig.works.driver.script c.loop-phase.rig.works.driver.script c.loop-phase.phase (get_or c.args.segments.now c.loop-phase.phase (record { period = 0; is_freewheel = false; cycles = 0 })) refl (segment_there c.phases_with_threads.ensures.segments c.args.segments.now c.args.rig.works.driver.script c.loop-phase.rig.works.driver.script c.requires.segments c.loop-phase.invariant.stays.script c.loop-phase.phase c.loop-phase-test.true (record { period = 0; is_freewheel = false; cycles = 0 }))) (subst (λ (s : Script). IsSome s.header.threads) (sym c.loop-phase.invariant.stays.script) c.requires.threads) c.loop-phase.invariant.settled (c.loop-phase.invariant.at given at) (at-ok c.run_phase-next.result.1 _ c.in-Ok.is c.run_phase-next.ensures.whole);
  within = let low = c.loop-phase-test.true in omega (arith, low);
  stays = stays-trans g.G.Guest.sound {S = g.row.S.Denot} {W = g.row.W.Denot} {G = g.row.G.Denot} c.args.rig.works c.loop-phase.rig.works c.run_phase-next.result.0.works c.loop-phase.invariant.stays c.run_phase-next.ensures.stays;
}

pub returns-in-Err-clause-fault : goal.returns-in-Err-clause-fault
returns-in-Err-clause-fault g c =
    let fault = at-err c.run_phase-next.result.1 _ c.in-Err.is c.run_phase-next.ensures.fault in
    (fault.0, λ given at. stands-failed g.G.Guest.sound c.phases_with_threads.ensures.failed c.phases_with_threads.ensures.unfinished given (seen g.G.Guest.sound {S = g.row.S.Denot} {W = g.row.W.Denot} {G = g.row.G.Denot} c.loop-phase.rig.works) (parts_of {S = g.row.S.Denot} {W = g.row.W.Denot} {G = g.row.G.Denot} c.run_phase-next.result.0.works) c.loop-phase.phase (get_or c.args.segments.now c.loop-phase.phase (record { period = 0; is_freewheel = false; cycles = 0 })).cycles fault.0 (get_or c.args.segments.now c.loop-phase.phase (record { period = 0; is_freewheel = false; cycles = 0 })).is_freewheel (c.loop-phase.invariant.at given at) (subst (λ (s : Script). IsSome s.header.threads) (sym c.loop-phase.invariant.stays.script) c.requires.threads) fault.1 c.run_phase-next.ensures.stays.files)

pub returns-in-Err-clause-come : goal.returns-in-Err-clause-come
returns-in-Err-clause-come g c =
    let fault = at-err c.run_phase-next.result.1 _ c.in-Err.is c.run_phase-next.ensures.fault in
    subst (λ (s : Script). HasCome s c.run_phase-next.result.0.works.desk.history c.run_phase-next.result.0.works.driver.numbers) (sym c.run_phase-next.ensures.stays.script)
    (come-failed c.phases_with_threads.ensures.come (seen g.G.Guest.sound {S = g.row.S.Denot} {W = g.row.W.Denot} {G = g.row.G.Denot} c.loop-phase.rig.works) (seen g.G.Guest.sound {S = g.row.S.Denot} {W = g.row.W.Denot} {G = g.row.G.Denot} c.run_phase-next.result.0.works) c.loop-phase.phase fault.0 (get_or c.args.segments.now c.loop-phase.phase (record { period = 0; is_freewheel = false; cycles = 0 }))
    (of-phase c.phases_with_threads.ensures.segments c.loop-phase.rig.works.driver.script c.loop-phase.rig.works.driver.script c.loop-phase.phase (get_or c.args.segments.now c.loop-phase.phase (record { period = 0; is_freewheel = false; cycles = 0 })) refl (segment_there c.phases_with_threads.ensures.segments c.args.segments.now c.args.rig.works.driver.script c.loop-phase.rig.works.driver.script c.requires.segments c.loop-phase.invariant.stays.script c.loop-phase.phase c.loop-phase-test.true (record { period = 0; is_freewheel = false; cycles = 0 })))
    c.loop-phase.invariant.ran fault.1)

pub returns-in-Err-clause-stays : goal.returns-in-Err-clause-stays
returns-in-Err-clause-stays g c = stays-trans g.G.Guest.sound {S = g.row.S.Denot} {W = g.row.W.Denot} {G = g.row.G.Denot} c.args.rig.works c.loop-phase.rig.works c.run_phase-next.result.0.works c.loop-phase.invariant.stays c.run_phase-next.ensures.stays

pub returns-in-Err-clause-read : goal.returns-in-Err-clause-read
returns-in-Err-clause-read g c is = source-behind g.G.Guest.sound (parts_of {S = g.row.S.Denot} {W = g.row.W.Denot} {G = g.row.G.Denot} c.args.rig.works) (parts_of {S = g.row.S.Denot} {W = g.row.W.Denot} {G = g.row.G.Denot} c.loop-phase.rig.works) (parts_of {S = g.row.S.Denot} {W = g.row.W.Denot} {G = g.row.G.Denot} c.run_phase-next.result.0.works) c.loop-phase.invariant.stays (c.run_phase-next.ensures.read (c.in-Err.is ∙ is))

pub returns-in-Err-clause-write : goal.returns-in-Err-clause-write
returns-in-Err-clause-write g c is = rose-behind (held {S = g.row.S.Denot} {W = g.row.W.Denot} {G = g.row.G.Denot} c.args.rig.works) (held {S = g.row.S.Denot} {W = g.row.W.Denot} {G = g.row.G.Denot} c.loop-phase.rig.works) (held {S = g.row.S.Denot} {W = g.row.W.Denot} {G = g.row.G.Denot} c.run_phase-next.result.0.works) c.loop-phase.invariant.stays.later (c.run_phase-next.ensures.write (c.in-Err.is ∙ is))

pub returns-clause-ran : goal.returns-clause-ran
returns-clause-ran g c =
    let count = ap length c.requires.segments ∙ c.phases_with_threads.ensures.count c.args.rig.works.driver.script ∙ ap (λ (s : Script). length (phases s)) (sym c.loop-phase.invariant.stays.script) in
    let all : c.loop-phase.phase ≡ length (phases c.loop-phase.rig.works.driver.script) = omega (arith, count, c.loop-phase.invariant.within, c.loop-phase-test.false) in
    subst (λ n. RanPhases (seen g.G.Guest.sound {S = g.row.S.Denot} {W = g.row.W.Denot} {G = g.row.G.Denot} c.loop-phase.rig.works) n) all c.loop-phase.invariant.ran

pub returns-clause-at : goal.returns-clause-at
returns-clause-at g c given at =
    let count = ap length c.requires.segments ∙ c.phases_with_threads.ensures.count c.args.rig.works.driver.script ∙ ap (λ (s : Script). length (phases s)) (sym c.loop-phase.invariant.stays.script) in
    let all : c.loop-phase.phase ≡ length (phases c.loop-phase.rig.works.driver.script) = omega (arith, count, c.loop-phase.invariant.within, c.loop-phase-test.false) in
    subst (λ n. AtPhase (seen g.G.Guest.sound {S = g.row.S.Denot} {W = g.row.W.Denot} {G = g.row.G.Denot} c.loop-phase.rig.works) given n) all (c.loop-phase.invariant.at given at)
