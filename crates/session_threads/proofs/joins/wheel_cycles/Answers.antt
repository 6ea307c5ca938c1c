use Rattle.std.proofs.Common.{◌≡◌, ◌+◌, suc, true, Err, ◌∙◌, ap, subst, arith}
use Rattle.thread_laws.specs.Segments.{WheeledMany}
use Rattle.session_works.specs.Insides.{beside, held, parts_with, seen_with}
use Rattle.session_works.proofs.StayLemmas.{source-behind, stays-trans}
use Rattle.session_works.proofs.StoreLemmas.{rose-behind}
use Rattle.session_works.proofs.TurningLemmas.{caught, goes-settled}
use Rattle.session_threads.proofs.WheelLemmas.{fails-once, goes-once, goes-run, next-wheel}
use Rattle.session_works.proofs.ResultLemmas.{on-err}
use Rattle.session_threads.proofs.joins.wheel_cycles.Goals as goal

pub cycle-requires-clause-settled : goal.cycle-requires-clause-settled
cycle-requires-clause-settled g c κs within = record { desk = c.requires.settled.desk; settled = c.loop.invariant.settled c.requires.settled.desk c.requires.settled.settled; files = (c.loop.invariant.stays c.requires.settled.desk).files }

pub cycle-requires-clause-left : goal.cycle-requires-clause-left
cycle-requires-clause-left g c κs within = (next-wheel g.G.Guest.sound c.args.driver.now c.loop.driver c.args.cycles c.loop.counter true c.requires.next c.loop-test.true c.loop.invariant.count (c.loop.invariant.stays c.requires.settled.desk).script c.loop.invariant.set).left

pub cycle-requires-clause-kind : goal.cycle-requires-clause-kind
cycle-requires-clause-kind g c κs within = (next-wheel g.G.Guest.sound c.args.driver.now c.loop.driver c.args.cycles c.loop.counter true c.requires.next c.loop-test.true c.loop.invariant.count (c.loop.invariant.stays c.requires.settled.desk).script c.loop.invariant.set).kind

pub cycle-requires-clause-period : goal.cycle-requires-clause-period
cycle-requires-clause-period g c κs within = (next-wheel g.G.Guest.sound c.args.driver.now c.loop.driver c.args.cycles c.loop.counter true c.requires.next c.loop-test.true c.loop.invariant.count (c.loop.invariant.stays c.requires.settled.desk).script c.loop.invariant.set).period

pub loop-preserved : goal.loop-preserved
loop-preserved g c = record {
  wheeled = λ desk settled. let next : suc c.loop.counter ≡ c.loop.counter + 1 = omega arith in subst (λ n. WheeledMany n (seen_with g.G.Guest.sound (beside desk c.args.readers.now.items) c.args.driver.now c.args.recorders.now.items) (seen_with g.G.Guest.sound (beside desk c.cycle.new.readers.items) c.cycle.new.driver c.cycle.new.recorders.items)) next (seen_with g.G.Guest.sound (beside desk c.loop.readers.items) c.loop.driver c.loop.recorders.items, c.loop.invariant.wheeled desk settled, goes-once (seen_with g.G.Guest.sound (beside desk c.loop.readers.items) c.loop.driver c.loop.recorders.items) (seen_with g.G.Guest.sound (beside desk c.cycle.new.readers.items) c.cycle.new.driver c.cycle.new.recorders.items) (c.in_ok-cycle.ensures.goes desk (c.loop.invariant.settled desk settled)));
  settled = λ desk settled. let next = next-wheel g.G.Guest.sound c.args.driver.now c.loop.driver c.args.cycles c.loop.counter true c.requires.next c.loop-test.true c.loop.invariant.count (c.loop.invariant.stays c.requires.settled.desk).script c.loop.invariant.set in goes-settled c.cycles_and_blocks.ensures true (seen_with g.G.Guest.sound (beside desk c.loop.readers.items) c.loop.driver c.loop.recorders.items) (seen_with g.G.Guest.sound (beside desk c.cycle.new.readers.items) c.cycle.new.driver c.cycle.new.recorders.items) (c.loop.invariant.settled desk settled) (record { left = next.left; kind = next.kind }) (c.in_ok-cycle.ensures.goes desk (c.loop.invariant.settled desk settled));
  stays = λ desk. (stays-trans g.G.Guest.sound {S = g.row.S.Denot} {W = g.row.W.Denot} {G = g.row.G.Denot} (record { desk = desk; driver = c.args.driver.now; recorders = c.args.recorders.now; readers = c.args.readers.now }) (record { desk = desk; driver = c.loop.driver; recorders = c.loop.recorders; readers = c.loop.readers }) (record { desk = desk; driver = c.cycle.new.driver; recorders = c.cycle.new.recorders; readers = c.cycle.new.readers }) (c.loop.invariant.stays desk) (c.cycle.ensures.stays desk));
  count = let one = goes-run (seen_with g.G.Guest.sound (beside c.requires.settled.desk c.loop.readers.items) c.loop.driver c.loop.recorders.items) (seen_with g.G.Guest.sound (beside c.requires.settled.desk c.cycle.new.readers.items) c.cycle.new.driver c.cycle.new.recorders.items) (c.in_ok-cycle.ensures.goes c.requires.settled.desk (c.loop.invariant.settled c.requires.settled.desk c.requires.settled.settled)) in let count = c.loop.invariant.count in omega (arith, one, count);
  within = let low = c.loop-test.true in omega (arith, low);
  set = c.cycle.ensures.set ∙ c.loop.invariant.set;
  pairs = λ pairs. c.cycle.ensures.pairs (c.loop.invariant.pairs pairs);
  disks = λ pairs. c.cycle.ensures.disks;
  table = c.cycle.ensures.table ∙ c.loop.invariant.table;
}

pub returns-in_err-cycle-clause-failed : goal.returns-in_err-cycle-clause-failed
returns-in_err-cycle-clause-failed g c desk settled =
    let fails = fails-once (seen_with g.G.Guest.sound (beside desk c.loop.readers.items) c.loop.driver c.loop.recorders.items) (seen_with g.G.Guest.sound (beside desk c.cycle.new.readers.items) c.cycle.new.driver c.cycle.new.recorders.items) (c.in_err-cycle.ensures.fails desk (c.loop.invariant.settled desk settled)) in
    on-err c.from_residual.result (record { kept = fails.0; whole = c.loop.counter; wheeled = seen_with g.G.Guest.sound (beside desk c.loop.readers.items) c.loop.driver c.loop.recorders.items; fewer = c.loop-test.true; wheels = c.loop.invariant.wheeled desk settled; fails = fails.1 })

pub returns-in_err-cycle-clause-stays : goal.returns-in_err-cycle-clause-stays
returns-in_err-cycle-clause-stays g c desk = stays-trans g.G.Guest.sound {S = g.row.S.Denot} {W = g.row.W.Denot} {G = g.row.G.Denot} (record { desk = desk; driver = c.args.driver.now; recorders = c.args.recorders.now; readers = c.args.readers.now }) (record { desk = desk; driver = c.loop.driver; recorders = c.loop.recorders; readers = c.loop.readers }) (record { desk = desk; driver = c.cycle.new.driver; recorders = c.cycle.new.recorders; readers = c.cycle.new.readers }) (c.loop.invariant.stays desk) (c.cycle.ensures.stays desk)

pub returns-in_err-cycle-clause-read : goal.returns-in_err-cycle-clause-read
returns-in_err-cycle-clause-read g c desk is =
    source-behind g.G.Guest.sound (parts_with (beside desk c.args.readers.now.items) c.args.driver.now c.args.recorders.now.items) (parts_with (beside desk c.loop.readers.items) c.loop.driver c.loop.recorders.items) (parts_with (beside desk c.cycle.new.readers.items) c.cycle.new.driver c.cycle.new.recorders.items) (c.loop.invariant.stays desk) (c.cycle.ensures.read desk (c.in_err-cycle.was ∙ ap Err (caught c.from_residual.result c.in_err-cycle.field-0.0 _ c.from_residual.ensures.1 is)))

pub returns-in_err-cycle-clause-write : goal.returns-in_err-cycle-clause-write
returns-in_err-cycle-clause-write g c desk is =
    rose-behind (held {S = g.row.S.Denot} {W = g.row.W.Denot} {G = g.row.G.Denot} (record { desk = desk; driver = c.args.driver.now; recorders = c.args.recorders.now; readers = c.args.readers.now })) (held {S = g.row.S.Denot} {W = g.row.W.Denot} {G = g.row.G.Denot} (record { desk = desk; driver = c.loop.driver; recorders = c.loop.recorders; readers = c.loop.readers })) (held {S = g.row.S.Denot} {W = g.row.W.Denot} {G = g.row.G.Denot} (record { desk = desk; driver = c.cycle.new.driver; recorders = c.cycle.new.recorders; readers = c.cycle.new.readers })) (c.loop.invariant.stays desk).later (c.cycle.ensures.write desk (c.in_err-cycle.was ∙ ap Err (caught c.from_residual.result c.in_err-cycle.field-0.0 _ c.from_residual.ensures.1 is)))

pub returns-clause-wheeled : goal.returns-clause-wheeled
returns-clause-wheeled g c desk settled =
    let all : c.loop.counter ≡ c.args.cycles = omega (arith, c.loop.invariant.within, c.loop-test.false) in
    subst (λ n. WheeledMany n (seen_with g.G.Guest.sound (beside desk c.args.readers.now.items) c.args.driver.now c.args.recorders.now.items) (seen_with g.G.Guest.sound (beside desk c.loop.readers.items) c.loop.driver c.loop.recorders.items)) all (c.loop.invariant.wheeled desk settled)
