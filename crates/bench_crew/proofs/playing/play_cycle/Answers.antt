use Rattle.std.proofs.Common.{rules, subst, sym}
use Rattle.client_benches.specs.activation.specs.Rounds.{Know}
use Rattle.steal_workers.proofs.Changing.{written}
use Rattle.bench_crew.proofs.playing.play_cycle.Goals as goal

pub returns-in-None-clause-before : goal.returns-in-None-clause-before
returns-in-None-clause-before g c before know =
    let back = written c.args.seats.now.len c.args.seats.now.items c.run_cycle.new.seats (search rules) in
    subst (Know before) (sym back) (c.run_cycle.ensures.before before (subst (Know before) (sym c.as_mut_slice.ensures.value) know))
