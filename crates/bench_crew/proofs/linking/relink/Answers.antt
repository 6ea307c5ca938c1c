use Rattle.std.proofs.Common.{inr, refl}
use Rattle.bench_crew.proofs.ReadyLemmas.{unused-fresh, ready-of}
use Rattle.bench_crew.proofs.linking.relink.Goals as goal

pub reset-requires-clause-over : goal.reset-requires-clause-over
reset-requires-clause-over g c κs within =
    let ready = c.requires.ready in
    inr (unused-fresh c.args.crew.now.links.items ready.before c.args.crew.now.seats c.args.seats.now ready.fresh)

pub returns-clause-ready : goal.returns-clause-ready
returns-clause-ready g c =
    let crew = c.reset.new.self in
    let fresh = c.reset.ensures.fresh in
    ready-of crew.board.shared.table_id c.args.links.now crew.links.items crew.nodes crew.nodes crew.seats crew.seats fresh.0 c.reset.new.seats c.reset.ensures.crew.3 refl refl c.reset.ensures.seats fresh.2
