use Rattle.bench_rack.proofs.WholeLemmas.{whole-fresh}
use Rattle.bench_rack.proofs.racks.Rack.new.Goals as goal

pub invariant_of-result : goal.invariant_of-result
invariant_of-result g c =
    whole-fresh c.in_ok-benches.benches.items c.args.kinds.now c.args.period c.args.links c.in_ok-spare.spare c.in_ok-spare_links.spare_links c.in_ok-benches.ensures
    c.in_ok-spare.ensures.0 c.in_ok-spare.ensures.1 c.in_ok-spare_links.ensures.0 c.in_ok-spare_links.ensures.1
