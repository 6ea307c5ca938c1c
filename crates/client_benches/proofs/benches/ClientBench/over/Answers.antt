use Rattle.std.proofs.Common.{rules}
use Rattle.client_benches.proofs.InsideLemmas.{reached-none}
use Rattle.client_benches.proofs.benches.ClientBench.over.Goals as goal

pub invariant_of-result : goal.invariant_of-result
invariant_of-result g c = rw c.in-Ok.ensures.ok (search rules, search rules, search rules, reached-none c.args.space.rooms.items c.requires.rooms)
