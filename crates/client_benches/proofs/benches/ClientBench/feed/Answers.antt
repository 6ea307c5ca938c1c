use Rattle.std.proofs.Common.{rules}
use Rattle.client_benches.proofs.benches.ClientBench.feed.Goals as goal

pub invariant_of-self : goal.invariant_of-self
invariant_of-self g c = rw (c.feed.ensures, c.deref_mut.ensures.value) (search rules)
