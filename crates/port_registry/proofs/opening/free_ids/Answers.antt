use Rattle.std.proofs.Common.{◌≡◌, subst, arith}
use Rattle.port_registry.proofs.OpeningLemmas.{AreBelow, AreBelow-more, AreFree-all}
use Rattle.port_registry.proofs.opening.free_ids.Goals as goal

pub loop-id-preserved : goal.loop-id-preserved
loop-id-preserved c = rw c.push.ensures.items (AreBelow-more _ _ (omega arith) c.loop-id.invariant)

pub returns : goal.returns
returns c =
    let all : c.loop-id.id ≡ 65 = omega arith in
    AreFree-all _ (subst (λ n. AreBelow c.loop-id.free.items n) all c.loop-id.invariant)
