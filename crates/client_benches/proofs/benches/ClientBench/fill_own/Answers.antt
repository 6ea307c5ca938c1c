use Rattle.std.proofs.Common.{◌≤◌, List, ℤ, length, sym, subst, arith}
use Rattle.client_benches.proofs.SliceLemmas.{buffer_short}
use Rattle.client_benches.proofs.benches.ClientBench.fill_own.Goals as goal

pub fill-requires : goal.fill-requires
fill-requires g c =
    subst (λ (samples : List ℤ). length samples ≤ 4096) (sym c.buffer-samples.ensures)
    (rw c.deref_mut-parts.ensures.value (buffer_short c.args.output c.self.inside.parts.value.played.outputs c.self.inside.parts.value.played.period _ (omega (arith, c.self.invariant.1.within, c.self.invariant.0.most))))
