use Rattle.std.proofs.Common.{◌≤◌, List, ℤ, length, sym, subst, arith}
use Rattle.client_benches.proofs.SliceLemmas.{buffer_short}
use Rattle.client_benches.proofs.benches.ClientBench.fill_from.Goals as goal

pub fill-requires : goal.fill-requires
fill-requires g c =
    subst (λ (samples : List ℤ). length samples ≤ 4096) (sym c.buffer-samples.ensures)
    (rw c.deref-parts.ensures (buffer_short c.args.output c.other.inside.parts.value.played.outputs c.other.inside.parts.value.played.period _ (omega (arith, c.other.invariant.1.within, c.other.invariant.0.most))))
