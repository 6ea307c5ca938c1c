use Rattle.std.proofs.Common.{arith, ◌≡◌, ◌∷◌, [], length, length-append, ap, subst, sym, List}
use Rattle.std.specs.List.{All}
use Rattle.std.proofs.lemmas.List.Elements.{All-append, All-cons, All-nil}
use Rattle.record_ring.specs.declared.block.Block.{Block}
use Rattle.record_ring.proofs.ends.spares.Goals as goal

pub loop-preserved : goal.loop-preserved
loop-preserved c =
    let P : Block → Type 0 = λ b. b.samples.room ≡ c.args.samples in let spare = c.in_ok-spare.spare in let pushed = c.in_ok-push.ensures.items in record {
      as_many = omega (arith, ap length pushed, length-append c.loop.spares.items (spare ∷ []));
      roomy = subst (λ (l : List Block). All P l) (sym pushed) (All-append P c.loop.spares.items (spare ∷ []) c.loop.invariant.roomy (All-cons P spare [] c.in_ok-spare.ensures.2 (All-nil P)));
    }
