use Rattle.std.proofs.Common.{◌+◌, ◌++◌, ◌∙◌, ap, arith, drop, take}
use Rattle.std.proofs.lemmas.List.{length-take-le}
use Rattle.client_kinds.proofs.LineLemmas.{filled-more}
use Rattle.client_kinds.proofs.lines.copy_behind.Goals as goal

pub returns-clause-filled : goal.returns-clause-filled
returns-clause-filled c before done =
    filled-more c.args.part.now c.put_at.new.part before c.args.samples.now c.args.filled c.min-count.result c.min-count.ensures
    (c.put_at.ensures
    ∙ ap (λ n. take c.args.filled c.args.part.now ++ (take c.min-count.result c.args.samples.now ++ drop (c.args.filled + n) c.args.part.now)) (length-take-le c.min-count.result c.args.samples.now (omega (arith, c.min-count.ensures))))
    done
