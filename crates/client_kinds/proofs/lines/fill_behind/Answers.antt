use Rattle.std.proofs.Common.{◌∙◌, length, arith}
use Rattle.client_kinds.proofs.LineLemmas.{first-alone}
use Rattle.client_kinds.proofs.lines.fill_behind.Goals as goal

pub returns-then-part-front : goal.returns-then-part-front
returns-then-part-front c = c.copy_from_slice.ensures.after ∙ first-alone (length c.args.part.now) c.args.front.now c.args.back.now c.args.x.now (omega (arith, c.if-part-front.true))
