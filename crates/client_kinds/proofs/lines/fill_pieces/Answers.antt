use Rattle.std.proofs.Common.{◌++◌, ◌∙◌, [], arith, length, length-append}
use Rattle.client_kinds.proofs.LineLemmas.{filled-all, filled-none}
use Rattle.client_kinds.proofs.lines.fill_pieces.Goals as goal

pub returns : goal.returns
returns c =
    filled-all c.copy_behind.new.part ((c.args.front.now ++ c.args.back.now) ++ c.args.x.now) c.copy_behind.result (length c.args.part.now)
    (c.copy_behind.ensures.length ∙ c.copy_behind-filled-2.ensures.length ∙ c.copy_behind-filled.ensures.length)
    (omega (arith, c.requires, length-append (c.args.front.now ++ c.args.back.now) c.args.x.now))
    (c.copy_behind.ensures.filled (c.args.front.now ++ c.args.back.now) (c.copy_behind-filled-2.ensures.filled c.args.front.now (c.copy_behind-filled.ensures.filled [] (filled-none c.args.part.now))))
