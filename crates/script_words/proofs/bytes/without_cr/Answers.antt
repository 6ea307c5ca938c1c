use Rattle.std.proofs.Common.{◌≡◌, ◌+◌, ◌-◌, length, arith, sym}
use Rattle.script_words.proofs.WordLemmas.{cr-dropped, cr-none}
use Rattle.script_words.proofs.bytes.without_cr.Goals as goal

pub returns-then-line-last-eq13 : goal.returns-then-line-last-eq13
returns-then-line-last-eq13 c =
    let n : length c.args.line.now ≡ (length c.args.line.now - 1) + 1 = grind (arith, c.is_empty.ensures, c.if-is_empty.false) in
    sym (cr-dropped c.args.line.now (length c.args.line.now - 1) n c.if-line-last-eq13.true)

pub returns : goal.returns
returns c =
    let n : length c.args.line.now ≡ (length c.args.line.now - 1) + 1 = grind (arith, c.is_empty.ensures, c.if-is_empty.false) in
    sym (cr-none c.args.line.now (length c.args.line.now - 1) n c.if-line-last-eq13.false)
