use Rattle.std.proofs.Common.{◌<◌, length, arith, sym}
use Rattle.script_words.proofs.WordLemmas.{said-first}
use Rattle.script_words.proofs.bytes.is_said.Goals as goal

pub returns : goal.returns
returns c =
    let some : 0 < length c.skip_blanks-rest.result.now = grind (arith, c.is_empty.ensures, c.if-is_empty.false) in
    sym (said-first c.args.line.now c.skip_blanks-rest.result.now c.skip_blanks-rest.ensures.same some (c.skip_blanks-rest.ensures.front some))
