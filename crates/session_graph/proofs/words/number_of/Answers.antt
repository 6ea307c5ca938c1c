use Rattle.std.proofs.Common.{◌≡◌, false, length, arith}
use Rattle.std.specs.Prelude.{◌==◌}
use Rattle.script_words.proofs.WordLemmas.{number-whole}
use Rattle.session_graph.proofs.words.number_of.Goals as goal

pub returns : goal.returns
returns c =
    let some : (length c.args.word.now == 0) ≡ false = grind (arith, c.is_empty.ensures, c.if-is_empty.false) in
    number-whole c.args.word.now c.loop-b.b-index c.loop-b.n c.loop-b-test.false c.loop-b.auto.b-index-end c.if-word-gt-MOST_DIGITS.false some c.loop-b.invariant.digits c.loop-b.invariant.value c.loop-b.invariant.small
