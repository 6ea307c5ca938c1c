use Rattle.std.proofs.Common.{◌≡◌, length}
use Rattle.session_model.specs.Texts.{words}
use Rattle.script_words.proofs.bytes.skip_blanks.Given as goal

abbrev pub invariant-loop-rest : goal.invariant-loop-rest
invariant-loop-rest l = words l.rest ≡ words l.fn.line

abbrev pub decreases-loop-rest : goal.decreases-loop-rest
decreases-loop-rest l = length l.rest
