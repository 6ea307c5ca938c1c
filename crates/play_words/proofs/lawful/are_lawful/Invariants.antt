use Rattle.std.proofs.Common.{◌<◌, ℕ}
use Rattle.play_words.specs.Lawful.{IsLawfulAt}
use Rattle.play_words.specs.Words.{names_of}
use Rattle.play_words.proofs.lawful.are_lawful.Given as goal

abbrev pub invariant-loop-place : goal.invariant-loop-place
invariant-loop-place l = (k : ℕ) → k < l.place → IsLawfulAt (names_of l.names) k
