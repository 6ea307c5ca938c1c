use Rattle.std.proofs.Common.{ap, length, string_bytes, ◌∙◌}
use Rattle.play_words.proofs.PairLemmas.{halves}
use Rattle.play_words.specs.Words.{Play}
use Rattle.play_words.proofs.words.Names.records.Goals as goal

pub returns-clause-value : goal.returns-clause-value
returns-clause-value c = halves string_bytes c.self.inside.records.now ∙ ap (λ (play : Play). length play.records) c.self.view_is
