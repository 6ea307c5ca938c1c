use Rattle.play_words.proofs.CheckLemmas.{one_check}
use Rattle.play_words.proofs.laws.words_name_one_check.Goals as goal

pub returns : goal.returns
returns c = one_check
