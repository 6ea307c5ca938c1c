use Rattle.play_words.proofs.PlayLemmas.{one_play}
use Rattle.play_words.proofs.laws.words_name_one_play.Goals as goal

pub returns : goal.returns
returns c = one_play
