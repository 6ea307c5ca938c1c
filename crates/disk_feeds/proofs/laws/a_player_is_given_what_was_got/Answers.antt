use Rattle.disk_feeds.proofs.GivenLemmas.{given-now}
use Rattle.disk_feeds.proofs.laws.a_player_is_given_what_was_got.Goals as goal

pub returns : goal.returns
returns c = given-now
