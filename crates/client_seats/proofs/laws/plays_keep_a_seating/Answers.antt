use Rattle.client_seats.proofs.PlayLemmas.{IsSeating-played}
use Rattle.client_seats.proofs.laws.plays_keep_a_seating.Goals as goal

pub returns : goal.returns
returns c = IsSeating-played
