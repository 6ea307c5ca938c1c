use Rattle.client_seats.proofs.PlayLemmas.{IsSameBench-played}
use Rattle.client_seats.proofs.laws.a_play_keeps_the_guest.Goals as goal

pub returns : goal.returns
returns c = IsSameBench-played
