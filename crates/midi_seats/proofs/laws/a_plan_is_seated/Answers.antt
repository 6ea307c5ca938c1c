use Rattle.midi_seats.proofs.KnownLemmas.{seats-have, seats-short}
use Rattle.midi_seats.proofs.laws.a_plan_is_seated.Goals as goal

pub returns-clause-all : goal.returns-clause-all
returns-clause-all c plan seats before after all = seats-have plan.nodes seats before after all

pub returns-clause-some : goal.returns-clause-some
returns-clause-some c plan seats before after some = seats-short plan.nodes seats before after some
