use Rattle.midi_seats.proofs.SeatLemmas.{seat-kind, seat-was, seat-within}
use Rattle.midi_seats.proofs.laws.a_seat_is_its_clients.Goals as goal

pub returns-clause-within : goal.returns-clause-within
returns-clause-within c = seat-within

pub returns-clause-kind : goal.returns-clause-kind
returns-clause-kind c = seat-kind

pub returns-clause-was : goal.returns-clause-was
returns-clause-was c = seat-was
