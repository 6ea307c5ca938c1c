use Rattle.midi_seats.proofs.EnoughLemmas.{enough}
use Rattle.midi_seats.proofs.laws.a_scripts_clients_have_benches.Goals as goal

pub returns : goal.returns
returns c script plan benches of planned known short = enough script plan benches of planned known short
