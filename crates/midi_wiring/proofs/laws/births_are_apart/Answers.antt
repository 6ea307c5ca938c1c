use Rattle.midi_wiring.proofs.KeptLemmas.{births-apart}
use Rattle.midi_wiring.proofs.laws.births_are_apart.Goals as goal

pub returns : goal.returns
returns c = births-apart
