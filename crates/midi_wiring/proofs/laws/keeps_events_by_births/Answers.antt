use Rattle.midi_wiring.proofs.KeptLemmas.{KeepsEvents-wired}
use Rattle.midi_wiring.proofs.laws.keeps_events_by_births.Goals as goal

pub returns : goal.returns
returns c = KeepsEvents-wired
