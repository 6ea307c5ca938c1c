use Rattle.midi_wiring.proofs.TaskLemmas.{BringsCarried-heard}
use Rattle.midi_wiring.proofs.laws.a_feedback_edge_brings_what_was_carried.Goals as goal

pub returns : goal.returns
returns c last now old new moment frames goes carried hears = BringsCarried-heard last now old new moment frames carried hears (c.keeps_events_by_births.ensures last now goes)
