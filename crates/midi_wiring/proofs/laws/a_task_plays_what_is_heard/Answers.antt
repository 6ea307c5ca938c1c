use Rattle.midi_wiring.proofs.TaskLemmas.{PlaysTask-heard}
use Rattle.midi_wiring.proofs.laws.a_task_plays_what_is_heard.Goals as goal

pub returns : goal.returns
returns c course at plan old new n given planned graph lists hears low hands = PlaysTask-heard course at plan old new n given planned graph lists hears low hands
