use Rattle.midi_stage.proofs.HeardLemmas.{HearsPlan-stage}
use Rattle.midi_stage.proofs.laws.a_stage_hears_its_plan.Goals as goal

pub returns : goal.returns
returns c old new plan moment period p before h = HearsPlan-stage old new plan moment period p before h (λ a b m n e. c.births_are_apart.ensures plan a b p m n e)
