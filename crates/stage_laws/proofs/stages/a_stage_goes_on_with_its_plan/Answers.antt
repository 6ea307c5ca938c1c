use Rattle.stage_laws.proofs.GoingLemmas.{casts-on}
use Rattle.stage_laws.proofs.stages.a_stage_goes_on_with_its_plan.Goals as goal

pub returns : goal.returns
returns c sounding last plan old new moment period planned_last planned base changes wiring seating periods unfed idle staffed goes =
    (casts-on sounding) last plan planned_last planned base changes old new moment period wiring seating periods unfed idle staffed goes
