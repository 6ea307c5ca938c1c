use Rattle.std.proofs.Common.{length}
use Rattle.session_model.specs.Scripts.{phases}
use Rattle.serial_laws.proofs.EndLemmas.{Ends-ended, RanPhases-ended}
use Rattle.serial_laws.proofs.endings.an_end_is_whole.Goals as goal

pub returns-clause-ends : goal.returns-clause-ends
returns-clause-ends c = Ends-ended c.a_meeting_changes_nothing.ensures.keeps c.all_is_played_back.ensures c.blocks_kept_are_recorded.ensures.samples c.cycles_of_phases.ensures

pub returns-clause-ran : goal.returns-clause-ran
returns-clause-ran c = λ session after sound ran ends. RanPhases-ended session after sound (length (phases session.script)) ran ends
