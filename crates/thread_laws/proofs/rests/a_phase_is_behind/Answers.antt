use Rattle.thread_laws.proofs.WholeLemmas.{AtPhase-segment, RanPhases-segment}
use Rattle.thread_laws.proofs.rests.a_phase_is_behind.Goals as goal

pub returns-clause-ran : goal.returns-clause-ran
returns-clause-ran c = RanPhases-segment c.a_phase_was_run.ensures

pub returns-clause-at : goal.returns-clause-at
returns-clause-at c = AtPhase-segment c.accepted_of_legal.ensures.calls c.a_phase_was_run.ensures c.ends_that_met_tell.ensures.rest c.a_segment_misses_behind_its_rings.ensures
