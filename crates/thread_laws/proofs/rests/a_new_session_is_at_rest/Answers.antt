use Rattle.thread_laws.proofs.OpenLemmas.{AtPhase-new, RanPhases-new}
use Rattle.thread_laws.proofs.rests.a_new_session_is_at_rest.Goals as goal

pub returns-clause-ran : goal.returns-clause-ran
returns-clause-ran c = λ session new. RanPhases-new session new c.desk_by_phases.ensures.none

pub returns-clause-at : goal.returns-clause-at
returns-clause-at c = λ session given new.
    AtPhase-new session new c.accepted_of_legal.ensures.calls c.desk_by_phases.ensures.none c.ends_that_met_tell.ensures.rest c.a_new_session_keeps.ensures c.new_players_play_their_files.ensures given
