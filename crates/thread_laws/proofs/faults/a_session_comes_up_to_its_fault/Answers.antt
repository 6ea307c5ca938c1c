use Rattle.thread_laws.proofs.ComingLemmas.{come_behind_fault}
use Rattle.thread_laws.proofs.faults.a_session_comes_up_to_its_fault.Goals as goal

pub returns : goal.returns
returns c =
    come_behind_fault c.numbers_are_published.ensures c.cycles_of_a_phase.ensures.is c.accepted_by_stages.ensures.up_to c.accepted_by_stages.ensures.later c.groups_are_of_their_phase.ensures
    c.later_calls_are_of_later_stages.ensures.group c.later_calls_are_of_later_stages.ensures.phases
