use Rattle.thread_laws.proofs.WholeLemmas.{AreNext-phase, IsSettled-segment, KeepsOwn-segment}
use Rattle.thread_laws.proofs.parts.a_phase_leaves_the_parts.Goals as goal

pub returns-clause-next : goal.returns-clause-next
returns-clause-next c = AreNext-phase

pub returns-clause-settled : goal.returns-clause-settled
returns-clause-settled c = λ session after done many freewheel settled next segment. IsSettled-segment done many freewheel session after settled next segment

pub returns-clause-kept : goal.returns-clause-kept
returns-clause-kept c = λ given session after done many freewheel settled next segment. KeepsOwn-segment done many freewheel session after settled next segment given
