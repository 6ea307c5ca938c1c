use Rattle.thread_laws.proofs.FaultPhaseLemmas.{StandsUnfinished-phase}
use Rattle.thread_laws.proofs.faults.a_phase_that_fails_leaves_fronts.Goals as goal

pub returns : goal.returns
returns c = λ given session after done many kept freewheel at threads fault.
    StandsUnfinished-phase c.accepted_of_legal.ensures.calls c.players_put_their_files.ensures given session after done many kept freewheel at threads fault
