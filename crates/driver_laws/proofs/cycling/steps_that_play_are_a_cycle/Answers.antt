use Rattle.driver_laws.specs.Drivers.{content_now}
use Rattle.driver_laws.proofs.CycleLemmas.{CyclesOnce-own, FailsAtWrite-own}
use Rattle.driver_laws.proofs.cycling.steps_that_play_are_a_cycle.Goals as goal

pub returns-clause-ok : goal.returns-clause-ok
returns-clause-ok c = λ driver after steps writes own.
    CyclesOnce-own driver after steps (c.one_client_of_each.ensures after.script.header.capture after.script.header.playback (content_now after)) writes own

pub returns-clause-failed : goal.returns-clause-failed
returns-clause-failed c = λ driver after steps failed own.
    FailsAtWrite-own driver after steps (c.one_client_of_each.ensures after.script.header.capture after.script.header.playback (content_now after)) failed own
