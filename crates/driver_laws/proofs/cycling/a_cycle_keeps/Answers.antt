use Rattle.driver_laws.proofs.StepLemmas.{Keeps-next, KeepsBut-next}
use Rattle.driver_laws.proofs.cycling.a_cycle_keeps.Goals as goal

pub returns-clause-whole : goal.returns-clause-whole
returns-clause-whole c = λ driver after course steps plays writes written fits keeps. Keeps-next driver after steps course fits plays keeps writes written

pub returns-clause-front : goal.returns-clause-front
returns-clause-front c = λ driver after course steps plays written fits keeps. KeepsBut-next driver after steps course fits plays keeps written
