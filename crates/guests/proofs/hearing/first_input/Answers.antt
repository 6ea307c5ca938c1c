use Rattle.std.proofs.Common.{ap, arith}
use Rattle.session_model.specs.Samples.{sample}
use Rattle.guests.proofs.HearingLemmas.{first_heard}
use Rattle.guests.proofs.hearing.first_input.Goals as goal

pub returns-else-ports-eq0 : goal.returns-else-ports-eq0
returns-else-ports-eq0 c = λ i. ap (λ x. sample x i) (first_heard c.args.ports.inputs c.args.ports.period c.args.input.now (omega (arith, c.if-ports-eq0.false)))
