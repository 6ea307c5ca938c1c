use Rattle.std.proofs.Common.{length, refl}
use Rattle.session_laws.proofs.ActivationLemmas.{AllSequential-quiet, AllValues-quiet}
use Rattle.session_laws.proofs.machine.quiet_is_sequential.Goals as goal

pub returns : goal.returns
returns g c = record {
  memories = λ after gives links before machine are consistent quiet benches right. AllSequential-quiet after gives links before (length machine.places) are 0 machine refl consistent quiet benches right;
  values = λ after gives links before machine are consistent quiet benches right. AllValues-quiet after gives links before (length machine.places) are 0 machine refl consistent quiet benches right;
}
