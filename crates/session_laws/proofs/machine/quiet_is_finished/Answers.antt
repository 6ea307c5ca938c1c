use Rattle.session_laws.proofs.ActivationLemmas.{AllHome-quiet, AllReleased-quiet}
use Rattle.std.proofs.Common.{length, refl}
use Rattle.session_laws.proofs.machine.quiet_is_finished.Goals as goal

pub returns : goal.returns
returns c = record {
  homes = λ links machine are consistent quiet. AllHome-quiet links (length machine.places) are 0 machine refl consistent quiet;
  links = λ links machine are consistent quiet. AllReleased-quiet links (length machine.places) are 0 machine refl consistent quiet;
}
