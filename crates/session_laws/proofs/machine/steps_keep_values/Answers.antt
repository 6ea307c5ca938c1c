use Rattle.std.proofs.Common.{length, refl}
use Rattle.session_laws.proofs.ActivationLemmas.{given_to-values, IsRight-fresh, IsRight-moved}
use Rattle.session_laws.proofs.machine.steps_keep_values.Goals as goal

pub returns : goal.returns
returns g c = record {
  given = λ after gives links before nodes are n. given_to-values after gives links before nodes are n;
  first = λ after gives links before nodes are benches h. IsRight-fresh after gives links before nodes are benches h;
  step = λ after gives links before machine are seats consistent move benches next allowed does right.
      IsRight-moved after gives links before (length machine.places) are seats machine refl consistent move benches next allowed does right;
}
