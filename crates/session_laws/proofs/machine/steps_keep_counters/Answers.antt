use Rattle.session_laws.proofs.ActivationLemmas.{IsConsistent-fresh, IsConsistent-moved, length-moved}
use Rattle.session_laws.proofs.machine.steps_keep_counters.Goals as goal

pub returns : goal.returns
returns c = record {
  first = IsConsistent-fresh;
  step = λ links nodes are seats machine move size consistent allowed. IsConsistent-moved links nodes are seats machine move size consistent allowed;
  nodes = λ links machine move. length-moved links machine move;
}
