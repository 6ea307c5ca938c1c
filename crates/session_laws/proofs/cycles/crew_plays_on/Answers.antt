use Rattle.session_laws.proofs.DrivingLemmas.{IsDriven-next}
use Rattle.session_laws.proofs.cycles.crew_plays_on.Goals as goal

pub returns : goal.returns
returns c = λ course k old_nodes old_benches held driven. IsDriven-next course k old_nodes old_benches held driven
