use Rattle.std.proofs.lemmas.List.Elements.{All-drop}
use Rattle.transport.specs.Standings.{HasTarget}
use Rattle.plan_transport.proofs.ScriptLemmas.{HasTarget-calls}
use Rattle.plan_transport.proofs.laws.calls_have_targets.Goals as goal

pub returns-clause-all : goal.returns-clause-all
returns-clause-all c = HasTarget-calls

pub returns-clause-adopted : goal.returns-clause-adopted
returns-clause-adopted c script changes from is of = All-drop HasTarget from changes (HasTarget-calls script changes is of)
