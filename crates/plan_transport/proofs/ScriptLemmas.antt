-- The changes of a script's calls have their targets.
--     HasTarget-calls
use Rattle.std.proofs.Common.{List, All}
use Rattle.jack_types.specs.declared.commands.Change.{Change}
use Rattle.session_model.specs.Grammar.{IsCommand, IsScript}
use Rattle.session_model.specs.Scripts.{Planned, Script, planned}
use Rattle.session_laws.proofs.ListLemmas.{Each-weaker}
use Rattle.transport.specs.Standings.{HasTarget, IsTarget}
use Rattle.transport.proofs.TargetLemmas.{IsTarget-lawful}
use Rattle.task_laws.specs.driver_laws.specs.Keeping.{AreOfCalls}
use Rattle.task_laws.proofs.CallLemmas.{changes-all, planned-lawful}
use Rattle.task_laws.proofs.KindLemmas.{all-each}

pub HasTarget-calls : (script : Script) (changes : List Change) → IsScript script → AreOfCalls script changes → All HasTarget changes
HasTarget-calls script changes is of =
    all-each HasTarget changes (changes-all IsTarget script changes of
    (Each-weaker (λ (plan : Planned). IsCommand script.header plan.call.command) (λ (plan : Planned). IsTarget plan.call.command)
    (λ plan h. IsTarget-lawful script.header plan.call.command h) (planned script) (planned-lawful script is)))
