use Rattle.std.proofs.Common.{◌≡◌, ◌≤◌, ℕ, List, ap, arith, length, subst, take}
use Rattle.std.specs.Prelude.{string_bytes}
use Rattle.cycle_plan.specs.Graphs.{state_of}
use Rattle.session_model.specs.Grammar.{Spells}
use Rattle.session_model.specs.Scripts.{Script, turns}
use Rattle.report_reader.specs.declared.rows.CallLine.{CallLine}
use Rattle.session_graph.specs.Askings.{Asking}
use Rattle.session_graph.specs.Files.{IfBytes}
use Rattle.session_graph.specs.Graphs.{HasFault, IsTextOf}
use Rattle.session_graph.specs.Told.{IsUsed}
use Rattle.session_graph.specs.declared.faults.GraphFault.TheVariants.{ReadFault}
use Rattle.session_graph.proofs.FileLemmas.{kept-err, passed-on}
use Rattle.session_graph.proofs.TopLemmas.{front-fault, lacks-report, replay-fault-at, shown}
use Rattle.session_graph.proofs.top.text.Goals as goal

-- the cycle is one of the script's
within : (cycle asked count : ℕ) (script : Script) → cycle ≤ count → count ≡ length (turns script) → cycle ≡ asked → asked ≤ length (turns script)
within cycle asked count script few same is = omega (arith, few, same, is)

pub returns-in_err-told-clause-fault : goal.returns-in_err-told-clause-fault
returns-in_err-told-clause-fault g c =
    let spelled = subst (λ (asking : Asking). IfBytes (g.H.Host.files c.args.host.now) asking.script (λ bytes. Spells (take 1048577 bytes) c.in_ok-script.script)) c.asked.view_is c.in_ok-script.ensures.script in
    kept-err c.from_residual-in_err-told.result _ (HasFault (g.H.Host.files c.args.host.now) c.args.asked.now) c.from_residual-in_err-told.ensures.1
    (front-fault (g.H.Host.files c.args.host.now) (g.H.Host.files c.read_script.new.host) c.in_ok-script.ensures.files c.args.asked.now c.in_ok-script.script spelled
    (within c.asked.inside.cycle c.args.asked.now.cycle c.cycles_of.result c.in_ok-script.script c.if-asked-cycles_of.false c.cycles_of.ensures (ap (λ (asking : Asking). asking.cycle) c.asked.view_is)) _ c.in_err-told.ensures.fault)

pub returns-in_err-told-clause-read : goal.returns-in_err-told-clause-read
returns-in_err-told-clause-read g c is =
    let spelled = subst (λ (asking : Asking). IfBytes (g.H.Host.files c.args.host.now) asking.script (λ bytes. Spells (take 1048577 bytes) c.in_ok-script.script)) c.asked.view_is c.in_ok-script.ensures.script in
    lacks-report (g.H.Host.files c.args.host.now) (g.H.Host.files c.read_script.new.host) c.in_ok-script.ensures.files c.args.asked.now c.in_ok-script.script spelled
    (within c.asked.inside.cycle c.args.asked.now.cycle c.cycles_of.result c.in_ok-script.script c.if-asked-cycles_of.false c.cycles_of.ensures (ap (λ (asking : Asking). asking.cycle) c.asked.view_is)) _ _ _ c.in_ok-script.ensures.kept
    (c.in_err-told.ensures.read (passed-on c.from_residual-in_err-told.result _ ReadFault c.from_residual-in_err-told.ensures.1 is))

pub returns-in_err-graph-clause-fault : goal.returns-in_err-graph-clause-fault
returns-in_err-graph-clause-fault g c =
    let spelled = subst (λ (asking : Asking). IfBytes (g.H.Host.files c.args.host.now) asking.script (λ bytes. Spells (take 1048577 bytes) c.in_ok-script.script)) c.asked.view_is c.in_ok-script.ensures.script in
    kept-err c.from_residual-in_err-graph.result _ (HasFault (g.H.Host.files c.args.host.now) c.args.asked.now) c.from_residual-in_err-graph.ensures.1
    (replay-fault-at (g.H.Host.files c.args.host.now) (g.H.Host.files c.read_script.new.host) c.in_ok-script.ensures.files c.args.asked.now c.in_ok-script.script spelled
    (within c.asked.inside.cycle c.args.asked.now.cycle c.cycles_of.result c.in_ok-script.script c.if-asked-cycles_of.false c.cycles_of.ensures (ap (λ (asking : Asking). asking.cycle) c.asked.view_is))
    c.in_ok-told.told.calls.items c.in_ok-told.told.cycle c.in_ok-told.ensures.cycle c.in_ok-told.ensures.front _ c.deref.result.now c.asked.inside.cycle c.deref.ensures.value
    (ap (λ (asking : Asking). asking.cycle) c.asked.view_is) c.in_err-graph.ensures.fault)

pub returns-clause-shown : goal.returns-clause-shown
returns-clause-shown g c =
    let spelled = subst (λ (asking : Asking). IfBytes (g.H.Host.files c.args.host.now) asking.script (λ bytes. Spells (take 1048577 bytes) c.in_ok-script.script)) c.asked.view_is c.in_ok-script.ensures.script in
    shown (g.H.Host.files c.args.host.now) (g.H.Host.files c.read_script.new.host) c.in_ok-script.ensures.files c.args.asked.now c.in_ok-script.script spelled
    (within c.asked.inside.cycle c.args.asked.now.cycle c.cycles_of.result c.in_ok-script.script c.if-asked-cycles_of.false c.cycles_of.ensures (ap (λ (asking : Asking). asking.cycle) c.asked.view_is))
    c.in_ok-told.told.calls.items c.in_ok-told.told.cycle c.in_ok-told.ensures.cycle c.in_ok-told.ensures.front (state_of c.in_ok-graph.graph) (string_bytes c.in_ok-text.text)
    (subst (λ (lines : List CallLine). IsUsed c.in_ok-script.script lines c.in_ok-told.told.cycle.number (state_of c.in_ok-graph.graph)) c.deref.ensures.value c.in_ok-graph.ensures.used)
    (subst (λ (asking : Asking). IsTextOf asking.dot c.in_ok-told.told.cycle (state_of c.in_ok-graph.graph) (string_bytes c.in_ok-text.text)) c.asked.view_is c.in_ok-text.ensures)
