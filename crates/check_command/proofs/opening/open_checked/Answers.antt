use Rattle.std.proofs.Common.{◌∙◌, ℕ, List, None, Err, inl, inr, ap, subst, sym}
use Rattle.std.proofs.lemmas.Result.{err_from_is_err_and}
use Rattle.jack_host.specs.Files.{IsThere}
use Rattle.play_words.specs.Words.{Play}
use Rattle.play_inputs.specs.declared.status.Status.{Status}
use Rattle.play_inputs.specs.declared.status.Status.TheVariants.{ReadFault}
use Rattle.play_inputs.specs.Inputs.{IfBytes, IsScriptOf}
use Rattle.play_inputs.proofs.InputLemmas.{rose-earlier, same_after}
use Rattle.play_inputs.proofs.OpeningLemmas.{counted, one_err}
use Rattle.check_command.specs.Scripts.{CheckScriptStatus}
use Rattle.check_command.proofs.ScriptLemmas.{check-told, fitting-opening, lacks-opening, script-opening}
use Rattle.check_command.proofs.opening.open_checked.Goals as goal

pub returns-in_err-script-clause-fault : goal.returns-in_err-script-clause-fault
returns-in_err-script-clause-fault g c =
    let failed = err_from_is_err_and c.from_residual.result c.from_residual.ensures.1 in
    rw (failed.1, failed.2) (λ scores many.
    script-opening (g.H.Host.files c.args.host.now) scores c.args.names.now c.in_err-script.field-0.0
    (subst (λ (name : List ℕ). CheckScriptStatus (g.H.Host.files c.args.host.now) name c.in_err-script.field-0.0) (ap (λ (p : Play). p.script) c.names.view_is) c.in_err-script.ensures.fault))

pub returns-in_err-script-clause-read : goal.returns-in_err-script-clause-read
returns-in_err-script-clause-read g c = λ e scores many.
    let failed = err_from_is_err_and c.from_residual.result c.from_residual.ensures.1 in
    elim (c.in_err-script.ensures.read (ap (λ (status : Status). Err status) (sym failed.2 ∙ one_err c.from_residual.result failed.0 ReadFault failed.1 e))) [
      | inl rose ↦ inl rose
      | inr none ↦ inr (inl (subst (λ (name : List ℕ). ¬ IsThere (g.H.Host.files c.args.host.now) name) (ap (λ (p : Play). p.script) c.names.view_is) none))
    ]

pub returns-in_err-capture-clause-fault : goal.returns-in_err-capture-clause-fault
returns-in_err-capture-clause-fault g c =
    let failed = err_from_is_err_and c.from_residual-in_err-capture.result c.from_residual-in_err-capture.ensures.1 in
    rw (failed.1, failed.2) (λ scores many.
    let files = g.H.Host.files c.args.host.now in
    let script = c.in_ok-script.script in
    let is = subst (λ (name : List ℕ). IfBytes files name (λ bytes. IsScriptOf bytes script)) (ap (λ (p : Play). p.script) c.names.view_is) c.in_ok-script.ensures.script in
    fitting-opening files scores c.args.names.now script is c.in_ok-script.ensures.decided.1 (g.H.Host.files c.read_decided.new.host) c.read_decided.ensures.files c.args.guests c.in_err-capture.field-0.0 many c.in_err-capture.ensures.fault)

pub returns-in_err-capture-clause-read : goal.returns-in_err-capture-clause-read
returns-in_err-capture-clause-read g c = λ e scores many.
    let files = g.H.Host.files c.args.host.now in
    let play = c.args.names.now in
    let script = c.in_ok-script.script in
    let is = subst (λ (name : List ℕ). IfBytes files name (λ bytes. IsScriptOf bytes script)) (ap (λ (p : Play). p.script) c.names.view_is) c.in_ok-script.ensures.script in
    let failed = err_from_is_err_and c.from_residual-in_err-capture.result c.from_residual-in_err-capture.ensures.1 in
    elim (c.in_err-capture.ensures.read (ap (λ (status : Status). Err status) (sym failed.2 ∙ one_err c.from_residual-in_err-capture.result failed.0 ReadFault failed.1 e))) [
      | inl rose ↦ inl (rose-earlier _ _ _ c.read_decided.ensures.later rose)
      | inr none ↦ inr (lacks-opening files scores play script is c.in_ok-script.ensures.decided.1 (g.H.Host.files c.read_decided.new.host) c.read_decided.ensures.files (counted script scores play c.args.guests None many none.0) none.1)
    ]

pub returns-clause-opened : goal.returns-clause-opened
returns-clause-opened g c = λ scores many.
    let files = g.H.Host.files c.args.host.now in
    let play = c.args.names.now in
    let script = c.in_ok-script.script in
    let is = subst (λ (name : List ℕ). IfBytes files name (λ bytes. IsScriptOf bytes script)) (ap (λ (p : Play). p.script) c.names.view_is) c.in_ok-script.ensures.script in
    check-told files scores play script is c.in_ok-script.ensures.decided.1 (g.H.Host.files c.read_decided.new.host) c.read_decided.ensures.files (counted script scores play c.args.guests None many c.in_ok-capture.ensures.same)
    c.in_ok-capture.capture.left c.in_ok-capture.ensures.opened

pub returns-clause-files : goal.returns-clause-files
returns-clause-files g c = same_after _ _ _ c.read_decided.ensures.files c.open_fitting.ensures.files
