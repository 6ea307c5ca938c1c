use Rattle.std.proofs.Common.{◌≡◌, ◌∙◌, List, ℕ, None, Some, false, inl, inr, ap, refl, subst, sym}
use Rattle.std.specs.Prelude.{IfOk}
use Rattle.jack_types.specs.declared.scripts.Header.{Header}
use Rattle.jack_host.specs.Files.{IsThere}
use Rattle.play_words.specs.Words.{Play}
use Rattle.play_inputs.specs.Captures.{IsOpened}
use Rattle.play_inputs.proofs.DifferenceLemmas.{all_fit}
use Rattle.play_inputs.proofs.OpeningLemmas.{capture-fits, named, ok-any}
use Rattle.play_inputs.proofs.inputs.open_fitting.Goals as goal

pub returns-in-Some-clause-fault : goal.returns-in-Some-clause-fault
returns-in-Some-clause-fault g c =
    inl (c.in-Some.difference, refl, named c.args.script.now c.args.names.now c.args.guests c.records.result c.disks.result c.difference_of.result (Some c.in-Some.difference) c.difference_of.ensures c.records.ensures.value c.disks.ensures.value c.in-Some.is)

pub returns-clause-opened : goal.returns-clause-opened
returns-clause-opened g c =
    subst (λ (header : Header). IfOk c.open_capture.result (λ wave. IsOpened (g.H.Host.files c.args.host.now) c.args.names.now.capture header wave.left)) c.header-header.ensures.value
    (subst (λ (name : List ℕ). IfOk c.open_capture.result (λ wave. IsOpened (g.H.Host.files c.args.host.now) name c.header-header.result wave.left)) (ap (λ (p : Play). p.capture) c.names.view_is) c.open_capture.ensures.opened)

pub returns-clause-same : goal.returns-clause-same
returns-clause-same g c =
    ok-any c.open_capture.result (named c.args.script.now c.args.names.now c.args.guests c.records.result c.disks.result c.difference_of.result None c.difference_of.ensures c.records.ensures.value c.disks.ensures.value c.in_default.is)

pub returns-clause-fits : goal.returns-clause-fits
returns-clause-fits g c =
    let all = all_fit c.args.script.now c.args.guests c.records.result c.disks.result (sym c.difference_of.ensures ∙ c.in_default.is) in
    ok-any c.open_capture.result (all.0, all.1 ∙ c.records.ensures.value, all.2 ∙ c.disks.ensures.value)

pub returns-clause-format : goal.returns-clause-format
returns-clause-format g c =
    subst (λ (header : Header). IfOk c.open_capture.result (λ wave. (wave.format.channels ≡ header.capture) × (wave.failed ≡ false))) c.header-header.ensures.value c.open_capture.ensures.format

pub returns-clause-fault : goal.returns-clause-fault
returns-clause-fault g c =
    capture-fits c.open_capture.result (g.H.Host.files c.args.host.now) c.args.names.now c.args.guests c.args.script.now _ c.header-header.result
    (named c.args.script.now c.args.names.now c.args.guests c.records.result c.disks.result c.difference_of.result None c.difference_of.ensures c.records.ensures.value c.disks.ensures.value c.in_default.is)
    (ap (λ (p : Play). p.capture) c.names.view_is) c.header-header.ensures.value c.open_capture.ensures.fault

pub returns-clause-read : goal.returns-clause-read
returns-clause-read g c = λ e.
    let fits = named c.args.script.now c.args.names.now c.args.guests c.records.result c.disks.result c.difference_of.result None c.difference_of.ensures c.records.ensures.value c.disks.ensures.value c.in_default.is in
    elim (c.open_capture.ensures.read e) [
      | inl rose ↦ inl rose
      | inr none ↦ inr (fits, subst (λ (name : List ℕ). ¬ IsThere (g.H.Host.files c.args.host.now) name) (ap (λ (p : Play). p.capture) c.names.view_is) none)
    ]
