use Rattle.std.proofs.Common.{◌∙◌, ap, rules, sym}
use Rattle.jack_types.specs.declared.files.Format.{Format}
use Rattle.play_inputs.specs.Inputs.{difference_in}
use Rattle.play_inputs.proofs.CaptureLemmas.{difference-told, opened-told, wave-fault-told}
use Rattle.play_inputs.proofs.InputLemmas.{same_after}
use Rattle.play_inputs.proofs.captures.open_capture.Goals as goal

pub returns-in-Err-clause-fault : goal.returns-in-Err-clause-fault
returns-in-Err-clause-fault g c =
    wave-fault-told (g.H.Host.files c.args.host.now) c.args.name.now _ c.args.header.now c.in-Err.fault c.status_of.result c.in-Ok.ensures.bytes c.in-Err.ensures.fault c.status_of.ensures.status

pub returns-in-None-clause-opened : goal.returns-in-None-clause-opened
returns-in-None-clause-opened g c =
    opened-told (g.H.Host.files c.args.host.now) c.args.name.now _ c.args.header.now c.in-Ok-open.wave.format c.in-Ok-open.wave.left
    c.in-Ok.ensures.bytes c.in-Ok-open.ensures.opened c.in-Ok-open.ensures.wave
    (ap (λ (format : Format). difference_in c.args.header.now format) (sym c.format.ensures) ∙ sym c.difference_with.ensures ∙ c.in-None.is)

pub returns-in-Some-clause-fault : goal.returns-in-Some-clause-fault
returns-in-Some-clause-fault g c =
    difference-told (g.H.Host.files c.args.host.now) c.args.name.now _ c.args.header.now c.in-Ok-open.wave.format c.in-Ok-open.wave.left c.in-Some.difference
    c.in-Ok.ensures.bytes c.in-Ok-open.ensures.opened
    (ap (λ (format : Format). difference_in c.args.header.now format) (sym c.format.ensures) ∙ sym c.difference_with.ensures ∙ c.in-Some.is)

pub returns-in-Some-clause-files : goal.returns-in-Some-clause-files
returns-in-Some-clause-files g c = same_after _ _ _ c.open_in.ensures.files (search rules)
