use Rattle.std.proofs.Common.{◌∙◌, ℕ, List, None, Err, inl, inr, ap, arith, length, map, refl, subst, sym}
use Rattle.std.proofs.lemmas.Result.{err_from_is_err_and}
use Rattle.jack_types.specs.declared.scripts.Header.{Header}
use Rattle.wave_pcm.specs.Readings.{Reading}
use Rattle.play_words.specs.Words.{Play}
use Rattle.disk_inputs.specs.Openings.{AreFresh, AreOpened, LacksDisk}
use Rattle.play_inputs.specs.declared.status.Status.{Status}
use Rattle.play_inputs.specs.declared.status.Status.TheVariants.{ReadFault}
use Rattle.play_inputs.specs.Disks.{DisksStatus}
use Rattle.play_inputs.specs.Inputs.{IfBytes, IsScriptOf}
use Rattle.play_inputs.proofs.InputLemmas.{rose-earlier, same_after}
use Rattle.play_inputs.proofs.OpeningLemmas.{counted, disks-status, fitting-status, input-told, lacks-capture, lacks-disk, one_err}
use Rattle.play_inputs.proofs.inputs.open_inputs.Goals as goal

pub returns-in_err-capture-clause-fault : goal.returns-in_err-capture-clause-fault
returns-in_err-capture-clause-fault g c =
    let failed = err_from_is_err_and c.from_residual-in_err-capture.result c.from_residual-in_err-capture.ensures.1 in
    rw (failed.1, failed.2) (λ scores many.
    let files = g.H.Host.files c.args.host.now in
    let play = c.args.names.now in
    let script = c.in_ok-script.script in
    let is = subst (λ (name : List ℕ). IfBytes files name (λ bytes. IsScriptOf bytes script)) (ap (λ (p : Play). p.script) c.names.view_is) c.in_ok-script.ensures.script in
    fitting-status files scores play script is (g.H.Host.files c.read_script.new.host) c.read_script.ensures.files c.args.guests c.in_err-capture.field-0.0 many c.in_err-capture.ensures.fault)

pub returns-in_err-capture-clause-read : goal.returns-in_err-capture-clause-read
returns-in_err-capture-clause-read g c = λ e scores many.
    let files = g.H.Host.files c.args.host.now in
    let play = c.args.names.now in
    let script = c.in_ok-script.script in
    let is = subst (λ (name : List ℕ). IfBytes files name (λ bytes. IsScriptOf bytes script)) (ap (λ (p : Play). p.script) c.names.view_is) c.in_ok-script.ensures.script in
    let failed = err_from_is_err_and c.from_residual-in_err-capture.result c.from_residual-in_err-capture.ensures.1 in
    elim (c.in_err-capture.ensures.read (ap (λ (status : Status). Err status) (sym failed.2 ∙ one_err c.from_residual-in_err-capture.result failed.0 ReadFault failed.1 e))) [
      | inl rose ↦ inl (rose-earlier _ _ _ c.read_script.ensures.later rose)
      | inr none ↦ inr (lacks-capture files scores play script is (g.H.Host.files c.read_script.new.host) c.read_script.ensures.files (counted script scores play c.args.guests None many none.0) none.1)
    ]

pub open_files-requires-clause-many : goal.open_files-requires-clause-many
open_files-requires-clause-many g c κs within = ap (λ (header : Header). length header.disks) c.header-header.ensures.value ∙ c.in_ok-capture.ensures.fits.2

pub returns-in-Err-clause-fault : goal.returns-in-Err-clause-fault
returns-in-Err-clause-fault g c = λ scores many.
    let files = g.H.Host.files c.args.host.now in
    let play = c.args.names.now in
    let script = c.in_ok-script.script in
    let is = subst (λ (name : List ℕ). IfBytes files name (λ bytes. IsScriptOf bytes script)) (ap (λ (p : Play). p.script) c.names.view_is) c.in_ok-script.ensures.script in
    let fits = counted script scores play c.args.guests None many c.in_ok-capture.ensures.same in
    let later = g.H.Host.files c.open_fitting.new.host in
    let told = subst (λ (header : Header). DisksStatus later play header c.in-Err.status) c.header-header.ensures.value c.in-Err.ensures.fault in
    disks-status files scores play script is (g.H.Host.files c.read_script.new.host) c.read_script.ensures.files fits c.in_ok-capture.capture.left c.in_ok-capture.ensures.opened
    later (same_after _ _ _ c.read_script.ensures.files c.open_fitting.ensures.files) c.in-Err.status told

pub returns-in-Err-clause-read : goal.returns-in-Err-clause-read
returns-in-Err-clause-read g c = λ e scores many.
    let files = g.H.Host.files c.args.host.now in
    let play = c.args.names.now in
    let script = c.in_ok-script.script in
    let is = subst (λ (name : List ℕ). IfBytes files name (λ bytes. IsScriptOf bytes script)) (ap (λ (p : Play). p.script) c.names.view_is) c.in_ok-script.ensures.script in
    let fits = counted script scores play c.args.guests None many c.in_ok-capture.ensures.same in
    let later = g.H.Host.files c.open_fitting.new.host in
    let one = c.read_script.ensures.later in
    let two = c.open_fitting.ensures.later in
    let back = c.back.ensures.reads.later in
    elim (c.in-Err.ensures.read (ap (λ (status : Status). Err status) (one_err (Err c.in-Err.status) c.in-Err.status ReadFault refl e))) [
      | inl rose ↦ inl (omega (arith, one, two, rose, back))
      | inr lacks ↦ inr (
          lacks-disk files scores play script is (g.H.Host.files c.read_script.new.host) c.read_script.ensures.files fits c.in_ok-capture.capture.left c.in_ok-capture.ensures.opened
          later (same_after _ _ _ c.read_script.ensures.files c.open_fitting.ensures.files)
          (subst (λ (header : Header). LacksDisk later play.disks header.rate header.disks) c.header-header.ensures.value lacks)
          )
    ]

pub returns-in-Err-clause-files : goal.returns-in-Err-clause-files
returns-in-Err-clause-files g c =
    same_after _ _ _ c.read_script.ensures.files (same_after _ _ _ c.open_fitting.ensures.files (same_after _ _ _ c.open_files.ensures.files c.back.ensures.files))

pub returns-in-Ok-clause-opened : goal.returns-in-Ok-clause-opened
returns-in-Ok-clause-opened g c = λ scores many.
    let files = g.H.Host.files c.args.host.now in
    let play = c.args.names.now in
    let script = c.in_ok-script.script in
    let is = subst (λ (name : List ℕ). IfBytes files name (λ bytes. IsScriptOf bytes script)) (ap (λ (p : Play). p.script) c.names.view_is) c.in_ok-script.ensures.script in
    let fits = counted script scores play c.args.guests None many c.in_ok-capture.ensures.same in
    let later = g.H.Host.files c.open_fitting.new.host in
    let lefts = map (λ (wave : Reading). wave.left) c.in-Ok.disks.items in
    input-told files scores play script is (g.H.Host.files c.read_script.new.host) c.read_script.ensures.files fits c.in_ok-capture.capture.left c.in_ok-capture.ensures.opened
    later (same_after _ _ _ c.read_script.ensures.files c.open_fitting.ensures.files) lefts
    (subst (λ (header : Header). AreOpened later play.disks header.rate header.disks lefts) c.header-header.ensures.value c.in-Ok.ensures.opened)

pub returns-in-Ok-clause-disks : goal.returns-in-Ok-clause-disks
returns-in-Ok-clause-disks g c = subst (λ (header : Header). AreFresh header.rate header.disks c.in-Ok.disks.items) c.header-header.ensures.value c.in-Ok.ensures.fresh

pub returns-in-Ok-clause-files : goal.returns-in-Ok-clause-files
returns-in-Ok-clause-files g c = same_after _ _ _ c.read_script.ensures.files (same_after _ _ _ c.open_fitting.ensures.files c.open_files.ensures.files)
