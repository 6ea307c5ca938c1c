use Rattle.std.proofs.Common.{◌≡◌, ◌∙◌, Err, ap, arith, length, map, sym}
use Rattle.std.proofs.lemmas.List.{length-map}
use Rattle.std.proofs.lemmas.Result.{err_from_is_err_and}
use Rattle.wave_pcm.specs.Readings.{Reading}
use Rattle.play_inputs.specs.declared.status.Status.{Status}
use Rattle.play_inputs.specs.declared.status.Status.TheVariants.{ReadFault}
use Rattle.play_inputs.proofs.InputLemmas.{same_after}
use Rattle.play_inputs.proofs.OpeningLemmas.{one_err}
use Rattle.jack_control.proofs.OpeningLemmas.{AreDisks-fresh, players-fresh, players-many, session-told, waves-many}
use Rattle.jack_control.proofs.opening.open_session.Goals as goal

pub returns-in_err-script-clause-fault : goal.returns-in_err-script-clause-fault
returns-in_err-script-clause-fault g c =
    let failed = err_from_is_err_and c.from_residual.result c.from_residual.ensures.1 in
    let many : length (map g.G.Guest.sound (map g.G.Guest.score c.args.guests.items)) ≡ c.len.result = length-map (map g.G.Guest.score c.args.guests.items) g.G.Guest.sound ∙ sym (c.len.ensures ∙ c.args.guests.ok.0 ∙ sym (length-map c.args.guests.items g.G.Guest.score)) in
    rw (failed.1, failed.2) (c.in_err-script.ensures.fault (map g.G.Guest.sound (map g.G.Guest.score c.args.guests.items)) many)

pub returns-in_err-script-clause-read : goal.returns-in_err-script-clause-read
returns-in_err-script-clause-read g c = λ e.
    let failed = err_from_is_err_and c.from_residual.result c.from_residual.ensures.1 in
    let many : length (map g.G.Guest.sound (map g.G.Guest.score c.args.guests.items)) ≡ c.len.result = length-map (map g.G.Guest.score c.args.guests.items) g.G.Guest.sound ∙ sym (c.len.ensures ∙ c.args.guests.ok.0 ∙ sym (length-map c.args.guests.items g.G.Guest.score)) in
    c.in_err-script.ensures.read (ap (λ (status : Status). Err status) (sym failed.2 ∙ one_err c.from_residual.result failed.0 ReadFault failed.1 e)) (map g.G.Guest.sound (map g.G.Guest.score c.args.guests.items)) many

pub returns-in-Ok-clause-opened : goal.returns-in-Ok-clause-opened
returns-in-Ok-clause-opened g c =
    let many : length (map g.G.Guest.sound (map g.G.Guest.score c.args.guests.items)) ≡ c.len.result = length-map (map g.G.Guest.score c.args.guests.items) g.G.Guest.sound ∙ sym (c.len.ensures ∙ c.args.guests.ok.0 ∙ sym (length-map c.args.guests.items g.G.Guest.score)) in
    record {
      attaching = c.in-Ok.ensures.new.0;
      none = c.in-Ok.ensures.new.1;
      no_stores = c.in-Ok.ensures.new.2;
      recorders = c.in-Ok.ensures.recorders ∙ c.in_ok-script.ensures.fits.1;
      given = session-told g.G.Guest.sound (g.H.Host.files c.args.host.now) (map g.G.Guest.sound (map g.G.Guest.score c.args.guests.items)) c.args.names.now c.in_ok-script.field-0.script c.in_ok-script.field-0.capture.left
          (map (λ (wave : Reading). wave.left) c.in_ok-script.field-0.disks.items) c.in-Ok.session c.in-Ok.ensures.script c.in-Ok.ensures.scores
          (ap (λ (reading : Reading). reading.left) c.in-Ok.ensures.capture) c.in-Ok.ensures.players.0 (c.in_ok-script.ensures.opened (map g.G.Guest.sound (map g.G.Guest.score c.args.guests.items)) many);
    }

pub new-requires-clause-disks : goal.new-requires-clause-disks
new-requires-clause-disks g c = AreDisks-fresh c.in_ok-script.field-0.script.header.rate c.in_ok-script.field-0.script.header.disks c.in_ok-script.field-0.disks.items c.in_ok-script.ensures.disks

pub returns-in-Ok-clause-fresh : goal.returns-in-Ok-clause-fresh
returns-in-Ok-clause-fresh g c = record {
  capture = ap (λ (reading : Reading). reading.faults) c.in-Ok.ensures.capture ∙ c.in_ok-script.ensures.fresh;
  disks = players-fresh c.in_ok-script.field-0.script.header.rate c.in-Ok.session.players c.in_ok-script.field-0.disks.items c.in-Ok.ensures.players.1 c.in_ok-script.ensures.disks.1;
}

pub returns-in-Ok-clause-out : goal.returns-in-Ok-clause-out
returns-in-Ok-clause-out g c =
    let out = c.in_ok-script.ensures.out in
    let many = players-many c.in-Ok.session.players c.in_ok-script.field-0.disks.items c.in-Ok.ensures.players.1 in
    omega (arith, out, many)

pub returns-in-Ok-clause-few : goal.returns-in-Ok-clause-few
returns-in-Ok-clause-few g c =
    let many = players-many c.in-Ok.session.players c.in_ok-script.field-0.disks.items c.in-Ok.ensures.players.1 in
    let waves = waves-many c.in_ok-script.field-0.script.header.rate c.in_ok-script.field-0.script.header.disks c.in_ok-script.field-0.disks.items c.in_ok-script.ensures.disks in
    let few = c.in_ok-script.ensures.lawful.header.few_disks in
    omega (arith, many, waves, few)

pub back_waves-requires-clause-out : goal.back_waves-requires-clause-out
back_waves-requires-clause-out g c =
    let out = c.in_ok-script.ensures.out in
    let same = ap length c.in-Err.ensures.back.1 in
    omega (arith, out, same)

pub back-requires : goal.back-requires
back-requires g c =
    let out = c.in_ok-script.ensures.out in
    let same = ap length c.in-Err.ensures.back.1 in
    let one = c.back_waves.ensures.lent in
    omega (arith, out, same, one)

pub returns-clause-back : goal.returns-clause-back
returns-clause-back g c =
    let out = c.in_ok-script.ensures.out in
    let same = ap length c.in-Err.ensures.back.1 in
    let one = c.back_waves.ensures.lent in
    let two = c.back.ensures.lent in
    omega (arith, out, same, one, two)

pub returns-clause-files : goal.returns-clause-files
returns-clause-files g c = same_after _ _ _ c.open_inputs.ensures.files (same_after _ _ _ c.back_waves.ensures.files c.back.ensures.files)
