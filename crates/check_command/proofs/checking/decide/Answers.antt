use Rattle.std.proofs.Common.{◌∙◌, ◌⊎◌, Err, inl, inr, ap, arith, map, refl, subst, sym}
use Rattle.std.proofs.lemmas.List.{length-map}
use Rattle.std.proofs.lemmas.Result.{err_from_is_err_and}
use Rattle.session_check.specs.Counts.{counts_of}
use Rattle.play_words.specs.Checks.{Check}
use Rattle.play_words.specs.Words.{Play}
use Rattle.play_inputs.specs.declared.status.Status.{Status}
use Rattle.play_inputs.specs.declared.status.Status.TheVariants.{ReadFault}
use Rattle.play_inputs.proofs.OpeningLemmas.{one_err}
use Rattle.check_command.specs.Scripts.{CheckOpening, LacksPlay}
use Rattle.check_command.proofs.CaseLemmas.{gives-named, input-named, kept-of, read-of, verdict-told, without-named}
use Rattle.check_command.proofs.CountLemmas.{kept-told, rose-told}
use Rattle.check_command.proofs.OpenedLemmas.{all-untouched, lacks-named, written-named}
use Rattle.check_command.proofs.checking.decide.Goals as goal

pub returns-in_err-script-clause-fault : goal.returns-in_err-script-clause-fault
returns-in_err-script-clause-fault g c =
    let failed = err_from_is_err_and c.from_residual.result c.from_residual.ensures.1 in
    let scores = map g.G.Guest.sound (map g.G.Guest.score c.args.guests.items) in
    rw (failed.1, failed.2)
    (subst (λ (play : Play). CheckOpening (g.H.Host.files c.args.host.now) scores play c.in_err-script.field-0.0) (ap (λ (k : Check). k.play) c.names.view_is)
    (c.in_err-script.ensures.fault scores (length-map (map g.G.Guest.score c.args.guests.items) g.G.Guest.sound ∙ length-map c.args.guests.items g.G.Guest.score ∙ sym c.args.guests.ok.0 ∙ sym c.len.ensures)))

pub returns-in_err-script-clause-read : goal.returns-in_err-script-clause-read
returns-in_err-script-clause-read g c = λ e.
    let failed = err_from_is_err_and c.from_residual.result c.from_residual.ensures.1 in
    let scores = map g.G.Guest.sound (map g.G.Guest.score c.args.guests.items) in
    elim (c.in_err-script.ensures.read (ap (λ (status : Status). Err status) (sym failed.2 ∙ one_err c.from_residual.result failed.0 ReadFault failed.1 e)) scores
    (length-map (map g.G.Guest.score c.args.guests.items) g.G.Guest.sound ∙ length-map c.args.guests.items g.G.Guest.score ∙ sym c.args.guests.ok.0 ∙ sym c.len.ensures)) [
      | inl rose ↦ inl rose
      | inr lacks ↦ inr (inl (subst (λ (play : Play). LacksPlay (g.H.Host.files c.args.host.now) scores play) (ap (λ (k : Check). k.play) c.names.view_is) lacks))
    ]

pub returns-in-Err-clause-read : goal.returns-in-Err-clause-read
returns-in-Err-clause-read g c = λ e.
    let kept = c.in_ok-script.ensures.kept in
    let later = c.back.ensures.reads.later in
    let files = g.H.Host.files c.args.host.now in
    let scores = map g.G.Guest.sound (map g.G.Guest.score c.args.guests.items) in
    let gives = c.in_ok-script.ensures.opened scores (length-map (map g.G.Guest.score c.args.guests.items) g.G.Guest.sound ∙ length-map c.args.guests.items g.G.Guest.score ∙ sym c.args.guests.ok.0 ∙ sym c.len.ensures) in
    elim (c.in-Err.ensures.read (ap (λ (status : Status). Err status) (one_err (Err c.in-Err.status) c.in-Err.status ReadFault refl e))) [
      | inl rose ↦ inl (omega (arith, kept, rose, later))
      | inr lacks ↦ inr (inr (
        (
          without-named files scores c.args.names.now _ _ _ (ap (λ (k : Check). k.play) c.names.view_is) gives,
          input-named files scores c.args.names.now _ _ _ (ap (λ (k : Check). k.play) c.names.view_is) gives,
        ),
        lacks-named files (g.H.Host.files c.open_checked.new.host) c.args.names.now _ _ (ap (λ (k : Check). k.report) c.names.view_is) (ap (λ (k : Check). k.play) c.names.view_is) c.in_ok-script.ensures.files lacks,
      ))
    ]

pub check-checked-requires-clause-fresh : goal.check-checked-requires-clause-fresh
check-checked-requires-clause-fresh g c κs within = (c.in-Ok.ensures.fresh.1.untouched, all-untouched c.in-Ok.written.records.items c.in-Ok.ensures.fresh.2)

pub returns-clause-verdict : goal.returns-clause-verdict
returns-clause-verdict g c =
    let files = g.H.Host.files c.args.host.now in
    let scores = map g.G.Guest.sound (map g.G.Guest.score c.args.guests.items) in
    let gives = c.in_ok-script.ensures.opened scores (length-map (map g.G.Guest.score c.args.guests.items) g.G.Guest.sound ∙ length-map c.args.guests.items g.G.Guest.score ∙ sym c.args.guests.ok.0 ∙ sym c.len.ensures) in
    verdict-told files scores c.args.names.now c.in_ok-script.field-0.script c.in_ok-script.field-0.capture.left _ _ _
    (gives-named files scores c.args.names.now _ c.in_ok-script.field-0.script c.in_ok-script.field-0.capture.left (ap (λ (k : Check). k.play) c.names.view_is) gives)
    (written-named files (g.H.Host.files c.open_checked.new.host) c.args.names.now _ _ _ _ _ (ap (λ (k : Check). k.report) c.names.view_is) (ap (λ (k : Check). k.play) c.names.view_is) c.in_ok-script.ensures.files c.in-Ok.ensures.opened)
    c.check-checked.result.verdict c.hand_back.result c.check-checked.ensures.explained c.check-checked.ensures.wrong c.hand_back.ensures.answer

pub returns-clause-read : goal.returns-clause-read
returns-clause-read g c = λ e.
    let one = c.in_ok-script.ensures.kept in
    let two = c.in-Ok.ensures.kept in
    let rose = rose-told
    (counts_of c.in_ok-script.field-0.capture.faults c.in-Ok.written.report.faults c.in-Ok.written.playback c.in-Ok.written.records.items) c.check-checked.result.capture.faults c.check-checked.result.report.faults c.check-checked.result.playback c.check-checked.result.records.items (g.H.Host.read_faults c.open_written.new.host) (g.H.Host.read_faults c.hand_back.new.host)
    (c.check-checked.ensures.read (read-of c.check-checked.result.verdict c.hand_back.result c.hand_back.ensures.answer e)) c.hand_back.ensures.reads in
    inl (omega (arith, one, two, rose))

pub returns-clause-kept : goal.returns-clause-kept
returns-clause-kept g c =
    kept-of c.check-checked.result.verdict c.hand_back.result _ _ _ c.hand_back.ensures.answer
    (kept-told c.check-checked.result.verdict _ _ _ _ c.check-checked.result.capture.faults c.check-checked.result.report.faults c.check-checked.result.playback c.check-checked.result.records.items
    (g.H.Host.read_faults c.open_written.new.host) (g.H.Host.read_faults c.hand_back.new.host) c.in_ok-script.ensures.fresh c.in-Ok.ensures.fresh.0 c.in-Ok.ensures.fresh.1 c.in-Ok.ensures.fresh.2
    c.check-checked.ensures.kept c.hand_back.ensures.reads c.hand_back.ensures.no_more)
    (c.in-Ok.ensures.kept ∙ c.in_ok-script.ensures.kept)
