use Rattle.std.proofs.Common.{◌∙◌, Err, ap, map, sym}
use Rattle.std.proofs.lemmas.Result.{err_from_is_err_and}
use Rattle.play_inputs.specs.declared.status.Status.{Status}
use Rattle.play_inputs.specs.declared.status.Status.TheVariants.{ReadFault}
use Rattle.play_inputs.proofs.OpeningLemmas.{one_err}
use Rattle.jack_control.specs.Plays.{made_by}
use Rattle.jack_control.proofs.FileLemmas.{touches-after, touches_same}
use Rattle.jack_control.proofs.TopLemmas.{input-of}
use Rattle.jack_control.proofs.top.play.Goals as goal

pub returns-in_err-session-clause-read : goal.returns-in_err-session-clause-read
returns-in_err-session-clause-read g c = λ e.
    let failed = err_from_is_err_and c.from_residual.result c.from_residual.ensures.1 in
    c.in_err-session.ensures.read (ap (λ (status : Status). Err status) (sym failed.2 ∙ one_err c.from_residual.result failed.0 ReadFault failed.1 e))

pub returns-clause-input : goal.returns-clause-input
returns-clause-input g c = λ e. input-of g.G.Guest.sound (g.H.Host.files c.args.host.now) (map g.G.Guest.sound (map g.G.Guest.score c.args.guests.items)) c.args.names.now c.in_ok-session.session c.in_ok-session.ensures.opened

pub returns-clause-others : goal.returns-clause-others
returns-clause-others g c =
    touches-after (g.H.Host.files c.args.host.now) (g.H.Host.files c.open_session.new.host) (g.H.Host.files c.play_session.new.host) (made_by c.args.names.now)
    (touches_same (g.H.Host.files c.args.host.now) (g.H.Host.files c.open_session.new.host) (made_by c.args.names.now) c.open_session.ensures.files) c.play_session.ensures.others
