use Rattle.std.proofs.Common.{◌∙◌, None, ap, arith, length, map, sym, take}
use Rattle.control_desk.specs.Desks.{Desk}
use Rattle.run_laws.specs.Sessions.{printed_of}
use Rattle.run_laws.specs.Told.{text_in}
use Rattle.session_run.specs.Seen.{session_of, stores_in}
use Rattle.session_run.proofs.PassedLemmas.{at-ok}
use Rattle.play_inputs.proofs.InputLemmas.{same_after}
use Rattle.jack_control.specs.Plays.{made_by}
use Rattle.jack_control.proofs.CutLemmas.{apart-front, apart-take, explained}
use Rattle.jack_control.proofs.HandedLemmas.{ok_of}
use Rattle.jack_control.proofs.RehearsalLemmas.{history-of}
use Rattle.jack_control.proofs.rehearsing.play_silently.Goals as goal

pub perform-session-requires-clause-apart : goal.perform-session-requires-clause-apart
perform-session-requires-clause-apart g c κs within = apart-front (made_by c.args.names.now) c.args.names.now.disks c.requires.apart.1.1

pub hand_back-handed-requires-clause-out : goal.hand_back-handed-requires-clause-out
hand_back-handed-requires-clause-out g c κs within =
    (take c.perform-session.ensures.made.made (made_by c.args.names.now), c.perform-session.ensures.made.out, apart-take c.perform-session.ensures.made.made (made_by c.args.names.now) (apart-front (made_by c.args.names.now) c.args.names.now.disks c.requires.apart.1.1))

pub returns-in-Ok-clause-played : goal.returns-in-Ok-clause-played
returns-in-Ok-clause-played g c =
    explained g.G.Guest.sound (map g.G.Guest.sound (map g.G.Guest.score c.args.guests.items)) c.args.names.now c.in_ok-session.session (printed_of (session_of g.G.Guest.sound c.perform-session.result.0)) (stores_in c.perform-session.result.0) (g.H.Host.files c.args.host.now) (g.H.Host.files c.open_session.new.host) (g.H.Host.files c.perform-session.new.host) (g.H.Host.files c.hand_back-handed.new.host) (g.H.Host.files c.back.new.self)
    None None (text_in (session_of g.G.Guest.sound c.perform-session.result.0)) c.open_session.ensures.files c.perform-session.ensures.others
    (apart-front (made_by c.args.names.now) c.args.names.now.disks c.requires.apart.1.1) (ok_of c.hand_back-handed.result (sym c.is_err.ensures.value ∙ c.if-is_err.false) c.hand_back-handed.ensures.whole (at-ok c.perform-session.result.1 _ c.in_default.is c.perform-session.ensures.wanted)) (same_after _ _ _ c.back_disks.ensures.files c.back.ensures.files) c.in_ok-session.ensures.opened
    (at-ok c.perform-session.result.1 _ c.in_default.is c.perform-session.ensures.whole) (at-ok c.perform-session.result.1 _ c.in_default.is c.perform-session.ensures.explained) (at-ok c.perform-session.result.1 _ c.in_default.is c.perform-session.ensures.serial) tt

pub returns-in-Ok-clause-history : goal.returns-in-Ok-clause-history
returns-in-Ok-clause-history g c =
    history-of g.G.Guest.sound (g.H.Host.files c.args.host.now) (map g.G.Guest.sound (map g.G.Guest.score c.args.guests.items)) c.args.names.now c.in_ok-session.session c.in-Ok.history.items c.in_ok-session.ensures.opened
    (λ none. c.in-Ok.ensures.items ∙ c.history.ensures.value ∙ ap (λ (d : Desk). d.history) c.desk.ensures ∙ at-ok c.perform-session.result.1 _ c.in_default.is c.perform-session.ensures.history none)

pub back_disks-requires-clause-out : goal.back_disks-requires-clause-out
back_disks-requires-clause-out g c =
    let start = c.in_ok-session.ensures.out in
    let players = c.perform-session.ensures.players in
    let same = ap length c.hand_back-handed.ensures.players in
    let one = c.perform-session.ensures.lent in
    let two = c.hand_back-handed.ensures.lent in
    omega (arith, start, players, same, one, two)

pub back-requires : goal.back-requires
back-requires g c =
    let start = c.in_ok-session.ensures.out in
    let players = c.perform-session.ensures.players in
    let same = ap length c.hand_back-handed.ensures.players in
    let one = c.perform-session.ensures.lent in
    let two = c.hand_back-handed.ensures.lent in
    let three = c.back_disks.ensures.lent in
    omega (arith, start, players, same, one, two, three)
