use Rattle.std.proofs.Common.{◌≡◌, inl, inr, List, [], ℕ, ◌∙◌, Some, arith, length, refl, sym, ap, subst, take}
use Rattle.jack_host.specs.Bytes.{Gains}
use Rattle.jack_host.specs.Causes.{Rose}
use Rattle.wave_pcm.specs.Readings.{Reading}
use Rattle.run_laws.specs.Sessions.{printed_of}
use Rattle.run_laws.specs.Told.{text_in}
use Rattle.session_run.specs.Seen.{Gear, session_of, stores_in}
use Rattle.play_inputs.proofs.InputLemmas.{same_after}
use Rattle.jack_control.specs.Openings.{AreFaultless}
use Rattle.jack_control.specs.Plays.{made_by}
use Rattle.jack_control.proofs.CauseLemmas.{err-any, err-behind, faults-none, ok-behind, ok-known, rose-source, rose-written}
use Rattle.jack_control.proofs.CutLemmas.{apart-front, apart-take, cut, explained, others-kept}
use Rattle.jack_control.proofs.playing.play_session.Goals as goal

pub perform-session-requires-clause-apart : goal.perform-session-requires-clause-apart
perform-session-requires-clause-apart g c κs within = apart-front (made_by c.args.names.now) c.args.names.now.disks c.requires.apart.1.1

pub hand_back-handed-requires-clause-out : goal.hand_back-handed-requires-clause-out
hand_back-handed-requires-clause-out g c κs within =
    (take c.perform-session.ensures.made.made (made_by c.args.names.now), c.perform-session.ensures.made.out, apart-take c.perform-session.ensures.made.made (made_by c.args.names.now) (apart-front (made_by c.args.names.now) c.args.names.now.disks c.requires.apart.1.1))

pub conclude-reported-requires-clause-ended : goal.conclude-reported-requires-clause-ended
conclude-reported-requires-clause-ended g c = ok-behind c.perform-session.result.1 c.hand_back-handed.ensures.ended c.perform-session.ensures.ended

pub returns-clause-played : goal.returns-clause-played
returns-clause-played g c =
    ok-behind c.conclude-reported.result
    (λ put files scores first is.
    explained g.G.Guest.sound scores c.args.names.now c.args.session (printed_of (session_of g.G.Guest.sound c.perform-session.result.0)) (stores_in c.perform-session.result.0) files (g.H.Host.files c.args.host.now) (g.H.Host.files c.perform-session.new.host) (g.H.Host.files c.hand_back-handed.new.host) (g.H.Host.files c.back.new.self)
    (g.K.Sink.content c.args.out.now) (g.K.Sink.content c.conclude-reported.new.out) (text_in (session_of g.G.Guest.sound c.perform-session.result.0)) first c.perform-session.ensures.others
    (apart-front (made_by c.args.names.now) c.args.names.now.disks c.requires.apart.1.1) (ok-known c.hand_back-handed.result _ (sym c.is_ok.ensures.value ∙ put.1) c.hand_back-handed.ensures.whole (ok-known c.perform-session.result.1 _ put.0 c.perform-session.ensures.wanted)) (same_after _ _ _ c.back_disks.ensures.files c.back.ensures.files) is
    (ok-known c.perform-session.result.1 _ put.0 c.perform-session.ensures.whole) (ok-known c.perform-session.result.1 _ put.0 c.perform-session.ensures.explained) (ok-known c.perform-session.result.1 _ put.0 c.perform-session.ensures.serial)
    (subst (λ (report : List ℕ). Gains (g.K.Sink.content c.args.out.now) (g.K.Sink.content c.conclude-reported.new.out) report) c.hand_back-handed.ensures.report put.2))
    c.conclude-reported.ensures.put

pub returns-clause-cut : goal.returns-clause-cut
returns-clause-cut g c =
    err-any c.conclude-reported.result
    (λ files scores first is.
    cut g.G.Guest.sound scores c.args.names.now c.args.session (printed_of (session_of g.G.Guest.sound c.perform-session.result.0)) (stores_in c.perform-session.result.0) files (g.H.Host.files c.args.host.now) (g.H.Host.files c.perform-session.new.host) (g.H.Host.files c.hand_back-handed.new.host) (g.H.Host.files c.back.new.self) first
    (apart-front (made_by c.args.names.now) c.args.names.now.disks c.requires.apart.1.1) c.perform-session.ensures.made c.hand_back-handed.ensures.part (same_after _ _ _ c.back_disks.ensures.files c.back.ensures.files) is c.perform-session.ensures.fronts)

-- the session was performed and its files stand, so the whole report would explain them
pub returns-clause-out_cut : goal.returns-clause-out_cut
returns-clause-out_cut g c =
    let text = text_in (session_of g.G.Guest.sound c.perform-session.result.0) in
    err-behind c.conclude-reported.result
    (λ half files scores first is.
    elim half [
      | inl none ↦ inl none
      | inr broken ↦ inr (
        broken.1,
        record {
          report = text;
          explained = explained g.G.Guest.sound scores c.args.names.now c.args.session (printed_of (session_of g.G.Guest.sound c.perform-session.result.0)) (stores_in c.perform-session.result.0) files (g.H.Host.files c.args.host.now) (g.H.Host.files c.perform-session.new.host) (g.H.Host.files c.hand_back-handed.new.host) (g.H.Host.files c.back.new.self)
              (Some []) (Some text) text first c.perform-session.ensures.others
              (apart-front (made_by c.args.names.now) c.args.names.now.disks c.requires.apart.1.1) (ok-known c.hand_back-handed.result _ (sym c.is_ok.ensures.value ∙ broken.0.1) c.hand_back-handed.ensures.whole (ok-known c.perform-session.result.1 _ broken.0.0 c.perform-session.ensures.wanted)) (same_after _ _ _ c.back_disks.ensures.files c.back.ensures.files) is
              (ok-known c.perform-session.result.1 _ broken.0.0 c.perform-session.ensures.whole) (ok-known c.perform-session.result.1 _ broken.0.0 c.perform-session.ensures.explained) (ok-known c.perform-session.result.1 _ broken.0.0 c.perform-session.ensures.serial) refl;
          front = broken.2.0;
          puts = subst (λ (report : List ℕ). Gains (g.K.Sink.content c.args.out.now) (g.K.Sink.content c.conclude-reported.new.out) (take broken.2.0 report)) c.hand_back-handed.ensures.report broken.2.1;
        },
      )
    ])
    c.conclude-reported.ensures.cut

pub returns-clause-read : goal.returns-clause-read
returns-clause-read g c is =
    let fault = c.conclude-reported.ensures.read is in (
      subst (λ (n : ℕ). Rose n (g.H.Host.read_faults c.back.new.self)) (c.hand_back-handed.ensures.reads ∙ c.perform-session.ensures.reads)
          (rose-source c.args.session c.perform-session.result.0 c.hand_back-handed.new.session.players (g.H.In.Source.faults c.into_source.result) (g.H.Host.read_faults c.hand_back-handed.new.host) (g.H.Host.read_faults c.back_disks.new.host) (g.H.Host.read_faults c.back.new.self)
          (c.perform-session.ensures.read fault.0) c.hand_back-handed.ensures.players
          (c.into_source.ensures ∙ ap (λ (r : Reading). r.faults) c.into_capture.ensures.reading ∙ ap (λ (gear : Gear). gear.capture.reading.faults) c.back_disks.ensures.gear ∙ ap (λ capture. capture.reading.faults) c.hand_back-handed.ensures.capture)
          c.back_disks.ensures.reads c.back.ensures.reads),
      fault.1,
    )

pub returns-clause-write : goal.returns-clause-write
returns-clause-write g c is =
    rose-written c.hand_back-handed.result (stores_in c.perform-session.result.0) c.is_ok.result _ _ _ _ _ _ _ c.is_ok.ensures.value c.perform-session.ensures.later c.hand_back-handed.ensures.later c.hand_back-handed.ensures.failed c.hand_back-handed.ensures.faults
    (c.back.ensures.writes ∙ c.back_disks.ensures.writes) c.perform-session.ensures.write (c.conclude-reported.ensures.write is)

pub returns-clause-others : goal.returns-clause-others
returns-clause-others g c =
    others-kept (g.H.Host.files c.args.host.now) (g.H.Host.files c.perform-session.new.host) (g.H.Host.files c.hand_back-handed.new.host) (g.H.Host.files c.back.new.self) (made_by c.args.names.now) (stores_in c.perform-session.result.0)
    (apart-front (made_by c.args.names.now) c.args.names.now.disks c.requires.apart.1.1) c.perform-session.ensures.made c.hand_back-handed.ensures.part (same_after _ _ _ c.back_disks.ensures.files c.back.ensures.files)

-- no read of the session failed, and the host took up a count of nothing
pub returns-clause-reads : goal.returns-clause-reads
returns-clause-reads g c =
    ok-behind c.conclude-reported.result
    (λ put fresh.
    let same = ok-known c.perform-session.result.1 _ put.0 c.perform-session.ensures.capture in
    let ended = c.hand_back-handed.ensures.ended (ok-known c.perform-session.result.1 _ put.0 c.perform-session.ensures.ended) in
    let gear = c.back_disks.ensures.gear in
    let back : c.into_capture.result ≡ c.perform-session.result.0.gear.capture.reading = c.into_capture.ensures.reading ∙ ap (λ (one : Gear). one.capture.reading) gear ∙ ap (λ capture. capture.reading) c.hand_back-handed.ensures.capture in
    let kept = same.kept (sym (ap (λ (r : Reading). r.failed) back) ∙ c.into_capture.ensures.sound (ap (λ (one : Gear). one.failed) gear ∙ ended.sound)) in
    let none : g.H.In.Source.faults c.into_source.result ≡ 0 = c.into_source.ensures ∙ ap (λ (r : Reading). r.faults) back ∙ kept.1 ∙ fresh.capture in
    let disks = faults-none c.hand_back-handed.new.session.players (subst AreFaultless (sym c.hand_back-handed.ensures.players) (ok-known c.perform-session.result.1 _ put.0 c.perform-session.ensures.disks fresh.disks)) in
    let before = c.hand_back-handed.ensures.reads ∙ c.perform-session.ensures.reads in
    let first = c.back_disks.ensures.reads.later in
    let first_more = c.back_disks.ensures.no_more in
    let later = c.back.ensures.reads.later in
    let no_more = c.back.ensures.no_more in
    omega (arith, before, first, first_more, disks, later, no_more, none))
    c.conclude-reported.ensures.put

pub returns-clause-writes : goal.returns-clause-writes
returns-clause-writes g c =
    ok-behind c.conclude-reported.result
    (λ put.
    c.back.ensures.writes ∙ c.back_disks.ensures.writes ∙ ok-known c.hand_back-handed.result _ (sym c.is_ok.ensures.value ∙ put.1) c.hand_back-handed.ensures.kept (ok-known c.perform-session.result.1 _ put.0 c.perform-session.ensures.wanted) ∙ ok-known c.perform-session.result.1 _ put.0 c.perform-session.ensures.kept)
    c.conclude-reported.ensures.put

-- ---- how many objects of the host are out

pub back_disks-requires-clause-out : goal.back_disks-requires-clause-out
back_disks-requires-clause-out g c =
    let start = c.requires.out.0 in
    let players = c.perform-session.ensures.players in
    let same = ap length c.hand_back-handed.ensures.players in
    let one = c.perform-session.ensures.lent in
    let two = c.hand_back-handed.ensures.lent in
    omega (arith, start, players, same, one, two)

pub back-requires : goal.back-requires
back-requires g c =
    let start = c.requires.out.0 in
    let players = c.perform-session.ensures.players in
    let same = ap length c.hand_back-handed.ensures.players in
    let one = c.perform-session.ensures.lent in
    let two = c.hand_back-handed.ensures.lent in
    let three = c.back_disks.ensures.lent in
    omega (arith, start, players, same, one, two, three)

pub returns-clause-lent : goal.returns-clause-lent
returns-clause-lent g c =
    let players = c.perform-session.ensures.players in
    let same = ap length c.hand_back-handed.ensures.players in
    let one = c.perform-session.ensures.lent in
    let two = c.hand_back-handed.ensures.lent in
    let three = c.back_disks.ensures.lent in
    let four = c.back.ensures.lent in
    omega (arith, players, same, one, two, three, four)
