use Rattle.std.proofs.Common.{◌≡◌, ◌-◌, sym, ◌∙◌, ap, arith}
use Rattle.session_works.specs.Parts.{Parts}
use Rattle.session_ends.proofs.AttachLemmas.{from-playback, from-recorder, may-attach}
use Rattle.session_ends.proofs.attaching.start_next.Goals as goal

pub returns-then-parts-eq0 : goal.returns-then-parts-eq0
returns-then-parts-eq0 g c =
    from-playback g.G.Guest.sound _ c.args.parts.now c.requires.attaching (sym (ap (λ (p : Parts). p.attached) c.parts.view_is) ∙ c.if-parts-eq0.true) c.attach_playback.result c.attach_playback.new.parts c.attach_playback.ensures.started c.attach_playback.ensures.kept

pub attach_recorder-requires-clause-there : goal.attach_recorder-requires-clause-there
attach_recorder-requires-clause-there g c =
    let seen : c.parts.inside.attached ≡ c.args.parts.now.attached = ap (λ (p : Parts). p.attached) c.parts.view_is in
    let more = c.if-parts-eq0.false in
    may-attach g.G.Guest.sound c.args.parts.now c.requires.attaching (c.parts.inside.attached - 1) (omega (arith, seen, more)) c.requires.fewer

pub returns : goal.returns
returns g c =
    let seen : c.parts.inside.attached ≡ c.args.parts.now.attached = ap (λ (p : Parts). p.attached) c.parts.view_is in
    let more = c.if-parts-eq0.false in
    from-recorder g.G.Guest.sound _ c.args.parts.now c.requires.attaching (c.parts.inside.attached - 1) (omega (arith, seen, more)) c.requires.fewer c.attach_recorder.result c.attach_recorder.new.parts c.attach_recorder.ensures.started c.attach_recorder.ensures.kept
