use Rattle.std.proofs.Common.{rules, ◌≡◌, ◌+◌, ◌-◌, ◌*◌, ◌/◌, ◌≤◌, ℕ, ap, arith, length, subst, sym, take, ◌∙◌}
use Rattle.samples.specs.session_model.specs.Samples.{samples_of}
use Rattle.samples.specs.session_model.specs.WaveFiles.{frame_bytes}
use Rattle.wave_pcm.specs.Readings.{Gives, left_of, Reading}
use Rattle.wave_pcm.proofs.FrameLemmas.{block_gives, got_few}
use Rattle.wave_pcm.proofs.wave.Wave.read_block.Goals as goal

pub convert-requires-clause-room : goal.convert-requires-clause-room
convert-requires-clause-room g c =
    let frame : c.frame-frame.result ≡ frame_bytes c.self.inside.format = c.frame-frame.ensures.value ∙ sym (ap (λ (t : Reading). frame_bytes t.format) c.self.view_is) in
    let long : length c.fill-filled.new.buffer ≡ c.args.frames * c.frame-frame.result = search rules in
    let few = got_few c.self.inside.format c.args.frames (c.in-Ok.count / c.frame-frame.result) c.in-Ok.count c.self.invariant.0 (omega (arith, c.in-Ok.ensures.bound, long, ap (λ (n : ℕ). c.args.frames * n) frame)) (ap (λ (n : ℕ). c.in-Ok.count / n) frame) in
    omega (arith, few.2, c.requires.room, ap (λ (t : Reading). c.args.frames * t.format.channels) c.self.view_is)

pub returns-in-Ok-clause-samples : goal.returns-in-Ok-clause-samples
returns-in-Ok-clause-samples g c =
    let format = c.self.inside.format in
    let got = c.in-Ok.count / c.frame-frame.result in
    let left = g.S.Source.left c.fill-filled.new.source in
    let frame : c.frame-frame.result ≡ frame_bytes format = c.frame-frame.ensures.value ∙ sym (ap (λ (t : Reading). frame_bytes t.format) c.self.view_is) in
    let long : length c.fill-filled.new.buffer ≡ c.args.frames * c.frame-frame.result = search rules in
    let room : c.self.inside.given + c.args.frames * frame_bytes format ≤ c.self.inside.size = subst (λ (t : Reading). t.given + c.args.frames * frame_bytes t.format ≤ t.size) (sym c.self.view_is) c.requires.told in
    subst (λ (t : Reading). Gives t.left (left_of format (c.self.inside.size - (c.self.inside.given + got * c.frame-frame.result)) left) (got * t.format.channels) (c.args.frames * t.format.channels) c.convert.new.out) c.self.view_is
    (subst (λ (n : ℕ). Gives (left_of format (c.self.inside.size - c.self.inside.given) (g.S.Source.left c.self.inside.source)) (left_of format (c.self.inside.size - (c.self.inside.given + got * n)) left) (got * format.channels) (c.args.frames * format.channels) c.convert.new.out) (sym frame)
    (block_gives format c.self.inside.size c.self.inside.given c.args.frames got c.in-Ok.count (g.S.Source.left c.self.inside.source) left c.fill-filled.new.buffer c.convert.new.out c.self.invariant.0
    (long ∙ ap (λ (n : ℕ). c.args.frames * n) frame) room c.in-Ok.ensures.bound c.in-Ok.ensures.bytes c.in-Ok.ensures.short (ap (λ (n : ℕ). c.in-Ok.count / n) frame)
    (c.convert.ensures.samples ∙ ap (λ (n : ℕ). samples_of format.bits (take (got * n) c.fill-filled.new.buffer)) frame)))
