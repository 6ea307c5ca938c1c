use Rattle.std.proofs.Common.{◌≡◌, ◌-◌, ◌*◌, ◌/◌, ◌%◌, ◌<◌, ◌≤◌, ℕ, ap, length, subst, sym, ◌∙◌}
use Rattle.std.specs.Prelude.{IfSome}
use Rattle.samples.specs.session_model.specs.WaveFiles.{frame_bytes}
use Rattle.wave_pcm.specs.Readings.{Reading}
use Rattle.wave_pcm.proofs.FrameLemmas.{frames_all}
use Rattle.wave_pcm.proofs.wave.Wave.frames_left.Goals as goal

pub returns-clause-all : goal.returns-clause-all
returns-clause-all g c =
    let left = c.self.inside.size - c.self.inside.given in
    let frame : c.frame.result ≡ frame_bytes c.self.inside.format = c.frame.ensures.value ∙ sym (ap (λ (t : Reading). frame_bytes t.format) c.self.view_is) in
    subst (λ (t : Reading). IfSome t.left (λ left. c.args.samples % t.format.channels ≡ 0 → c.min.result * t.format.channels < c.args.samples → length left ≤ c.min.result * t.format.channels)) c.self.view_is
    (frames_all c.self.inside.format left c.args.samples (c.args.samples / c.from.result) (left / c.frame.result) c.min.result (g.S.Source.left c.self.inside.source) c.self.invariant.0
    (ap (λ (n : ℕ). c.args.samples / n) c.from.ensures) (ap (λ (n : ℕ). left / n) frame) c.min.ensures)
