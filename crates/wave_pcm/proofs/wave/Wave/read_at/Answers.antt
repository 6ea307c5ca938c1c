use Rattle.std.proofs.Common.{rules, ◌≡◌, ◌+◌, ◌-◌, ◌*◌, ℕ, ap, arith, length, ◌∙◌}
use Rattle.wave_pcm.specs.Readings.{Reading}
use Rattle.wave_pcm.proofs.FrameLemmas.{rest_at}
use Rattle.wave_pcm.proofs.wave.Wave.read_at.Goals as goal

pub returns-clause-rest : goal.returns-clause-rest
returns-clause-rest g c =
    let channels : c.from-channels.result ≡ c.args.self.now.format.channels = c.from-channels.ensures ∙ ap (λ (t : Reading). t.format.channels) c.self.view_is in
    let start = c.args.done * c.from-channels.result in
    let at : start ≡ c.args.done * c.args.self.now.format.channels = ap (λ (n : ℕ). c.args.done * n) channels in
    let count : c.args.frames * c.from-channels.result ≡ c.args.frames * c.args.self.now.format.channels = ap (λ (n : ℕ). c.args.frames * n) channels in
    let long : length c.read_block.new.out ≡ start + c.args.frames * c.from-channels.result - start = search rules in
    rest_at c.read_block.result c.args.out.now c.read_block.new.out start (start + c.args.frames * c.from-channels.result - start) c.args.done c.args.frames c.args.self.now.format.channels at (omega (arith, count))
    (omega (arith, at, count, c.requires.room)) long c.read_block.ensures.bound c.read_block.ensures.rest
