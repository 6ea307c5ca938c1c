use Rattle.std.proofs.Common.{◌≡◌, ◌*◌, ℕ, ap, arith, length, sym, take, ◌∙◌}
use Rattle.std.proofs.lemmas.List.{length-take}
use Rattle.samples.specs.session_model.specs.Samples.{width}
use Rattle.wave_pcm.proofs.wave.convert.Goals as goal

pub from_bytes-requires-clause-lengths : goal.from_bytes-requires-clause-lengths
from_bytes-requires-clause-lengths c =
    let wide = width c.args.format.bits in
    let regroup : c.args.frames * (c.args.format.channels * wide) ≡ c.args.frames * c.args.format.channels * wide = omega arith in
    let count : length (take (c.args.frames * c.from.result) c.args.out.now) ≡ c.args.frames * c.args.format.channels =
    omega (arith, length-take (c.args.frames * c.from.result) c.args.out.now, ap (λ (n : ℕ). c.args.frames * n) c.from.ensures, c.requires.room) in
    c.requires.bytes ∙ regroup ∙ ap (λ (n : ℕ). n * wide) (sym count)
