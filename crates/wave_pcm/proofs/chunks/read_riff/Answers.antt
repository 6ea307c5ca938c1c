use Rattle.std.proofs.Common.{rules, ◌≡◌, arith, length, sym}
use Rattle.wave_pcm.proofs.ChunkLemmas.{begins, not_riff, not_wave}
use Rattle.wave_pcm.proofs.chunks.read_riff.Goals as goal

pub returns-then-not-is_riff-clause-fails : goal.returns-then-not-is_riff-clause-fails
returns-then-not-is_riff-clause-fails g c =
    let long : length c.fill.new.buffer ≡ 12 = search rules in
    λ _. not_riff _ _ c.fill.new.buffer c.in-Ok.count long c.if-count-lt4.false (omega (arith, c.in-Ok.ensures.bound, long)) (sym c.if-not-is_riff.ensures) c.in-Ok.ensures.bytes

pub returns-then-not-is_wave-clause-fails : goal.returns-then-not-is_wave-clause-fails
returns-then-not-is_wave-clause-fails g c =
    let long : length c.fill.new.buffer ≡ 12 = search rules in
    λ _. not_wave _ _ c.fill.new.buffer c.in-Ok.count long (omega (arith, c.in-Ok.ensures.bound, c.if-count-lt12.false, long)) (sym c.if-not-is_riff.ensures) (sym c.if-not-is_wave.ensures) c.in-Ok.ensures.bytes

pub returns-clause-begins : goal.returns-clause-begins
returns-clause-begins g c =
    let long : length c.fill.new.buffer ≡ 12 = search rules in
    begins _ _ c.fill.new.buffer c.in-Ok.count long (omega (arith, c.in-Ok.ensures.bound, c.if-count-lt12.false, long)) (sym c.if-not-is_riff.ensures) (sym c.if-not-is_wave.ensures) c.in-Ok.ensures.bytes
