use Rattle.std.proofs.Common.{rules, ◌≡◌, ap, length, ◌∙◌}
use Rattle.wave_pcm.specs.session_model.specs.Samples.{silence}
use Rattle.device_periods.proofs.PeriodLemmas.{pair_reads}
use Rattle.device_periods.proofs.captures.read_both.Goals as goal

pub returns-clause-reads : goal.returns-clause-reads
returns-clause-reads g c =
    let first : length c.pairs_into.new.left ≡ length c.args.left.now = search rules in
    let second : length c.pairs_into.new.right ≡ length c.args.left.now = search rules in
    pair_reads _ _ c.in_ok-frames.frames (length c.args.left.now) c.pairs_into.new.left c.pairs_into.new.right c.fill_silence.new.samples c.fill_silence-2.new.samples first second c.in_ok-frames.ensures.bound
    (c.fill_silence.ensures ∙ ap silence (search rules)) (c.fill_silence-2.ensures ∙ ap silence (search rules)) c.in_ok-frames.ensures.samples
