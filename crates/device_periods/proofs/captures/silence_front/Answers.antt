use Rattle.std.proofs.Common.{◌*◌, ◌∙◌, ap, length, List, ℤ}
use Rattle.std.proofs.lemmas.List.{length-take-le}
use Rattle.client_kinds.proofs.BufferLemmas.{silent_buffers}
use Rattle.client_kinds.specs.Buffers.{buffers_of}
use Rattle.device_periods.proofs.PeriodLemmas.{front_buffers, length-silence}
use Rattle.device_periods.proofs.captures.silence_front.Goals as goal

pub returns-clause-silent : goal.returns-clause-silent
returns-clause-silent c =
    front_buffers c.args.channels c.args.frames c.fill_silence.new.samples _ (ap length c.fill_silence.ensures ∙ length-silence _ ∙ length-take-le (c.args.channels * c.args.frames) c.args.planar.now c.requires)
    ∙ ap (λ (samples : List ℤ). buffers_of c.args.channels c.args.frames samples) c.fill_silence.ensures
    ∙ silent_buffers c.args.channels c.args.frames _ (length-take-le (c.args.channels * c.args.frames) c.args.planar.now c.requires)
