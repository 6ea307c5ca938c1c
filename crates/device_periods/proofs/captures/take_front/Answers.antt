use Rattle.std.proofs.Common.{◌*◌, ◌∙◌}
use Rattle.std.proofs.lemmas.List.{length-take-le}
use Rattle.device_periods.proofs.PeriodLemmas.{front_buffers}
use Rattle.device_periods.proofs.captures.take_front.Goals as goal

pub returns-clause-channels : goal.returns-clause-channels
returns-clause-channels c =
    front_buffers c.args.channels c.args.frames c.take_apart.new.planar _ (c.take_apart.ensures.length ∙ length-take-le (c.args.channels * c.args.frames) c.args.planar.now c.requires.planar)
    ∙ c.take_apart.ensures.channels
