use Rattle.std.proofs.Common.{◌≡◌, ◌*◌, sym, ◌∙◌, ap, subst, length, List, ℤ}
use Rattle.std.proofs.lemmas.List.{length-take-le}
use Rattle.client_kinds.specs.Buffers.{channels_of}
use Rattle.device_periods.specs.Captures.{AreOf}
use Rattle.device_periods.proofs.PeriodLemmas.{reads, shape, take_seam}
use Rattle.device_periods.proofs.captures.read_apart.Goals as goal

pub returns-clause-shape : goal.returns-clause-shape
returns-clause-shape g c = subst (AreOf c.args.channels c.args.frames) (sym c.take_front.ensures.channels) (shape c.args.channels c.args.frames _)

pub returns-clause-reads : goal.returns-clause-reads
returns-clause-reads g c =
    let long : length c.read_block.new.block ≡ c.args.frames * c.args.channels = c.read_block.ensures.length ∙ length-take-le (c.args.frames * c.args.channels) c.args.block.now c.requires.block in
    reads _ _ c.read_block.new.block _ c.args.channels c.args.frames long
    (c.take_front.ensures.channels ∙ ap (λ (block : List ℤ). channels_of c.args.channels c.args.frames block) (take_seam (c.args.frames * c.args.channels) c.read_block.new.block _ long))
    c.in_ok-read_block.ensures.samples
