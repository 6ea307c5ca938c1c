use Rattle.std.proofs.Common.{◌++◌, ◌∙◌, ap, length, take}
use Rattle.client_kinds.proofs.lines.fill_delayed.Goals as goal

pub returns : goal.returns
returns c = c.fill_behind.ensures ∙ ap (λ items. take (length c.args.part.now) (items ++ c.args.x.now)) c.as_slices.ensures
