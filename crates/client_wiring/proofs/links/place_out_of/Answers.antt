use Rattle.std.proofs.Common.{◌∙◌, ap, count_by, take}
use Rattle.client_wiring.specs.Wirings.{is_from}
use Rattle.client_wiring.proofs.links.place_out_of.Goals as goal

pub returns : goal.returns
returns c = c.count_from.ensures ∙ ap (λ k. count_by (is_from c.args.from) (take k c.args.links.now)) c.first_link.ensures.place
