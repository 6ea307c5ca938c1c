use Rattle.std.proofs.Common.{◌∙◌, ap, count_by, sym, take}
use Rattle.client_wiring.specs.Tables.{is_into}
use Rattle.client_wiring.proofs.LinkLemmas.{link_place-counted}
use Rattle.client_wiring.proofs.links.place_into.Goals as goal

pub returns : goal.returns
returns c = c.count_into.ensures ∙ ap (λ k. count_by (is_into c.args.to) (take k c.args.links.now)) c.first_link.ensures.place ∙ sym (link_place-counted c.args.links.now c.args.from c.args.to)
