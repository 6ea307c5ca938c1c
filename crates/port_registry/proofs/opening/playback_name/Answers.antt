use Rattle.std.proofs.Common.{◌++◌, codes, sym, ◌∙◌, ap}
use Rattle.port_registry.proofs.OpeningLemmas.{one_digit}
use Rattle.port_registry.proofs.opening.playback_name.Goals as goal

pub returns : goal.returns
returns c = c.in-Ok.ensures.ok ∙ ap (λ ds. codes "system:playback_" ++ ds) (sym (one_digit c.args.channel c.requires))
