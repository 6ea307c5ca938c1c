use Rattle.std.proofs.Common.{sym, subst}
use Rattle.std.specs.List.Sorted.{IsPermutation}
use Rattle.client_seats.specs.Moves.{kinds_of}
use Rattle.client_stage.specs.Insides.{staged_by}
use Rattle.client_stage.proofs.CastLemmas.{kinds-same}
use Rattle.client_stage.proofs.RestLemmas.{recalls-rested, stands-rested, standings-rested}
use Rattle.client_stage.proofs.turning.turn_to.Goals as goal

pub returns-then-not-parts-clause-stands : goal.returns-then-not-parts-clause-stands
returns-then-not-parts-clause-stands g c last on goes number =
    let by = c.recast.ensures.stands last on goes number in
    stands-rested (staged_by {G = g.row.G.Denot} c.recast.new.parts c.args.crew c.args.plan.now.nodes) c.args.plan.now c.rest_all.new.rack c.rest_all.ensures.rested c.rest_all.ensures.lengths c.rest_all.ensures.links
    (c.kinds_alone_count.ensures c.args.plan.now c.recast.new.parts.rack c.recast.new.parts.owners c.rest_all.new.rack by.known
    (kinds-same c.recast.new.parts.rack c.rest_all.new.rack c.rest_all.ensures.lengths (standings-rested c.recast.new.parts.rack c.rest_all.new.rack c.rest_all.ensures.rested c.rest_all.ensures.lengths))) by

pub returns-then-not-parts-clause-recalls : goal.returns-then-not-parts-clause-recalls
returns-then-not-parts-clause-recalls g c refused =
    recalls-rested c.recast.new.parts.rack c.rest_all.new.rack c.rest_all.ensures.rested c.rest_all.ensures.lengths g.G.Guest.sound c.args.plan.now c.args.parts.now.rack c.args.parts.now.owners c.recast.new.parts.owners
    (c.recast.ensures.stands c.requires.stands.0 c.requires.stands.1 c.requires.stands.2 c.requires.stands.3).seating (c.recast.ensures.recalls refused)

pub returns-then-not-parts-clause-kinds : goal.returns-then-not-parts-clause-kinds
returns-then-not-parts-clause-kinds g c =
    subst (IsPermutation (kinds_of c.args.parts.now.rack))
    (sym (kinds-same c.recast.new.parts.rack c.rest_all.new.rack c.rest_all.ensures.lengths (standings-rested c.recast.new.parts.rack c.rest_all.new.rack c.rest_all.ensures.rested c.rest_all.ensures.lengths)))
    c.recast.ensures.kinds
