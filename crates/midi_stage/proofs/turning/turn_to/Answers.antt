use Rattle.std.proofs.Common.{Some, ap, ◌∙◌}
use Rattle.midi_stage.specs.Insides.{kinds_in}
use Rattle.midi_stage.proofs.TurnLemmas.{TurnsTo-same}
use Rattle.midi_stage.proofs.turning.turn_to.Goals as goal

pub returns-then-has_number : goal.returns-then-has_number
returns-then-has_number c last stands goes =
    TurnsTo-same last c.args.plan.now c.number.ensures.planned goes c.args.parts.now stands
    (c.owners_are_known.ensures.later last.changes c.args.plan.now.changes (kinds_in c.args.parts.now) c.args.parts.now.owners.items goes.front stands.known)
    (c.has_number.ensures c.if-has_number.true ∙ ap Some c.number.ensures.value)
