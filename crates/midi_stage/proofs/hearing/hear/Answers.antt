use Rattle.std.proofs.Common.{List, [], ◌∷◌, ◌∙◌, ap₂}
use Rattle.jack_types.specs.declared.events.Event.{Event}
use Rattle.session_model.specs.Events.{merge}
use Rattle.midi_stage.specs.Sounding.{heard_on, sounded}
use Rattle.midi_stage.proofs.HearLemmas.{inputs-more}
use Rattle.midi_stage.proofs.hearing.hear.Goals as goal

pub loop-input-preserved : goal.loop-input-preserved
loop-input-preserved c =
    c.merge.ensures
    ∙ ap₂ (λ (out heard : List Event). merge (out ∷ heard ∷ [])) c.loop-input.invariant c.hear_input.ensures
    ∙ inputs-more (heard_on (sounded c.args.sounds.now) c.args.joints.now c.args.node) c.loop-input.input
