use Rattle.std.proofs.Common.{◌&&◌, ◌==◌, ◌∙◌, List, ap, filter, map}
use Rattle.std.proofs.lemmas.List.{take_all}
use Rattle.session_model.specs.Events.{merge}
use Rattle.midi_wiring.specs.declared.joints.MidiJoint.{MidiJoint}
use Rattle.midi_stage.specs.Sounding.{brings, sounded}
use Rattle.midi_stage.proofs.HearLemmas.{heard-step}
use Rattle.midi_stage.proofs.hearing.hear_input.Goals as goal

pub loop-joint-preserved : goal.loop-joint-preserved
loop-joint-preserved c =
    c.add.ensures
    ∙ heard-step (λ (joint : MidiJoint). joint.node == c.args.node && joint.input == c.args.input) (λ (joint : MidiJoint). brings (sounded c.args.sounds.now) joint.from) c.args.joints.now c.loop-joint.joint-index _
    c.loop-joint-test.true c.loop-joint.out c.loop-joint.invariant

pub returns : goal.returns
returns c =
    c.loop-joint.invariant
    ∙ ap (λ (joints : List MidiJoint). merge (map (λ (joint : MidiJoint). brings (sounded c.args.sounds.now) joint.from) (filter (λ (joint : MidiJoint). joint.node == c.args.node && joint.input == c.args.input) joints)))
    (take_all c.loop-joint.joint-index c.args.joints.now c.loop-joint-test.false)
