use Rattle.std.proofs.Common.{◌≡◌, ◌&&◌, ◌==◌, filter, map, take}
use Rattle.session_model.specs.Events.{merge}
use Rattle.midi_wiring.specs.declared.joints.MidiJoint.{MidiJoint}
use Rattle.midi_stage.specs.Sounding.{brings, sounded}
use Rattle.midi_stage.proofs.hearing.hear_input.Given as goal

abbrev pub invariant-loop-joint : goal.invariant-loop-joint
invariant-loop-joint l = l.out ≡ merge (map (λ (joint : MidiJoint). brings (sounded l.sounds) joint.from) (filter (λ (joint : MidiJoint). joint.node == l.node && joint.input == l.input) (take l.joint-index l.joints)))
