use Rattle.std.proofs.Common.{◌++◌, ◌∙◌, [], List, ap, ap₂, arith, filter_map, sym}
use Rattle.std.specs.List.{cons_option}
use Rattle.std.proofs.lemmas.List.{take_all}
use Rattle.midi_wiring.specs.declared.joints.MidiGiven.{MidiGiven}
use Rattle.midi_stage.specs.Sounding.{output_from}
use Rattle.midi_stage.proofs.HearLemmas.{made-more}
use Rattle.midi_stage.proofs.carrying.carry.Goals as goal

pub loop-output-preserved : goal.loop-output-preserved
loop-output-preserved c = record {
  outputs = c.put_some.ensures.items
      ∙ ap₂ (λ outputs output. outputs ++ cons_option output []) c.loop-output.invariant.outputs c.output_of.ensures
      ∙ sym (made-more (output_from c.args.seats.now) c.args.given.now c.loop-output.output-index _ c.loop-output-test.true);
  few = omega (arith, c.put_some.ensures.few, c.loop-output.invariant.few);
  room = c.put_some.ensures.room ∙ c.loop-output.invariant.room;
}

pub returns-clause-outputs : goal.returns-clause-outputs
returns-clause-outputs c =
    c.loop-output.invariant.outputs
    ∙ ap (λ (given : List MidiGiven). filter_map (output_from c.args.seats.now) given) (take_all c.loop-output.output-index c.args.given.now c.loop-output-test.false)
