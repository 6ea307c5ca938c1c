use Rattle.std.proofs.Common.{◌≡◌, ℕ, ◌+◌, ◌*◌, ◌≤◌, ◌∙◌, List, ℤ, length, map, refl, ap, arith}
use Rattle.activation.specs.Values.{values_of}
use Rattle.activation.specs.session_model.specs.Benches.{audio_part}
use Rattle.activation.specs.session_model.specs.Samples.{mix}
use Rattle.client_kinds.specs.Buffers.{buffers_of}
use Rattle.client_kinds.proofs.BufferLemmas.{place_within}
use Rattle.client_benches.specs.Wires.{parts_into}
use Rattle.client_benches.proofs.PartLemmas.{length-mix}
use Rattle.client_benches.proofs.SliceLemmas.{buffers-more, length-with_buffer}
use Rattle.client_benches.proofs.mixing.mix_inputs.Goals as goal

pub loop-input-preserved : goal.loop-input-preserved
loop-input-preserved c = record {
  mixed = ap (buffers_of (c.loop-input.input + 1) c.args.ports.period) c.mix_place.ensures.value
      ∙ buffers-more mix_of c.loop-input.inputs c.loop-input.input c.args.ports.period (mix_of c.loop-input.input) fits (long c.loop-input.input) refl c.loop-input.invariant.mixed;
  long = ap length c.mix_place.ensures.value
      ∙ length-with_buffer c.loop-input.input c.args.ports.period c.loop-input.inputs (mix_of c.loop-input.input) fits (long c.loop-input.input) ∙ c.loop-input.invariant.long;
  room = c.mix_place.ensures.room ∙ c.loop-input.invariant.room;
  frames = c.mix_place.ensures.frames ∙ c.loop-input.invariant.frames;
}
  where
    mix_of : ℕ → List ℤ
    mix_of input = mix c.args.ports.period (map (audio_part (values_of c.args.given.now)) (parts_into c.args.wires.now input))

    long : (input : ℕ) → length (mix_of input) ≡ c.args.ports.period
    long input = length-mix c.args.ports.period (map (audio_part (values_of c.args.given.now)) (parts_into c.args.wires.now input))

    fits : c.loop-input.input * c.args.ports.period + c.args.ports.period ≤ length c.loop-input.inputs
    fits = omega (arith, place_within c.loop-input.input c.args.ports.inputs c.args.ports.period (omega (arith, c.loop-input-test.true)), c.requires.inputs, c.loop-input.invariant.long)
