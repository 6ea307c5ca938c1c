use Rattle.std.proofs.Common.{◌≡◌, ◌+◌, ◌*◌, ◌<◌, ◌≤◌, ◌∙◌, ap, length, take, arith}
use Rattle.std.proofs.Math.Nat.{mul-le-mul_right}
use Rattle.std.proofs.lemmas.List.{length-take-le}
use Rattle.client_kinds.specs.Buffers.{buffers_of, with_buffer}
use Rattle.client_kinds.proofs.BufferLemmas.{front-kept, place_within, repeat-step}
use Rattle.client_kinds.proofs.buffers.repeat_first.Goals as goal

pub loop-place-preserved : goal.loop-place-preserved
loop-place-preserved c = record {
  first = ap (λ output. take c.args.ports.period output) c.copy_first.ensures ∙ front-kept c.args.ports.period c.loop-place.place c.loop-place.output (take c.args.ports.period c.loop-place.output) low fits ∙ c.loop-place.invariant.first;
  done = ap (λ output. buffers_of (c.loop-place.place + 1) c.args.ports.period output) c.copy_first.ensures
      ∙ ap (λ buffer. buffers_of (c.loop-place.place + 1) c.args.ports.period (with_buffer c.args.ports.period c.loop-place.place c.loop-place.output buffer)) c.loop-place.invariant.first
      ∙ repeat-step c.loop-place.output c.loop-place.place c.args.ports.outputs c.args.ports.period (take c.args.ports.period c.args.output.now) lengths within (length-take-le c.args.ports.period c.args.output.now (omega (arith, low, fits, c.loop-place.auto.output))) c.loop-place.invariant.done;
}
  where
    lengths : length c.loop-place.output ≡ c.args.ports.outputs * c.args.ports.period
    lengths = omega (arith, c.loop-place.auto.output, c.requires)

    within : c.loop-place.place < c.args.ports.outputs
    within = omega (arith, c.loop-place-test.true, c.from-place-end.ensures)

    fits : c.loop-place.place * c.args.ports.period ≤ length c.loop-place.output
    fits = omega (arith, lengths, place_within c.loop-place.place c.args.ports.outputs c.args.ports.period within)

    low : c.args.ports.period ≤ c.loop-place.place * c.args.ports.period
    low = omega (arith, mul-le-mul_right c.args.ports.period c.loop-place.auto.place)
