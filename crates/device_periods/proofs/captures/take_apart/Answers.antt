use Rattle.std.proofs.Common.{◌+◌, length, ◌∙◌, ap, refl}
use Rattle.client_kinds.specs.Buffers.{buffers_of}
use Rattle.client_kinds.proofs.BufferLemmas.{with_buffer-step}
use Rattle.device_periods.specs.Blocks.{channel_of}
use Rattle.device_periods.proofs.PeriodLemmas.{length-channel, length-with_buffer}
use Rattle.device_periods.proofs.captures.take_apart.Goals as goal

pub loop-place-preserved : goal.loop-place-preserved
loop-place-preserved c = record {
  length_is = ap length c.take_place.ensures ∙ length-with_buffer c.args.frames c.loop-place.place c.args.channels c.loop-place.planar _ c.loop-place.invariant.length_is c.loop-place-test.true (length-channel c.args.channels c.args.frames c.args.block.now c.loop-place.place);
  channels =
      ap (λ planar. buffers_of (c.loop-place.place + 1) c.args.frames planar) c.take_place.ensures
      ∙ with_buffer-step (channel_of c.args.channels c.args.frames c.args.block.now) c.loop-place.planar c.loop-place.place c.args.channels c.args.frames _
      c.loop-place.invariant.length_is c.loop-place-test.true (length-channel c.args.channels c.args.frames c.args.block.now c.loop-place.place) refl c.loop-place.invariant.channels;
}
