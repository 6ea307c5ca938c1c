use Rattle.std.proofs.Common.{◌≡◌, ◌*◌, length}
use Rattle.wave_pcm.specs.session_model.specs.Kinds.{outputs_by}
use Rattle.client_kinds.specs.Buffers.{buffers_of}
use Rattle.device_periods.specs.Blocks.{channel_of}
use Rattle.device_periods.proofs.captures.take_apart.Given as goal

abbrev pub invariant-loop-place : goal.invariant-loop-place
invariant-loop-place l = record {
  length_is : length l.planar ≡ l.channels * l.frames;
  channels : buffers_of l.place l.frames l.planar ≡ outputs_by l.place (channel_of l.channels l.frames l.block);
}
