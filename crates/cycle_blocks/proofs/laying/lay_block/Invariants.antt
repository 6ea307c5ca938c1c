use Rattle.std.proofs.Common.{◌≡◌, ◌*◌, [], length, map, get_or, set}
use Rattle.session_model.specs.Samples.{below}
use Rattle.bench_rack.specs.Racks.{bench_at}
use Rattle.recorder_rings.specs.device_periods.specs.Blocks.{IsLaid}
use Rattle.recorder_rings.specs.Sending.{block_at, channels_at}
use Rattle.cycle_blocks.proofs.laying.lay_block.Given as goal

abbrev pub invariant-loop-channel : goal.invariant-loop-channel
invariant-loop-channel g l = record {
  count : channels_at l.rings l.recorder ≡ l.channels;
  laid : IsLaid l.channels l.period (map (λ j. get_or (bench_at l.rack l.place).kept.sounds j []) (below l.channel)) (block_at l.rings l.recorder);
  long : length (block_at l.rings l.recorder) ≡ l.period * l.channels;
  same : l.rings ≡ record l.fn.rings { blocks = set l.fn.rings.blocks l.recorder (block_at l.rings l.recorder) };
}
