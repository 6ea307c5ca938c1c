use Rattle.std.proofs.Common.{refl}
use Rattle.disk_feeds.proofs.OpeningLemmas.{opened-empty, sound-made}
use Rattle.disk_feeds.proofs.making.make.Goals as goal

pub invariant_of-result : goal.invariant_of-result
invariant_of-result c =
    sound-made c.args.capacity c.args.period c.args.channels.now c.in_ok-disks.field-0.disks.items c.in_ok-disks.field-0.out.items c.in_ok-feeds.feeds.items c.in_ok-disks.ensures c.in_ok-feeds.ensures c.requires.disks c.requires.period

pub returns : goal.returns
returns c = record {
  channels_are = c.in_ok-feeds.ensures.channels_are;
  opened = c.in_ok-disks.ensures;
  empty = opened-empty c.args.capacity c.args.period _ _ _ c.in_ok-disks.ensures;
  played = c.in_ok-feeds.ensures.played;
  blocks = c.in_ok-feeds.ensures.blocks;
  underruns = c.in_ok-underruns.ensures.items;
  period_is = refl;
  misses_kept = c.in_ok-underruns.ensures.capacity;
}
