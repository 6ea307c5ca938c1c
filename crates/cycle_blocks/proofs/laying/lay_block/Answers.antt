use Rattle.std.proofs.Common.{◌≡◌, ◌*◌, ℕ, ℤ, List, [], length, get_or, set, pos, sym, ◌∙◌, ap, arith}
use Rattle.std.proofs.lemmas.List.{length-replicate}
use Rattle.bench_rack.specs.Racks.{bench_at}
use Rattle.recorder_rings.specs.Sending.{Sent, block_at, channels_at}
use Rattle.cycle_blocks.specs.Blocks.{heard_at}
use Rattle.cycle_blocks.proofs.LayLemmas.{blocks-again, laid-heard, laid-more}
use Rattle.cycle_blocks.proofs.laying.lay_block.Goals as goal

pub channels-channels-requires : goal.channels-channels-requires
channels-channels-requires g c = omega (arith, c.requires.there, ap (λ (s : Sent). length s.rings) c.begin.ensures.after)

pub loop-channel-init : goal.loop-channel-init
loop-channel-init g c = record {
  count = sym c.channels-channels.ensures;
  laid = λ i channel low none. absurd (omega (arith, none));
  long =
      ap length c.begin.ensures.block
      ∙ length-replicate (c.args.period * channels_at c.args.rings.now c.args.recorder) (pos 0)
      ∙ ap (λ n. c.args.period * n) (sym (ap (λ (s : Sent). channels_at s c.args.recorder) c.begin.ensures.after) ∙ sym c.channels-channels.ensures);
  same = c.begin.ensures.after ∙ ap (λ (block : List ℤ). record c.args.rings.now { blocks = set c.args.rings.now.blocks c.args.recorder block }) (sym c.begin.ensures.block);
}

pub lay-requires-clause-there : goal.lay-requires-clause-there
lay-requires-clause-there g c = omega (arith, c.requires.there, ap (λ (s : Sent). length s.rings) c.loop-channel.invariant.same)

pub lay-requires-clause-place : goal.lay-requires-clause-place
lay-requires-clause-place g c = omega (arith, c.loop-channel.invariant.count, c.loop-channel-test.true)

pub lay-requires-clause-frames : goal.lay-requires-clause-frames
lay-requires-clause-frames g c = c.loop-channel.invariant.long ∙ ap (λ n. c.args.period * n) (sym c.loop-channel.invariant.count)

pub loop-channel-preserved : goal.loop-channel-preserved
loop-channel-preserved g c = record {
  count = ap (λ (s : Sent). channels_at s c.args.recorder) c.lay.ensures.others ∙ c.loop-channel.invariant.count;
  laid = laid-more c.args.period c.channels-channels.result (channels_at c.loop-channel.rings c.args.recorder) c.loop-channel.channel sounds c.sound_of-samples.result.now
      (block_at c.loop-channel.rings c.args.recorder) (block_at c.lay.new.self c.args.recorder) c.loop-channel.invariant.count (c.sound_of-samples.ensures ∙ ap sounds c.from.ensures) c.lay.ensures.laid c.loop-channel.invariant.laid;
  long = c.lay.ensures.length ∙ ap (λ n. c.args.period * n) c.loop-channel.invariant.count;
  same = blocks-again c.args.rings.now c.loop-channel.rings c.lay.new.self c.args.recorder (block_at c.loop-channel.rings c.args.recorder) (block_at c.lay.new.self c.args.recorder) c.loop-channel.invariant.same c.lay.ensures.others;
}
  where
    sounds : ℕ → List ℤ
    sounds j = get_or (bench_at c.args.rack.now c.args.place).kept.sounds j []

pub returns-clause-block : goal.returns-clause-block
returns-clause-block g c =
    laid-heard c.args.period c.channels-channels.result c.loop-channel.channel (bench_at c.args.rack.now c.args.place).kept.sounds (block_at c.loop-channel.rings c.args.recorder)
    c.loop-channel.invariant.long c.loop-channel-test.false c.loop-channel.invariant.laid
    ∙ ap (λ n. heard_at c.args.rack.now c.args.period n c.args.place) count
  where
    count : c.channels-channels.result ≡ channels_at c.args.rings.now c.args.recorder
    count = sym c.loop-channel.invariant.count ∙ ap (λ (s : Sent). channels_at s c.args.recorder) c.loop-channel.invariant.same

pub returns-clause-length : goal.returns-clause-length
returns-clause-length g c =
    c.loop-channel.invariant.long
    ∙ ap (λ n. c.args.period * n) (sym c.loop-channel.invariant.count ∙ ap (λ (s : Sent). channels_at s c.args.recorder) c.loop-channel.invariant.same)

pub returns-clause-others : goal.returns-clause-others
returns-clause-others g c = c.loop-channel.invariant.same
