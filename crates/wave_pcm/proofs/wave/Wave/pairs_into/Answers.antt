use Rattle.std.proofs.Common.{rules}
use Rattle.wave_pcm.proofs.PairLemmas.{rest_behind}
use Rattle.wave_pcm.proofs.wave.Wave.pairs_into.Goals as goal

pub returns-clause-rest_left : goal.returns-clause-rest_left
returns-clause-rest_left g c = rest_behind c.read_pairs.result c.read_pairs.new.left c.args.left.now c.frames_left-frames.result (search rules) (search rules) c.read_pairs.ensures.bound c.read_pairs.ensures.rest_left

pub returns-clause-rest_right : goal.returns-clause-rest_right
returns-clause-rest_right g c = rest_behind c.read_pairs.result c.read_pairs.new.right c.args.right.now c.frames_left-frames.result (search rules) (search rules) (search rules) c.read_pairs.ensures.rest_right
