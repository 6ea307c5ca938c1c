use Rattle.playback_laws.proofs.MixLemmas.{channels-mixed}
use Rattle.playback_laws.proofs.mixes.the_mix_is_played.Goals as goal

pub returns : goal.returns
returns c plan scores benches channels at planned graph as_many captured = channels-mixed plan planned scores benches channels at graph as_many captured
