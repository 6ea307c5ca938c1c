use Rattle.std.proofs.Common.{rules}
use Rattle.wave_pcm.proofs.InputLemmas.{filled}
use Rattle.wave_pcm.proofs.input.fill.Goals as goal

pub filling-preserved : goal.filling-preserved
filling-preserved g c =
    record {
      within = c.in_ok-count.ensures.bound;
      taken = filled _ _ _ c.filling.buffer c.read_from.new.buffer c.filling.at c.in_ok-count.count c.read_from.ensures.front c.filling.invariant.taken c.in_ok-count.ensures.bytes;
      kept = search rules;
    }
