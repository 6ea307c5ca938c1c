use Rattle.disk_feeds.proofs.LawLemmas.{gets-one}
use Rattle.disk_feeds.proofs.laws.a_cycle_gets_one_block_of_each_ring.Goals as goal

pub returns : goal.returns
returns c = gets-one
