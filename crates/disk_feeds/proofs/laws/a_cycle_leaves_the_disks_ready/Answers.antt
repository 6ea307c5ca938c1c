use Rattle.disk_feeds.proofs.LawLemmas.{periods-stay, up-to-next}
use Rattle.disk_feeds.proofs.laws.a_cycle_leaves_the_disks_ready.Goals as goal

pub returns : goal.returns
returns c = record { periods = periods-stay; underruns = up-to-next }
