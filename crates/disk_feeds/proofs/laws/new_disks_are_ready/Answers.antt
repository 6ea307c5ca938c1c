use Rattle.disk_feeds.proofs.LawLemmas.{new-counted, new-none, new-periods, new-up-to}
use Rattle.disk_feeds.proofs.laws.new_disks_are_ready.Goals as goal

pub returns : goal.returns
returns c = record { periods = new-periods; counted = new-counted; underruns = new-up-to; none = new-none }
