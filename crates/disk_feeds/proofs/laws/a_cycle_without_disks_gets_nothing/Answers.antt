use Rattle.std.proofs.Common.{refl}
use Rattle.disk_feeds.proofs.LawLemmas.{none-changes, none-gets, none-may}
use Rattle.disk_feeds.proofs.laws.a_cycle_without_disks_gets_nothing.Goals as goal

pub returns : goal.returns
returns c = record {
  none = record { disks = refl; played = refl; blocks = refl };
  may = none-may;
  gets = none-gets;
  nothing = none-changes;
}
