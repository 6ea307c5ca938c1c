use Rattle.std.proofs.Common.{◌≡◌, Bool, false, rules, subst}
use Rattle.driver_words.specs.Feeding.{disk_at}
use Rattle.session_works.specs.DiskSteps.{TriedOne}
use Rattle.session_works.proofs.reading.try_one.Goals as goal

pub returns-else-goes-clause-tried : goal.returns-else-goes-clause-tried
returns-else-goes-clause-tried g c =
    let same : false ≡ c.args.goes = search rules in
    subst (λ (b : Bool). TriedOne c.args.most b false c.args.reader.now (disk_at c.args.driver.now.disks c.args.disk) c.tell_one.new.reader (disk_at c.tell_one.new.driver.disks c.args.disk)) same (c.tell_one.ensures.told c.args.most)
