use Rattle.std.proofs.Common.{refl}
use Rattle.session_model.specs.Scripts.{phases}
use Rattle.serial_lanes.proofs.ItemLemmas.{some_at}
use Rattle.serial_lanes.proofs.SerialLemmas.{group-makes}
use Rattle.serial_lanes.proofs.lanes.begin_phase.Goals as goal

pub returns-clause-serial : goal.returns-clause-serial
returns-clause-serial c =
    let here = some_at (phases c.args.desk.now.script) c.args.phase c.requires.there in
    group-makes c.args.desk.now _ c.begin_group.new.desk c.args.phase here.0 c.kept_by_type.ensures.script here.1 c.requires.behind refl c.begin_group.ensures.runs
