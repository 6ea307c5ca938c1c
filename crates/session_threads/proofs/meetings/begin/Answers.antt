use Rattle.std.proofs.Common.{ap}
use Rattle.session_works.specs.DeskWords.{Desk}
use Rattle.session_works.specs.Drivers.{Gear}
use Rattle.session_works.specs.Insides.{beside, seen, seen_with}
use Rattle.session_threads.proofs.meetings.begin.Goals as goal

pub returns-clause-opens : goal.returns-clause-opens
returns-clause-opens g c = record {
  grouped = seen_with g.G.Guest.sound (beside c.begin_group.new.desk c.args.works.now.readers.items) c.args.works.now.driver c.args.works.now.recorders.items;
  met = seen g.G.Guest.sound {S = g.row.S.Denot} {W = g.row.W.Denot} {G = g.row.G.Denot} c.meet.new.works;
  groups = record {
    runs = c.begin_group.ensures.runs;
    group = c.begin_group.ensures.done;
    desk = c.kept_by_type.ensures;
    published = c.begin_group.ensures.published;
    same = ap (λ (desk : Desk). seen_with g.G.Guest.sound (beside desk c.args.works.now.readers.items) c.args.works.now.driver c.args.works.now.recorders.items) c.begin_group.ensures.same;
  };
  meets = c.meet.ensures.met;
  paces = record { period = c.args.period; same = ap (λ (gear : Gear). seen_with g.G.Guest.sound (beside c.meet.new.works.desk c.meet.new.works.readers.items) gear c.meet.new.works.recorders.items) c.period.ensures };
}
