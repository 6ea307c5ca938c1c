use Rattle.session_works.specs.Insides.{beside, seen_with}
use Rattle.std.proofs.Common.{ap}
use Rattle.session_works.specs.Drivers.{Gear}
use Rattle.session_works.proofs.PairedLemmas.{disks-same}
use Rattle.session_works.proofs.StayLemmas.{stay-disks, stays-met, stays-trans}
use Rattle.session_threads.proofs.phases.stop.Goals as goal

pub tell_all-requires : goal.tell_all-requires
tell_all-requires g c = record { pairs = disks-same c.args.works.now.driver c.renew_rings.new.driver c.args.works.now.readers.items (ap (λ (gear : Gear). gear.disks.disks) c.renew_rings.ensures.driver) c.requires.disks }

pub returns-clause-stopped : goal.returns-clause-stopped
returns-clause-stopped g c = record {
  renewed = seen_with g.G.Guest.sound (beside c.args.works.now.desk c.args.works.now.readers.items) c.renew_rings.new.driver c.renew_rings.new.recorders.items;
  told = seen_with g.G.Guest.sound (beside c.args.works.now.desk c.tell_all.new.readers.items) c.tell_all.new.driver c.renew_rings.new.recorders.items;
  renews = c.renew_rings.ensures.renewed (beside c.args.works.now.desk c.args.works.now.readers.items);
  tells = c.tell_all.ensures.told c.args.works.now.desk c.renew_rings.new.recorders.items;
  meets = c.meet.ensures.met;
}

pub returns-clause-stays : goal.returns-clause-stays
returns-clause-stays g c =
    let first = c.renew_rings.ensures.stays (beside c.args.works.now.desk c.args.works.now.readers.items) c.requires.files in
    let second = stay-disks g.G.Guest.sound (beside c.args.works.now.desk c.args.works.now.readers.items) (beside c.args.works.now.desk c.tell_all.new.readers.items) c.renew_rings.new.driver c.tell_all.new.driver c.renew_rings.new.recorders.items c.tell_all.ensures.driver c.tell_all.ensures.later first.files in
    stays-trans g.G.Guest.sound {S = g.row.S.Denot} {W = g.row.W.Denot} {G = g.row.G.Denot} c.args.works.now (record { desk = c.args.works.now.desk; driver = c.renew_rings.new.driver; recorders = c.renew_rings.new.recorders; readers = c.args.works.now.readers }) c.meet.new.works first
    (stays-trans g.G.Guest.sound {S = g.row.S.Denot} {W = g.row.W.Denot} {G = g.row.G.Denot} (record { desk = c.args.works.now.desk; driver = c.renew_rings.new.driver; recorders = c.renew_rings.new.recorders; readers = c.args.works.now.readers }) (record { desk = c.args.works.now.desk; driver = c.tell_all.new.driver; recorders = c.renew_rings.new.recorders; readers = c.tell_all.new.readers }) c.meet.new.works second (stays-met g.G.Guest.sound {S = g.row.S.Denot} {W = g.row.W.Denot} {G = g.row.G.Denot} (record { desk = c.args.works.now.desk; driver = c.tell_all.new.driver; recorders = c.renew_rings.new.recorders; readers = c.tell_all.new.readers }) c.meet.new.works c.meet.ensures.driver c.meet.ensures.recorders c.meet.ensures.readers second.files))
