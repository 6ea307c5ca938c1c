use Rattle.std.proofs.Common.{◌<◌, List, length, slice_get, sym, ◌∙◌, ap, subst, vec_items}
use Rattle.session_works.specs.Drivers.{Gear}
use Rattle.recorder_files.specs.Recorders.{Recording}
use Rattle.session_works.specs.RunWords.{Playing}
use Rattle.session_works.specs.Insides.{DisksPaired, beside, seen, seen_with}
use Rattle.session_works.proofs.PairedLemmas.{disks-same}
use Rattle.session_works.proofs.StayLemmas.{stay-disks, stays-met, stays-trans}
use Rattle.session_threads.proofs.phases.settle.Goals as goal

pub renew_rings-requires : goal.renew_rings-requires
renew_rings-requires g c =
    let items = ap vec_items c.finish_lanes.ensures.recorders in
    record {
      pairs = record {
        as_many = ap (λ (gear : Gear). length gear.rings.rings) c.finish_lanes.ensures.driver ∙ c.requires.pairs.as_many ∙ sym (ap length items);
        few = subst (λ (l : List Recording). length l < 256) (sym items) c.requires.pairs.few;
        each = λ i ring recording ring_is is.
            c.requires.pairs.each i ring recording (sym (ap (λ (gear : Gear). slice_get gear.rings.rings i) c.finish_lanes.ensures.driver) ∙ ring_is) (sym (ap (λ (l : List Recording). slice_get l i) items) ∙ is);
      };
    }

pub tell_all-requires : goal.tell_all-requires
tell_all-requires g c = record { pairs = disks-same c.finish_lanes.new.works.driver c.renew_rings.new.driver c.finish_lanes.new.works.readers.items (ap (λ (gear : Gear). gear.disks.disks) c.renew_rings.ensures.driver) (subst (λ (l : List Playing). DisksPaired c.finish_lanes.new.works.driver l) (sym (ap vec_items c.finish_lanes.ensures.readers)) (disks-same c.args.works.now.driver c.finish_lanes.new.works.driver c.args.works.now.readers.items (ap (λ (gear : Gear). gear.disks.disks) c.finish_lanes.ensures.driver) c.requires.disks)) }

pub returns-clause-settled : goal.returns-clause-settled
returns-clause-settled g c = record {
  heard = c.finish_lanes.ensures.filled.0;
  filled = seen g.G.Guest.sound {S = g.row.S.Denot} {W = g.row.W.Denot} {G = g.row.G.Denot} c.finish_lanes.new.works;
  renewed = seen_with g.G.Guest.sound (beside c.finish_lanes.new.works.desk c.finish_lanes.new.works.readers.items) c.renew_rings.new.driver c.renew_rings.new.recorders.items;
  told = seen_with g.G.Guest.sound (beside c.finish_lanes.new.works.desk c.tell_all.new.readers.items) c.tell_all.new.driver c.renew_rings.new.recorders.items;
  hears = c.finish_lanes.ensures.filled.1;
  fills = c.finish_lanes.ensures.filled.2;
  renews = c.renew_rings.ensures.renewed (beside c.finish_lanes.new.works.desk c.finish_lanes.new.works.readers.items);
  tells = c.tell_all.ensures.told c.finish_lanes.new.works.desk c.renew_rings.new.recorders.items;
  meets = c.meet.ensures.met;
}

pub returns-clause-stays : goal.returns-clause-stays
returns-clause-stays g c =
    let first = stays-met g.G.Guest.sound {S = g.row.S.Denot} {W = g.row.W.Denot} {G = g.row.G.Denot} c.args.works.now c.finish_lanes.new.works c.finish_lanes.ensures.driver c.finish_lanes.ensures.recorders c.finish_lanes.ensures.readers c.requires.files in
    let second = c.renew_rings.ensures.stays (beside c.finish_lanes.new.works.desk c.finish_lanes.new.works.readers.items) first.files in
    let third = stay-disks g.G.Guest.sound (beside c.finish_lanes.new.works.desk c.finish_lanes.new.works.readers.items) (beside c.finish_lanes.new.works.desk c.tell_all.new.readers.items) c.renew_rings.new.driver c.tell_all.new.driver c.renew_rings.new.recorders.items c.tell_all.ensures.driver c.tell_all.ensures.later second.files in
    stays-trans g.G.Guest.sound {S = g.row.S.Denot} {W = g.row.W.Denot} {G = g.row.G.Denot} c.args.works.now c.finish_lanes.new.works c.meet.new.works first
    (stays-trans g.G.Guest.sound {S = g.row.S.Denot} {W = g.row.W.Denot} {G = g.row.G.Denot} c.finish_lanes.new.works (record { desk = c.finish_lanes.new.works.desk; driver = c.renew_rings.new.driver; recorders = c.renew_rings.new.recorders; readers = c.finish_lanes.new.works.readers }) c.meet.new.works second
    (stays-trans g.G.Guest.sound {S = g.row.S.Denot} {W = g.row.W.Denot} {G = g.row.G.Denot} (record { desk = c.finish_lanes.new.works.desk; driver = c.renew_rings.new.driver; recorders = c.renew_rings.new.recorders; readers = c.finish_lanes.new.works.readers }) (record { desk = c.finish_lanes.new.works.desk; driver = c.tell_all.new.driver; recorders = c.renew_rings.new.recorders; readers = c.tell_all.new.readers }) c.meet.new.works third (stays-met g.G.Guest.sound {S = g.row.S.Denot} {W = g.row.W.Denot} {G = g.row.G.Denot} (record { desk = c.finish_lanes.new.works.desk; driver = c.tell_all.new.driver; recorders = c.renew_rings.new.recorders; readers = c.tell_all.new.readers }) c.meet.new.works c.meet.ensures.driver c.meet.ensures.recorders c.meet.ensures.readers third.files)))
