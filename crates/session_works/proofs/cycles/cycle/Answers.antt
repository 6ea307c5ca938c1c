use Rattle.std.proofs.Common.{Err, ◌∙◌, ap}
use Rattle.std.proofs.lemmas.Result.{on_err_weaker, on_ok_weaker}
use Rattle.cycle_driver.specs.Gears.{Gear}
use Rattle.session_works.proofs.PairedLemmas.{disks-same, disks-sound, paired-driven}
use Rattle.session_works.proofs.StayLemmas.{source-behind, stay-trans}
use Rattle.session_works.proofs.StoreLemmas.{rose-behind}
use Rattle.session_works.proofs.TurningLemmas.{caught, drain-fails, emptied-settled, goes-through, most_is, next-emptied, play-fails, playback-caused, played-sound}
use Rattle.session_works.specs.Insides.{beside, parts_with, seen_with}
use Rattle.session_works.specs.Parts.{stores_in}
use Rattle.session_works.specs.Turnings.{AtEmptying}
use Rattle.session_works.proofs.ResultLemmas.{on-err}
use Rattle.session_works.proofs.cycles.cycle.Goals as goal

pub empty-requires-clause-able : goal.empty-requires-clause-able
empty-requires-clause-able g c = record { aside = beside c.requires.settled.desk c.args.readers.now.items; sound = c.requires.settled.settled.sound; files = c.requires.settled.files }

-- ---- the rings could not be emptied

pub returns-in_err-empty-clause-fails : goal.returns-in_err-empty-clause-fails
returns-in_err-empty-clause-fails g c desk settled =
    let broken = c.in_err-empty.ensures.broken (beside desk c.args.readers.now.items) settled.sound in
    on-err c.from_residual.result (AtEmptying broken.0 broken.1)

pub returns-in_err-empty-clause-stays : goal.returns-in_err-empty-clause-stays
returns-in_err-empty-clause-stays g c desk = (c.empty.ensures.stays (beside desk c.args.readers.now.items))

pub returns-in_err-empty-clause-disks : goal.returns-in_err-empty-clause-disks
returns-in_err-empty-clause-disks g c = disks-same c.args.driver.now c.empty.new.driver c.args.readers.now.items (ap (λ (d : Gear). d.disks.disks) c.empty.ensures.driver) (disks-sound g.G.Guest.sound (parts_with (beside c.requires.settled.desk c.args.readers.now.items) c.args.driver.now c.args.recorders.now.items) c.requires.settled.settled.sound)

pub returns-in_err-empty-clause-read : goal.returns-in_err-empty-clause-read
returns-in_err-empty-clause-read g c desk is = absurd (c.empty.ensures.read (c.in_err-empty.was ∙ ap Err (caught c.from_residual.result c.in_err-empty.field-0.0 _ c.from_residual.ensures.1 is)))

pub returns-in_err-empty-clause-write : goal.returns-in_err-empty-clause-write
returns-in_err-empty-clause-write g c desk is = c.empty.ensures.write (beside desk c.args.readers.now.items) (c.in_err-empty.was ∙ ap Err (caught c.from_residual.result c.in_err-empty.field-0.0 _ c.from_residual.ensures.1 is))

-- ---- the driver's cycle

pub play-requires-clause-settled : goal.play-requires-clause-settled
play-requires-clause-settled g c κs within = (
  c.empty.new.recorders.items,
  record {
    desk = c.requires.settled.desk;
    settled = emptied-settled c.cycles_and_blocks.ensures c.args.freewheel (seen_with g.G.Guest.sound (beside c.requires.settled.desk c.args.readers.now.items) c.args.driver.now c.args.recorders.now.items) (seen_with g.G.Guest.sound (beside c.requires.settled.desk c.args.readers.now.items) c.empty.new.driver c.empty.new.recorders.items) c.requires.settled.settled (c.in_ok-empty.ensures.emptied (beside c.requires.settled.desk c.args.readers.now.items) c.requires.settled.settled.sound);
    files = (c.empty.ensures.stays (beside c.requires.settled.desk c.args.readers.now.items)).files;
  },
)

pub play-requires-clause-left : goal.play-requires-clause-left
play-requires-clause-left g c κs within = (next-emptied g.G.Guest.sound c.args.driver.now c.empty.new.driver c.args.freewheel c.empty.ensures.driver record { left = c.requires.left; kind = c.requires.kind; period = c.requires.period }).left

pub play-requires-clause-kind : goal.play-requires-clause-kind
play-requires-clause-kind g c κs within = (next-emptied g.G.Guest.sound c.args.driver.now c.empty.new.driver c.args.freewheel c.empty.ensures.driver record { left = c.requires.left; kind = c.requires.kind; period = c.requires.period }).kind

pub play-requires-clause-period : goal.play-requires-clause-period
play-requires-clause-period g c κs within = (next-emptied g.G.Guest.sound c.args.driver.now c.empty.new.driver c.args.freewheel c.empty.ensures.driver record { left = c.requires.left; kind = c.requires.kind; period = c.requires.period }).period

pub returns-in_err-play-clause-fails : goal.returns-in_err-play-clause-fails
returns-in_err-play-clause-fails g c desk settled =
    on-err c.from_residual-in_err-play.result
    (play-fails c.args.freewheel c.most_filled.result (seen_with g.G.Guest.sound (beside desk c.args.readers.now.items) c.args.driver.now c.args.recorders.now.items) (seen_with g.G.Guest.sound (beside desk c.args.readers.now.items) c.empty.new.driver c.empty.new.recorders.items) (most_is c.args.freewheel c.most_filled.result c.args.limits.ring c.args.limits.fill c.args.driver.now.script.header.ring c.args.driver.now.script.header.fill c.requires.ring c.requires.fill c.most_filled.ensures) (c.in_ok-empty.ensures.emptied (beside desk c.args.readers.now.items) settled.sound) (seen_with g.G.Guest.sound (beside desk c.play.new.readers.items) c.play.new.driver c.empty.new.recorders.items) (c.in_err-play.ensures.fails desk c.empty.new.recorders.items))

pub returns-in_err-play-clause-stays : goal.returns-in_err-play-clause-stays
returns-in_err-play-clause-stays g c desk = (stay-trans g.G.Guest.sound (parts_with (beside desk c.args.readers.now.items) c.args.driver.now c.args.recorders.now.items) (parts_with (beside desk c.args.readers.now.items) c.empty.new.driver c.empty.new.recorders.items) (parts_with (beside desk c.play.new.readers.items) c.play.new.driver c.empty.new.recorders.items) (c.empty.ensures.stays (beside desk c.args.readers.now.items)) (c.play.ensures.stays desk c.empty.new.recorders.items (c.empty.ensures.stays (beside desk c.args.readers.now.items)).files))

pub returns-in_err-play-clause-pairs : goal.returns-in_err-play-clause-pairs
returns-in_err-play-clause-pairs g c pairs = paired-driven g.G.Guest.sound c.empty.new.driver c.play.new.driver c.empty.new.recorders.items c.play.ensures.rings (c.empty.ensures.pairs pairs)

pub returns-in_err-play-clause-read : goal.returns-in_err-play-clause-read
returns-in_err-play-clause-read g c desk is = source-behind g.G.Guest.sound (parts_with (beside desk c.args.readers.now.items) c.args.driver.now c.args.recorders.now.items) (parts_with (beside desk c.args.readers.now.items) c.empty.new.driver c.empty.new.recorders.items) (parts_with (beside desk c.play.new.readers.items) c.play.new.driver c.empty.new.recorders.items) (c.empty.ensures.stays (beside desk c.args.readers.now.items)) (c.play.ensures.read (c.in_err-play.was ∙ ap Err (caught c.from_residual-in_err-play.result c.in_err-play.field-0.0 _ c.from_residual-in_err-play.ensures.1 is)) desk c.empty.new.recorders.items)

pub returns-in_err-play-clause-write : goal.returns-in_err-play-clause-write
returns-in_err-play-clause-write g c desk is =
    rose-behind (stores_in (parts_with (beside desk c.args.readers.now.items) c.args.driver.now c.args.recorders.now.items)) (stores_in (parts_with (beside desk c.args.readers.now.items) c.empty.new.driver c.empty.new.recorders.items)) (stores_in (parts_with (beside desk c.play.new.readers.items) c.play.new.driver c.empty.new.recorders.items)) (c.empty.ensures.stays (beside desk c.args.readers.now.items)).later (playback-caused (beside desk c.args.readers.now.items) c.empty.new.driver c.play.new.driver c.empty.new.recorders.items (c.play.ensures.write (c.in_err-play.was ∙ ap Err (caught c.from_residual-in_err-play.result c.in_err-play.field-0.0 _ c.from_residual-in_err-play.ensures.1 is))))

-- ---- behind it

pub drain-requires : goal.drain-requires
drain-requires g c = record {
  able = record {
    aside = beside c.requires.settled.desk c.play.new.readers.items;
    sound = (played-sound c.cycles_and_blocks.ensures c.args.freewheel c.most_filled.result (seen_with g.G.Guest.sound (beside c.requires.settled.desk c.args.readers.now.items) c.args.driver.now c.args.recorders.now.items) (seen_with g.G.Guest.sound (beside c.requires.settled.desk c.args.readers.now.items) c.empty.new.driver c.empty.new.recorders.items) (seen_with g.G.Guest.sound (beside c.requires.settled.desk c.play.new.readers.items) c.play.new.driver c.empty.new.recorders.items) c.requires.settled.settled record { left = (next-emptied g.G.Guest.sound c.args.driver.now c.empty.new.driver c.args.freewheel c.empty.ensures.driver record { left = c.requires.left; kind = c.requires.kind; period = c.requires.period }).left; kind = (next-emptied g.G.Guest.sound c.args.driver.now c.empty.new.driver c.args.freewheel c.empty.ensures.driver record { left = c.requires.left; kind = c.requires.kind; period = c.requires.period }).kind } (most_is c.args.freewheel c.most_filled.result c.args.limits.ring c.args.limits.fill c.args.driver.now.script.header.ring c.args.driver.now.script.header.fill c.requires.ring c.requires.fill c.most_filled.ensures) (c.in_ok-empty.ensures.emptied (beside c.requires.settled.desk c.args.readers.now.items) c.requires.settled.settled.sound) (c.in_ok-play.ensures.plays c.requires.settled.desk c.empty.new.recorders.items));
    files = (c.play.ensures.stays c.requires.settled.desk c.empty.new.recorders.items (c.empty.ensures.stays (beside c.requires.settled.desk c.args.readers.now.items)).files).files;
  };
}

pub returns-clause-goes : goal.returns-clause-goes
returns-clause-goes g c desk settled =
    on_ok_weaker c.drain.result
    (goes-through c.args.freewheel c.most_filled.result (seen_with g.G.Guest.sound (beside desk c.args.readers.now.items) c.args.driver.now c.args.recorders.now.items) (seen_with g.G.Guest.sound (beside desk c.args.readers.now.items) c.empty.new.driver c.empty.new.recorders.items) (most_is c.args.freewheel c.most_filled.result c.args.limits.ring c.args.limits.fill c.args.driver.now.script.header.ring c.args.driver.now.script.header.fill c.requires.ring c.requires.fill c.most_filled.ensures) (c.in_ok-empty.ensures.emptied (beside desk c.args.readers.now.items) settled.sound) c.most.result (seen_with g.G.Guest.sound (beside desk c.play.new.readers.items) c.play.new.driver c.empty.new.recorders.items) (seen_with g.G.Guest.sound (beside desk c.play.new.readers.items) c.drain.new.driver c.drain.new.recorders.items) (most_is c.args.freewheel c.most.result c.args.limits.ring c.args.limits.drain c.args.driver.now.script.header.ring c.args.driver.now.script.header.drain c.requires.ring c.requires.drain c.most.ensures) (c.in_ok-play.ensures.plays desk c.empty.new.recorders.items))
    (c.drain.ensures.given (beside desk c.play.new.readers.items) (played-sound c.cycles_and_blocks.ensures c.args.freewheel c.most_filled.result (seen_with g.G.Guest.sound (beside desk c.args.readers.now.items) c.args.driver.now c.args.recorders.now.items) (seen_with g.G.Guest.sound (beside desk c.args.readers.now.items) c.empty.new.driver c.empty.new.recorders.items) (seen_with g.G.Guest.sound (beside desk c.play.new.readers.items) c.play.new.driver c.empty.new.recorders.items) settled record { left = (next-emptied g.G.Guest.sound c.args.driver.now c.empty.new.driver c.args.freewheel c.empty.ensures.driver record { left = c.requires.left; kind = c.requires.kind; period = c.requires.period }).left; kind = (next-emptied g.G.Guest.sound c.args.driver.now c.empty.new.driver c.args.freewheel c.empty.ensures.driver record { left = c.requires.left; kind = c.requires.kind; period = c.requires.period }).kind } (most_is c.args.freewheel c.most_filled.result c.args.limits.ring c.args.limits.fill c.args.driver.now.script.header.ring c.args.driver.now.script.header.fill c.requires.ring c.requires.fill c.most_filled.ensures) (c.in_ok-empty.ensures.emptied (beside desk c.args.readers.now.items) settled.sound) (c.in_ok-play.ensures.plays desk c.empty.new.recorders.items)))

pub returns-clause-fails : goal.returns-clause-fails
returns-clause-fails g c desk settled =
    on_err_weaker c.drain.result
    (drain-fails c.args.freewheel c.most_filled.result (seen_with g.G.Guest.sound (beside desk c.args.readers.now.items) c.args.driver.now c.args.recorders.now.items) (seen_with g.G.Guest.sound (beside desk c.args.readers.now.items) c.empty.new.driver c.empty.new.recorders.items) (most_is c.args.freewheel c.most_filled.result c.args.limits.ring c.args.limits.fill c.args.driver.now.script.header.ring c.args.driver.now.script.header.fill c.requires.ring c.requires.fill c.most_filled.ensures) (c.in_ok-empty.ensures.emptied (beside desk c.args.readers.now.items) settled.sound) c.most.result (seen_with g.G.Guest.sound (beside desk c.play.new.readers.items) c.play.new.driver c.empty.new.recorders.items) (seen_with g.G.Guest.sound (beside desk c.play.new.readers.items) c.drain.new.driver c.drain.new.recorders.items) (most_is c.args.freewheel c.most.result c.args.limits.ring c.args.limits.drain c.args.driver.now.script.header.ring c.args.driver.now.script.header.drain c.requires.ring c.requires.drain c.most.ensures) (c.in_ok-play.ensures.plays desk c.empty.new.recorders.items))
    (c.drain.ensures.broken (beside desk c.play.new.readers.items) (played-sound c.cycles_and_blocks.ensures c.args.freewheel c.most_filled.result (seen_with g.G.Guest.sound (beside desk c.args.readers.now.items) c.args.driver.now c.args.recorders.now.items) (seen_with g.G.Guest.sound (beside desk c.args.readers.now.items) c.empty.new.driver c.empty.new.recorders.items) (seen_with g.G.Guest.sound (beside desk c.play.new.readers.items) c.play.new.driver c.empty.new.recorders.items) settled record { left = (next-emptied g.G.Guest.sound c.args.driver.now c.empty.new.driver c.args.freewheel c.empty.ensures.driver record { left = c.requires.left; kind = c.requires.kind; period = c.requires.period }).left; kind = (next-emptied g.G.Guest.sound c.args.driver.now c.empty.new.driver c.args.freewheel c.empty.ensures.driver record { left = c.requires.left; kind = c.requires.kind; period = c.requires.period }).kind } (most_is c.args.freewheel c.most_filled.result c.args.limits.ring c.args.limits.fill c.args.driver.now.script.header.ring c.args.driver.now.script.header.fill c.requires.ring c.requires.fill c.most_filled.ensures) (c.in_ok-empty.ensures.emptied (beside desk c.args.readers.now.items) settled.sound) (c.in_ok-play.ensures.plays desk c.empty.new.recorders.items)))

pub returns-clause-stays : goal.returns-clause-stays
returns-clause-stays g c desk = stay-trans g.G.Guest.sound (parts_with (beside desk c.args.readers.now.items) c.args.driver.now c.args.recorders.now.items) (parts_with (beside desk c.play.new.readers.items) c.play.new.driver c.empty.new.recorders.items) (parts_with (beside desk c.play.new.readers.items) c.drain.new.driver c.drain.new.recorders.items) (stay-trans g.G.Guest.sound (parts_with (beside desk c.args.readers.now.items) c.args.driver.now c.args.recorders.now.items) (parts_with (beside desk c.args.readers.now.items) c.empty.new.driver c.empty.new.recorders.items) (parts_with (beside desk c.play.new.readers.items) c.play.new.driver c.empty.new.recorders.items) (c.empty.ensures.stays (beside desk c.args.readers.now.items)) (c.play.ensures.stays desk c.empty.new.recorders.items (c.empty.ensures.stays (beside desk c.args.readers.now.items)).files)) (c.drain.ensures.stays (beside desk c.play.new.readers.items))

pub returns-clause-pairs : goal.returns-clause-pairs
returns-clause-pairs g c pairs = c.drain.ensures.pairs (paired-driven g.G.Guest.sound c.empty.new.driver c.play.new.driver c.empty.new.recorders.items c.play.ensures.rings (c.empty.ensures.pairs pairs))

pub returns-clause-disks : goal.returns-clause-disks
returns-clause-disks g c = disks-same c.play.new.driver c.drain.new.driver c.play.new.readers.items (ap (λ (d : Gear). d.disks.disks) c.drain.ensures.driver) c.play.ensures.disks

pub returns-clause-read : goal.returns-clause-read
returns-clause-read g c desk is = absurd (c.drain.ensures.read is)

pub returns-clause-write : goal.returns-clause-write
returns-clause-write g c desk is =
    rose-behind (stores_in (parts_with (beside desk c.args.readers.now.items) c.args.driver.now c.args.recorders.now.items)) (stores_in (parts_with (beside desk c.play.new.readers.items) c.play.new.driver c.empty.new.recorders.items)) (stores_in (parts_with (beside desk c.play.new.readers.items) c.drain.new.driver c.drain.new.recorders.items)) (stay-trans g.G.Guest.sound (parts_with (beside desk c.args.readers.now.items) c.args.driver.now c.args.recorders.now.items) (parts_with (beside desk c.args.readers.now.items) c.empty.new.driver c.empty.new.recorders.items) (parts_with (beside desk c.play.new.readers.items) c.play.new.driver c.empty.new.recorders.items) (c.empty.ensures.stays (beside desk c.args.readers.now.items)) (c.play.ensures.stays desk c.empty.new.recorders.items (c.empty.ensures.stays (beside desk c.args.readers.now.items)).files)).later (c.drain.ensures.write (beside desk c.play.new.readers.items) is)
