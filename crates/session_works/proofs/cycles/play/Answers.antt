use Rattle.std.proofs.Common.{◌∙◌, ap}
use Rattle.std.proofs.lemmas.Result.{on_ok_weaker}
use Rattle.cycle_driver.specs.Gears.{Gear, driver_of}
use Rattle.cycle_driver.proofs.RunLemmas.{rings-none}
use Rattle.session_works.specs.Insides.{beside, parts_with}
use Rattle.session_works.specs.Turnings.{InDisk}
use Rattle.session_works.proofs.PairedLemmas.{disks-sound}
use Rattle.session_works.proofs.PlayLemmas.{going-sound, play-broke, play-stays, plays-through, read-may, rings-around, rose-around, written-around}
use Rattle.session_works.proofs.StayLemmas.{stay-disks}
use Rattle.session_works.proofs.TurningLemmas.{stays-stepped}
use Rattle.session_works.proofs.cycles.play.Goals as goal

pub read_ahead-requires-clause-pairs : goal.read_ahead-requires-clause-pairs
read_ahead-requires-clause-pairs g c = disks-sound g.G.Guest.sound (parts_with (beside c.requires.settled.1.desk c.args.readers.now.items) c.args.driver.now c.requires.settled.0) c.requires.settled.1.settled.sound

pub read_ahead-requires-clause-going : goal.read_ahead-requires-clause-going
read_ahead-requires-clause-going g c = going-sound g.G.Guest.sound (parts_with (beside c.requires.settled.1.desk c.args.readers.now.items) c.args.driver.now c.requires.settled.0) c.requires.settled.1.settled.sound

-- ---- a read failed

pub returns-in-Err-clause-fails : goal.returns-in-Err-clause-fails
returns-in-Err-clause-fails g c desk recordings = InDisk (c.in-Err.ensures.broken desk recordings)

pub returns-in-Err-clause-stays : goal.returns-in-Err-clause-stays
returns-in-Err-clause-stays g c desk recordings = stay-disks g.G.Guest.sound (beside desk c.args.readers.now.items) (beside desk c.read_ahead.new.readers.items) c.args.driver.now c.read_ahead.new.driver recordings c.read_ahead.ensures.driver c.read_ahead.ensures.later

pub returns-in-Err-clause-set : goal.returns-in-Err-clause-set
returns-in-Err-clause-set g c = ap (λ (d : Gear). d.set) c.read_ahead.ensures.driver

pub returns-in-Err-clause-table : goal.returns-in-Err-clause-table
returns-in-Err-clause-table g c = ap (λ (d : Gear). d.reading.table) c.read_ahead.ensures.driver

pub returns-in-Err-clause-rings : goal.returns-in-Err-clause-rings
returns-in-Err-clause-rings g c = rings-none (driver_of g.G.Guest.sound c.args.driver.now) (driver_of g.G.Guest.sound c.read_ahead.new.driver) (ap (λ (d : Gear). d.rings.rings) c.read_ahead.ensures.driver)

pub returns-in-Err-clause-read : goal.returns-in-Err-clause-read
returns-in-Err-clause-read g c is = c.in-Err.ensures.cause

-- ---- the driver went on

pub step-stepped-requires-clause-may : goal.step-stepped-requires-clause-may
step-stepped-requires-clause-may g c κs within = (read-may c.cycles_and_blocks.ensures g.G.Guest.sound c.args.freewheel c.args.most c.requires.settled.1.desk c.requires.settled.0 c.args.driver.now c.read_ahead.new.driver c.args.readers.now.items c.read_ahead.new.readers.items c.requires.settled.1.settled.sound c.in_default.ensures.read c.read_ahead.ensures.driver record { left = c.requires.left; kind = c.requires.kind; period = c.requires.period })

pub tell_all-requires : goal.tell_all-requires
tell_all-requires g c = record { pairs = c.step-stepped.ensures.disks c.read_ahead.new.readers.items c.read_ahead.ensures.pairs }

pub returns-clause-plays : goal.returns-clause-plays
returns-clause-plays g c = on_ok_weaker c.step-stepped.result (plays-through g.G.Guest.sound c.args.most c.args.driver.now c.read_ahead.new.driver c.step-stepped.new.driver c.tell_all.new.driver c.args.readers.now.items c.read_ahead.new.readers.items c.tell_all.new.readers.items c.in_default.ensures.read c.step-stepped.ensures.script c.tell_all.ensures.told) c.step-stepped.ensures.cycled

pub returns-clause-fails : goal.returns-clause-fails
returns-clause-fails g c = play-broke g.G.Guest.sound c.args.most c.args.driver.now c.read_ahead.new.driver c.step-stepped.new.driver c.tell_all.new.driver c.args.readers.now.items c.read_ahead.new.readers.items c.tell_all.new.readers.items c.in_default.ensures.read c.step-stepped.ensures.script c.tell_all.ensures.told c.step-stepped.result c.step-stepped.ensures.at_read c.step-stepped.ensures.at_write c.step-stepped.ensures.write

pub returns-clause-stays : goal.returns-clause-stays
returns-clause-stays g c =
    play-stays g.G.Guest.sound c.args.driver.now c.read_ahead.new.driver c.step-stepped.new.driver c.tell_all.new.driver c.args.readers.now.items c.read_ahead.new.readers.items c.tell_all.new.readers.items c.read_ahead.ensures.driver c.tell_all.ensures.driver c.read_ahead.ensures.later c.tell_all.ensures.later
    (λ desk recordings files. stays-stepped g.G.Guest.sound (beside desk c.read_ahead.new.readers.items) c.read_ahead.new.driver c.step-stepped.new.driver recordings files c.step-stepped.result (read-may c.cycles_and_blocks.ensures g.G.Guest.sound c.args.freewheel c.args.most c.requires.settled.1.desk c.requires.settled.0 c.args.driver.now c.read_ahead.new.driver c.args.readers.now.items c.read_ahead.new.readers.items c.requires.settled.1.settled.sound c.in_default.ensures.read c.read_ahead.ensures.driver record { left = c.requires.left; kind = c.requires.kind; period = c.requires.period }).playback c.step-stepped.ensures.cycled c.step-stepped.ensures.at_read c.step-stepped.ensures.at_write c.step-stepped.ensures.write c.step-stepped.ensures.capture)

pub returns-clause-set : goal.returns-clause-set
returns-clause-set g c = ap (λ (d : Gear). d.set) c.tell_all.ensures.driver ∙ c.step-stepped.ensures.set ∙ ap (λ (d : Gear). d.set) c.read_ahead.ensures.driver

pub returns-clause-table : goal.returns-clause-table
returns-clause-table g c = ap (λ (d : Gear). d.reading.table) c.tell_all.ensures.driver ∙ c.step-stepped.ensures.table ∙ ap (λ (d : Gear). d.reading.table) c.read_ahead.ensures.driver

pub returns-clause-rings : goal.returns-clause-rings
returns-clause-rings g c = rings-around g.G.Guest.sound c.args.driver.now c.read_ahead.new.driver c.step-stepped.new.driver c.tell_all.new.driver c.args.readers.now.items c.read_ahead.new.readers.items c.tell_all.new.readers.items c.read_ahead.ensures.driver c.tell_all.ensures.driver c.step-stepped.ensures.rings

pub returns-clause-read : goal.returns-clause-read
returns-clause-read g c is = rose-around g.G.Guest.sound c.args.driver.now c.read_ahead.new.driver c.step-stepped.new.driver c.tell_all.new.driver c.args.readers.now.items c.read_ahead.new.readers.items c.tell_all.new.readers.items c.read_ahead.ensures.driver c.tell_all.ensures.driver (c.step-stepped.ensures.read is)

pub returns-clause-write : goal.returns-clause-write
returns-clause-write g c is = written-around g.G.Guest.sound c.args.driver.now c.read_ahead.new.driver c.step-stepped.new.driver c.tell_all.new.driver c.args.readers.now.items c.read_ahead.new.readers.items c.tell_all.new.readers.items c.read_ahead.ensures.driver c.tell_all.ensures.driver (c.step-stepped.ensures.write is)
