use Rattle.std.proofs.Common.{◌<◌, ◌∙◌, List, ap, arith, length, rules, subst, sym}
use Rattle.std.proofs.lemmas.Option.{none-some}
use Rattle.jack_types.specs.declared.scripts.Header.{Header}
use Rattle.driver_laws.specs.Drivers.{greatest_period}
use Rattle.session_works.specs.RunWords.{Playing}
use Rattle.session_ends.proofs.ReaderLemmas.{AreMade, as-many-files, end-is, end-next, file-next, given-of, made-all, made-more, made-none, reads-next, some-left}
use Rattle.session_ends.proofs.reading.make_readers.Goals as goal

pub loop-disk-init : goal.loop-disk-init
loop-disk-init g c = record {
  made = subst (λ (players : List Playing). AreMade c.args.script.now.header.ring (greatest_period c.args.script.now) c.args.waves.items c.args.blocks.items c.args.driver.now c.args.driver.now 0 c.args.waves.items c.args.blocks.items players) (sym c.requires.room.0)
      (made-none c.args.script.now.header.ring (greatest_period c.args.script.now) c.args.waves.items c.args.blocks.items c.args.driver.now);
  end = ap length (c.as_slice-count.ensures.value ∙ ap (λ (h : Header). h.disks) c.header.ensures.value);
  within = omega arith;
  room = c.requires.room.1;
}

pub unreachable-requires : goal.unreachable-requires
unreachable-requires g c =
    let given = given-of _ _ _ _ c.args.driver.now c.requires.lawful c.requires.period c.requires.rings c.requires.disks c.requires.blocks in
    let low : c.loop-disk.disk < length c.args.waves.items = (let long = as-many-files _ _ _ _ _ _ _ given in omega (arith, c.loop-disk-test.true, c.loop-disk.invariant.end, long)) in
    let end = end-next _ _ _ _ _ _ _ given c.loop-disk.disk low c.loop-disk.driver c.loop-disk.waves.items c.loop-disk.blocks.items c.loop-disk.readers.items c.loop-disk.invariant.made c.disk_producer.result c.disk_producer.ensures.end in
    none-some end.0 (sym c.in_default.is ∙ end.1)

pub remove-block-requires : goal.remove-block-requires
remove-block-requires g c =
    let given = given-of _ _ _ _ c.args.driver.now c.requires.lawful c.requires.period c.requires.rings c.requires.disks c.requires.blocks in
    let low : c.loop-disk.disk < length c.args.waves.items = (let long = as-many-files _ _ _ _ _ _ _ given in omega (arith, c.loop-disk-test.true, c.loop-disk.invariant.end, long)) in
    let some : 0 < length c.loop-disk.blocks.items = (some-left _ _ _ _ _ _ _ given c.loop-disk.disk low c.loop-disk.driver c.loop-disk.waves.items c.loop-disk.blocks.items c.loop-disk.readers.items c.loop-disk.invariant.made).1 in
    search rules

pub of-requires-clause-fresh : goal.of-requires-clause-fresh
of-requires-clause-fresh g c =
    let given = given-of _ _ _ _ c.args.driver.now c.requires.lawful c.requires.period c.requires.rings c.requires.disks c.requires.blocks in
    let low : c.loop-disk.disk < length c.args.waves.items = (let long = as-many-files _ _ _ _ _ _ _ given in omega (arith, c.loop-disk-test.true, c.loop-disk.invariant.end, long)) in
    let may = reads-next _ _ _ _ _ _ _ given c.loop-disk.disk low c.loop-disk.driver c.loop-disk.waves.items c.loop-disk.blocks.items c.loop-disk.readers.items c.loop-disk.invariant.made c.disk_producer.result c.in-Some.producer c.remove-wave.result c.remove-block.result c.disk_producer.ensures.end c.in-Some.is c.remove-wave.ensures.value c.remove-block.ensures.value in
    (may.given, may.going)

pub of-requires-clause-empty : goal.of-requires-clause-empty
of-requires-clause-empty g c =
    let given = given-of _ _ _ _ c.args.driver.now c.requires.lawful c.requires.period c.requires.rings c.requires.disks c.requires.blocks in
    let low : c.loop-disk.disk < length c.args.waves.items = (let long = as-many-files _ _ _ _ _ _ _ given in omega (arith, c.loop-disk-test.true, c.loop-disk.invariant.end, long)) in
    let may = reads-next _ _ _ _ _ _ _ given c.loop-disk.disk low c.loop-disk.driver c.loop-disk.waves.items c.loop-disk.blocks.items c.loop-disk.readers.items c.loop-disk.invariant.made c.disk_producer.result c.in-Some.producer c.remove-wave.result c.remove-block.result c.disk_producer.ensures.end c.in-Some.is c.remove-wave.ensures.value c.remove-block.ensures.value in
    (may.put, may.open_ended)

pub of-requires-clause-most : goal.of-requires-clause-most
of-requires-clause-most g c =
    let given = given-of _ _ _ _ c.args.driver.now c.requires.lawful c.requires.period c.requires.rings c.requires.disks c.requires.blocks in
    let low : c.loop-disk.disk < length c.args.waves.items = (let long = as-many-files _ _ _ _ _ _ _ given in omega (arith, c.loop-disk-test.true, c.loop-disk.invariant.end, long)) in
    let may = reads-next _ _ _ _ _ _ _ given c.loop-disk.disk low c.loop-disk.driver c.loop-disk.waves.items c.loop-disk.blocks.items c.loop-disk.readers.items c.loop-disk.invariant.made c.disk_producer.result c.in-Some.producer c.remove-wave.result c.remove-block.result c.disk_producer.ensures.end c.in-Some.is c.remove-wave.ensures.value c.remove-block.ensures.value in
    may.most

pub of-requires-clause-frames : goal.of-requires-clause-frames
of-requires-clause-frames g c =
    let given = given-of _ _ _ _ c.args.driver.now c.requires.lawful c.requires.period c.requires.rings c.requires.disks c.requires.blocks in
    let low : c.loop-disk.disk < length c.args.waves.items = (let long = as-many-files _ _ _ _ _ _ _ given in omega (arith, c.loop-disk-test.true, c.loop-disk.invariant.end, long)) in
    let may = reads-next _ _ _ _ _ _ _ given c.loop-disk.disk low c.loop-disk.driver c.loop-disk.waves.items c.loop-disk.blocks.items c.loop-disk.readers.items c.loop-disk.invariant.made c.disk_producer.result c.in-Some.producer c.remove-wave.result c.remove-block.result c.disk_producer.ensures.end c.in-Some.is c.remove-wave.ensures.value c.remove-block.ensures.value in
    (may.some, may.frames)

pub of-requires-clause-block : goal.of-requires-clause-block
of-requires-clause-block g c =
    let given = given-of _ _ _ _ c.args.driver.now c.requires.lawful c.requires.period c.requires.rings c.requires.disks c.requires.blocks in
    let low : c.loop-disk.disk < length c.args.waves.items = (let long = as-many-files _ _ _ _ _ _ _ given in omega (arith, c.loop-disk-test.true, c.loop-disk.invariant.end, long)) in
    let may = reads-next _ _ _ _ _ _ _ given c.loop-disk.disk low c.loop-disk.driver c.loop-disk.waves.items c.loop-disk.blocks.items c.loop-disk.readers.items c.loop-disk.invariant.made c.disk_producer.result c.in-Some.producer c.remove-wave.result c.remove-block.result c.disk_producer.ensures.end c.in-Some.is c.remove-wave.ensures.value c.remove-block.ensures.value in
    (may.whole, may.room)

pub loop-disk-preserved : goal.loop-disk-preserved
loop-disk-preserved g c =
    let given = given-of _ _ _ _ c.args.driver.now c.requires.lawful c.requires.period c.requires.rings c.requires.disks c.requires.blocks in
    let low : c.loop-disk.disk < length c.args.waves.items = (let long = as-many-files _ _ _ _ _ _ _ given in omega (arith, c.loop-disk-test.true, c.loop-disk.invariant.end, long)) in
    let file = file-next _ _ _ _ _ _ _ given c.loop-disk.disk low c.loop-disk.driver c.loop-disk.waves.items c.loop-disk.blocks.items c.loop-disk.readers.items c.loop-disk.invariant.made c.remove-wave.result c.remove-wave.ensures.value in
    let opening = end-is _ _ _ _ _ _ _ given c.loop-disk.disk low c.loop-disk.driver c.loop-disk.waves.items c.loop-disk.blocks.items c.loop-disk.readers.items c.loop-disk.invariant.made c.disk_producer.result c.in-Some.producer c.disk_producer.ensures.end c.in-Some.is in
    let capacity = c.push_reserved.ensures.capacity in
    let room = c.loop-disk.invariant.room in
    record {
      made = made-more _ _ _ _ _ _ _ given c.loop-disk.disk low c.loop-disk.driver c.loop-disk.waves.items c.loop-disk.blocks.items c.loop-disk.readers.items c.loop-disk.invariant.made c.remove-wave.result c.in-Some.producer c.of.result c.disk_producer.new.self c.remove-wave.new.self.items c.remove-block.new.self.items c.push_reserved.new.self.items file opening c.of.ensures c.disk_producer.ensures.after
          c.remove-wave.ensures.items c.remove-block.ensures.items c.push_reserved.ensures.items;
      end = c.loop-disk.invariant.end;
      within = omega (arith, c.loop-disk-test.true);
      room = omega (arith, capacity, room);
    }

pub returns-clause-made : goal.returns-clause-made
returns-clause-made g c =
    let given = given-of _ _ _ _ c.args.driver.now c.requires.lawful c.requires.period c.requires.rings c.requires.disks c.requires.blocks in
    made-all _ _ _ _ _ _ _ _ _ _ c.loop-disk.invariant.made
    (let long = as-many-files _ _ _ _ _ _ _ given in omega (arith, c.loop-disk-test.false, c.loop-disk.invariant.end, c.loop-disk.invariant.within, long))
