use Rattle.std.proofs.Common.{◌+◌, ◌<◌, ◌≤◌, List, refl, sym, ◌∙◌, ap, subst}
use Rattle.std.specs.Vec.{with_item}
use Rattle.driver_words.specs.Rings.{Getting}
use Rattle.cycle_driver.specs.Gears.{Gear}
use Rattle.session_works.proofs.DiskLemmas.{HasTried, are-read, are-told, are-tried, disks-later, disks-paired, going-next, moved-disk, pair-next, some-rose, there-next, tried-all, tried-next, tried-none}
use Rattle.session_works.proofs.reading.try_all.Goals as goal

pub loop-disk-init : goal.loop-disk-init
loop-disk-init g c = record { tried = tried-none c.args.most c.args.goes c.args.driver.now.disks.disks c.args.readers.now.items; driver = refl }

pub try_one-went-requires-clause-there : goal.try_one-went-requires-clause-there
try_one-went-requires-clause-there g c = there-next c.args.most c.args.goes c.loop-disk.went c.loop-disk.disk c.args.driver.now.disks.disks c.args.readers.now.items c.loop-disk.driver.disks.disks c.loop-disk.readers.items c.loop-disk.invariant.tried c.requires.pairs.as_many (subst (λ n. c.loop-disk.disk < n) (c.len-disk-end.ensures ∙ c.args.readers.now.ok.0) c.loop-disk-test.true) c.index_mut.result.now c.index_mut.ensures.value

pub try_one-went-requires-clause-pair : goal.try_one-went-requires-clause-pair
try_one-went-requires-clause-pair g c = pair-next c.args.most c.args.goes c.loop-disk.went c.loop-disk.disk c.args.driver.now.disks.disks c.args.readers.now.items c.loop-disk.driver.disks.disks c.loop-disk.readers.items c.loop-disk.invariant.tried c.requires.pairs.as_many (subst (λ n. c.loop-disk.disk < n) (c.len-disk-end.ensures ∙ c.args.readers.now.ok.0) c.loop-disk-test.true) c.index_mut.result.now c.index_mut.ensures.value c.requires.pairs.each

pub try_one-went-requires-clause-going : goal.try_one-went-requires-clause-going
try_one-went-requires-clause-going g c = going-next c.args.most c.args.goes c.loop-disk.went c.loop-disk.disk c.args.driver.now.disks.disks c.args.readers.now.items c.loop-disk.driver.disks.disks c.loop-disk.readers.items c.loop-disk.invariant.tried c.requires.pairs.as_many (subst (λ n. c.loop-disk.disk < n) (c.len-disk-end.ensures ∙ c.args.readers.now.ok.0) c.loop-disk-test.true) c.index_mut.result.now c.index_mut.ensures.value c.requires.going

pub loop-disk-preserved : goal.loop-disk-preserved
loop-disk-preserved g c = record {
  tried = subst (λ (l : List Getting). HasTried c.args.most c.args.goes c.try_one-went.result (c.loop-disk.disk + 1) c.args.driver.now.disks.disks c.args.readers.now.items l (with_item c.loop-disk.readers c.loop-disk.disk c.try_one-went.new.reader).items) (sym (ap (λ (d : Gear). d.disks.disks) c.try_one-went.ensures.driver))
      (tried-next c.args.most c.args.goes c.loop-disk.went c.loop-disk.disk c.args.driver.now.disks.disks c.args.readers.now.items c.loop-disk.driver.disks.disks c.loop-disk.readers.items c.loop-disk.invariant.tried c.requires.pairs.as_many (subst (λ n. c.loop-disk.disk < n) (c.len-disk-end.ensures ∙ c.args.readers.now.ok.0) c.loop-disk-test.true) c.index_mut.result.now c.index_mut.ensures.value c.try_one-went.result c.try_one-went.new.reader _ c.try_one-went.ensures.tried);
  driver = moved-disk c.args.driver.now c.loop-disk.driver c.try_one-went.new.driver _ c.loop-disk.invariant.driver c.try_one-went.ensures.driver;
}

pub returns-clause-read : goal.returns-clause-read
returns-clause-read g c = are-read c.args.most c.args.goes c.loop-disk.went c.args.driver.now c.loop-disk.driver c.args.readers.now.items c.loop-disk.readers.items (tried-all c.args.most c.args.goes c.loop-disk.went c.loop-disk.disk _ _ _ _ (subst (λ n. n ≤ c.loop-disk.disk) (c.len-disk-end.ensures ∙ c.args.readers.now.ok.0) c.loop-disk-test.false) c.loop-disk.invariant.tried) g.G.Guest.sound c.loop-disk.invariant.driver

pub returns-clause-tried : goal.returns-clause-tried
returns-clause-tried g c = are-tried c.args.most c.args.goes c.loop-disk.went c.args.driver.now c.loop-disk.driver c.args.readers.now.items c.loop-disk.readers.items (tried-all c.args.most c.args.goes c.loop-disk.went c.loop-disk.disk _ _ _ _ (subst (λ n. n ≤ c.loop-disk.disk) (c.len-disk-end.ensures ∙ c.args.readers.now.ok.0) c.loop-disk-test.false) c.loop-disk.invariant.tried) g.G.Guest.sound c.loop-disk.invariant.driver

pub returns-clause-told : goal.returns-clause-told
returns-clause-told g c = are-told c.args.most c.args.goes c.loop-disk.went c.args.driver.now c.loop-disk.driver c.args.readers.now.items c.loop-disk.readers.items (tried-all c.args.most c.args.goes c.loop-disk.went c.loop-disk.disk _ _ _ _ (subst (λ n. n ≤ c.loop-disk.disk) (c.len-disk-end.ensures ∙ c.args.readers.now.ok.0) c.loop-disk-test.false) c.loop-disk.invariant.tried) g.G.Guest.sound c.loop-disk.invariant.driver

pub returns-clause-cause : goal.returns-clause-cause
returns-clause-cause g c = some-rose c.args.most c.args.goes c.loop-disk.went c.loop-disk.disk _ _ c.args.driver.now c.loop-disk.driver c.args.readers.now.items c.loop-disk.readers.items c.loop-disk.invariant.tried

pub returns-clause-pairs : goal.returns-clause-pairs
returns-clause-pairs g c = disks-paired c.args.most c.args.goes c.loop-disk.went c.args.driver.now c.loop-disk.driver c.args.readers.now.items c.loop-disk.readers.items (tried-all c.args.most c.args.goes c.loop-disk.went c.loop-disk.disk _ _ _ _ (subst (λ n. n ≤ c.loop-disk.disk) (c.len-disk-end.ensures ∙ c.args.readers.now.ok.0) c.loop-disk-test.false) c.loop-disk.invariant.tried) c.requires.pairs

pub returns-clause-later : goal.returns-clause-later
returns-clause-later g c = disks-later c.args.most c.args.goes c.loop-disk.went c.args.driver.now c.loop-disk.driver c.args.readers.now.items c.loop-disk.readers.items (tried-all c.args.most c.args.goes c.loop-disk.went c.loop-disk.disk _ _ _ _ (subst (λ n. n ≤ c.loop-disk.disk) (c.len-disk-end.ensures ∙ c.args.readers.now.ok.0) c.loop-disk-test.false) c.loop-disk.invariant.tried) c.requires.pairs.as_many
