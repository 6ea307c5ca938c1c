use Rattle.std.proofs.Common.{◌≡◌, ◌≤◌, length, vec_capacity}
use Rattle.driver_laws.specs.Drivers.{greatest_period}
use Rattle.session_ends.proofs.ReaderLemmas.{AreMade}
use Rattle.session_ends.proofs.reading.make_readers.Given as goal

abbrev pub invariant-loop-disk : goal.invariant-loop-disk
invariant-loop-disk g l = record {
  made : AreMade l.script.header.ring (greatest_period l.script) l.fn.waves.items l.fn.blocks.items l.fn.driver l.driver l.disk l.waves.items l.blocks.items l.readers.items;
  end : l.count ≡ length l.script.header.disks;
  within : l.disk ≤ l.count;
  room : length l.script.header.disks ≤ vec_capacity l.readers;
}
