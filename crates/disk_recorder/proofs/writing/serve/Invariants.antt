use Rattle.std.proofs.Common.{◌≡◌}
use Rattle.disk_recorder.specs.Recordings.{Writes}
use Rattle.disk_recorder.proofs.writing.serve.Given as goal

abbrev pub invariant-loop : goal.invariant-loop
invariant-loop g l = record {
  writes : Writes l.count l.initial.consumer l.initial.out l.consumer l.out;
  room : l.block.samples.room ≡ l.consumer.samples;
  spare : l.block.samples.room ≡ l.initial.block.samples.room;
  kept : l.out.faults ≡ l.initial.out.faults;
}
