use Rattle.std.proofs.Common.{◌≡◌, ◌<◌, ◌^◌, length}
use Rattle.disk_recorder.specs.Recordings.{Writes}
use Rattle.disk_recorder.proofs.writing.rest.Given as goal

abbrev pub invariant-loop-count : goal.invariant-loop-count
invariant-loop-count g l = record {
  writes : Writes l.count l.initial.consumer l.initial.out l.consumer l.out;
  room : l.block.samples.room ≡ l.consumer.samples;
  few : 0 < l.count → length l.consumer.got < 2 ^ 63;
  spare : l.block.samples.room ≡ l.initial.block.samples.room;
  kept : l.out.faults ≡ l.initial.out.faults;
}
