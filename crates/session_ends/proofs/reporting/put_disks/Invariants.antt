use Rattle.std.proofs.Common.{◌≡◌, take, flat_map}
use Rattle.jack_host.specs.Bytes.{Gains}
use Rattle.session_model.specs.Samples.{below}
use Rattle.session_ends.proofs.MeterLemmas.{disk_text}
use Rattle.session_ends.proofs.reporting.put_disks.Given as goal

abbrev pub invariant-loop-disk : goal.invariant-loop-disk
invariant-loop-disk g l = record {
  gained : Gains (g.K.Sink.content l.initial.out) (g.K.Sink.content l.out) (flat_map (disk_text l.driver.disks.played l.driver.disks.underruns) (take l.disk (below l.disks)));
  kept : g.K.Sink.faults l.out ≡ g.K.Sink.faults l.initial.out;
}
