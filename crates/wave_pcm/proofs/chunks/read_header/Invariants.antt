use Rattle.std.proofs.Common.{◌≡◌, ◌+◌, ◌-◌, ◌*◌, ◌^◌, ◌≤◌}
use Rattle.std.specs.Prelude.{IfSome}
use Rattle.wave_pcm.specs.Openings.{IsOnward}
use Rattle.wave_pcm.specs.Readings.{IsReadable}
use Rattle.wave_pcm.proofs.chunks.read_header.Given as goal

abbrev pub invariant-chunks : goal.invariant-chunks
invariant-chunks g l = record {
  onward : IsOnward (g.S.Source.left l.fn.source) (g.S.Source.left l.source) l.read l.found (4096 - l.passed);
  short : l.read ≤ 12 + l.passed * 2 ^ 33;
  few : l.passed ≤ 4096;
  readable : IfSome l.found IsReadable;
  kept : g.S.Source.faults l.source ≡ g.S.Source.faults l.fn.source;
}

abbrev pub decreases-chunks : goal.decreases-chunks
decreases-chunks g l = 4096 - l.passed
