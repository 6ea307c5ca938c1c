use Rattle.std.proofs.Common.{◌≡◌, ◌+◌, ◌≤◌, length}
use Rattle.jack_host.specs.Files.{SameFiles}
use Rattle.jack_control.proofs.disks.back_waves.Given as goal

abbrev pub invariant-handing : goal.invariant-handing
invariant-handing g l = record {
  later : g.H.Host.read_faults l.fn.host ≤ g.H.Host.read_faults l.host;
  writes : g.H.Host.write_faults l.host ≡ g.H.Host.write_faults l.fn.host;
  files : SameFiles (g.H.Host.files l.fn.host) (g.H.Host.files l.host);
  lent : g.H.Host.lent l.host + length l.fn.waves.items ≡ g.H.Host.lent l.fn.host + length l.waves.items;
}

abbrev pub decreases-handing : goal.decreases-handing
decreases-handing g l = length l.waves.items
