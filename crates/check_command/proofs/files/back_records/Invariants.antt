use Rattle.std.proofs.Common.{◌≡◌, ◌+◌, ◌-◌, ◌^◌, ◌≤◌, length}
use Rattle.std.specs.Prelude.{min}
use Rattle.jack_host.specs.Files.{SameFiles}
use Rattle.check_command.specs.Files.{faults_in}
use Rattle.check_command.proofs.files.back_records.Given as goal

abbrev pub invariant-handing : goal.invariant-handing
invariant-handing g l = record {
  owed : min (g.H.Host.read_faults l.fn.host + faults_in l.fn.records.items) (2 ^ 64 - 1) ≤ min (g.H.Host.read_faults l.host + faults_in l.records.items) (2 ^ 64 - 1);
  no_more : g.H.Host.read_faults l.host + faults_in l.records.items ≤ g.H.Host.read_faults l.fn.host + faults_in l.fn.records.items;
  later : g.H.Host.read_faults l.fn.host ≤ g.H.Host.read_faults l.host;
  writes : g.H.Host.write_faults l.host ≡ g.H.Host.write_faults l.fn.host;
  files : SameFiles (g.H.Host.files l.fn.host) (g.H.Host.files l.host);
  lent : g.H.Host.lent l.host + length l.fn.records.items ≡ g.H.Host.lent l.fn.host + length l.records.items;
}

abbrev pub decreases-handing : goal.decreases-handing
decreases-handing g l = length l.records.items
