use Rattle.std.proofs.Common.{◌≡◌, ◌+◌, ◌-◌, ◌^◌, ◌≤◌, length}
use Rattle.std.specs.Prelude.{min}
use Rattle.jack_host.specs.Files.{SameFiles}
use Rattle.jack_control.specs.Openings.{faults_in}
use Rattle.jack_control.proofs.disks.back_disks.Given as goal

abbrev pub invariant-handing : goal.invariant-handing
invariant-handing g l = record {
  owed : min (g.H.Host.read_faults l.fn.host + faults_in l.fn.session.players) (2 ^ 64 - 1) ≤ min (g.H.Host.read_faults l.host + faults_in l.session.players) (2 ^ 64 - 1);
  no_more : g.H.Host.read_faults l.host + faults_in l.session.players ≤ g.H.Host.read_faults l.fn.host + faults_in l.fn.session.players;
  later : g.H.Host.read_faults l.fn.host ≤ g.H.Host.read_faults l.host;
  writes : g.H.Host.write_faults l.host ≡ g.H.Host.write_faults l.fn.host;
  files : SameFiles (g.H.Host.files l.fn.host) (g.H.Host.files l.host);
  gear : l.session.gear ≡ l.fn.session.gear;
  lent : g.H.Host.lent l.host + length l.fn.session.players ≡ g.H.Host.lent l.fn.host + length l.session.players;
}

abbrev pub decreases-handing : goal.decreases-handing
decreases-handing g l = length l.session.players
