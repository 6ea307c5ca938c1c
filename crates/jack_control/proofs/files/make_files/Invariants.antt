use Rattle.std.proofs.Common.{◌≡◌, ◌+◌, ◌≤◌, length, suc, take}
use Rattle.session_run.specs.Seen.{stores_in}
use Rattle.jack_control.specs.Plays.{made_by}
use Rattle.jack_control.proofs.MadeLemmas.{HaveMade}
use Rattle.jack_control.proofs.files.make_files.Given as goal

abbrev pub invariant-loop-recorder : goal.invariant-loop-recorder
invariant-loop-recorder g l = record {
  made : HaveMade g.G.Guest.sound (g.H.Host.files l.fn.host) (g.H.Host.files l.host) (take (suc l.recorder) (made_by l.names)) l.fn.session l.session;
  end : l.recorder-end ≡ length l.names.records;
  within : l.recorder ≤ l.recorder-end;
  kept : g.H.Host.write_faults l.host ≡ g.H.Host.write_faults l.fn.host;
  reads : g.H.Host.read_faults l.host ≡ g.H.Host.read_faults l.fn.host;
  lent : g.H.Host.lent l.host ≡ g.H.Host.lent l.fn.host + length (stores_in l.session);
}
