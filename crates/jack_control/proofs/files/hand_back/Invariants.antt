use Rattle.std.proofs.Common.{◌≡◌, ◌+◌, ◌≤◌, length}
use Rattle.std.specs.Prelude.{IsTrue, OnErr, OnOk}
use Rattle.jack_host.specs.Causes.{Rose}
use Rattle.run_laws.specs.Told.{text_in}
use Rattle.session_run.specs.Seen.{session_of, stores_in}
use Rattle.session_run.specs.Standings.{HasEnded}
use Rattle.jack_control.specs.Files.{IsPart, IsWhole}
use Rattle.jack_control.proofs.HandedLemmas.{IsHanding, IsOwing}
use Rattle.jack_control.proofs.files.hand_back.Given as goal

abbrev pub invariant-handing : goal.invariant-handing
invariant-handing g l = record {
  whole : OnOk l.handed (IsTrue l.wanted → IsHanding IsWhole (g.H.Host.files l.fn.host) (g.H.Host.files l.host) (stores_in l.fn.session) (stores_in l.session));
  part : IsHanding IsPart (g.H.Host.files l.fn.host) (g.H.Host.files l.host) (stores_in l.fn.session) (stores_in l.session);
  owing : IsOwing (g.H.Host.write_faults l.fn.host) (g.H.Host.write_faults l.host) (stores_in l.fn.session) (stores_in l.session);
  later : g.H.Host.write_faults l.fn.host ≤ g.H.Host.write_faults l.host;
  failed : OnErr l.handed (Rose (g.H.Host.write_faults l.fn.host) (g.H.Host.write_faults l.host));
  kept : OnOk l.handed (IsTrue l.wanted → g.H.Host.write_faults l.host ≡ g.H.Host.write_faults l.fn.host);
  report : text_in (session_of g.G.Guest.sound l.session) ≡ text_in (session_of g.G.Guest.sound l.fn.session);
  ended : HasEnded g.G.Guest.sound l.fn.session → HasEnded g.G.Guest.sound l.session;
  capture : l.session.gear.capture ≡ l.fn.session.gear.capture;
  players : l.session.players ≡ l.fn.session.players;
  reads : g.H.Host.read_faults l.host ≡ g.H.Host.read_faults l.fn.host;
  lent : g.H.Host.lent l.host + length (stores_in l.fn.session) ≡ g.H.Host.lent l.fn.host + length (stores_in l.session);
}

abbrev pub decreases-handing : goal.decreases-handing
decreases-handing g l = length (stores_in l.session)
