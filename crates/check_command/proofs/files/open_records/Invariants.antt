use Rattle.std.proofs.Common.{◌≡◌, ◌+◌, ◌≤◌, length, map, take, vec_capacity}
use Rattle.std.specs.Prelude.{All}
use Rattle.jack_host.specs.Files.{SameFiles}
use Rattle.session_check.specs.Cases.{left_of}
use Rattle.check_command.specs.Files.{GivesAll, IsFresh}
use Rattle.check_command.proofs.files.open_records.Given as goal

abbrev pub invariant-loop-place : goal.invariant-loop-place
invariant-loop-place g l = record {
  opened : GivesAll (g.H.Host.files l.fn.host) (take l.place l.names.records) (map left_of l.records.items);
  fresh : All IsFresh l.records.items;
  end : l.count ≡ length l.names.records;
  within : l.place ≤ l.count;
  many : length l.records.items ≡ l.place;
  room : length l.names.records ≤ vec_capacity l.records;
  kept : g.H.Host.read_faults l.host ≡ g.H.Host.read_faults l.fn.host;
  writes : g.H.Host.write_faults l.host ≡ g.H.Host.write_faults l.fn.host;
  files : SameFiles (g.H.Host.files l.fn.host) (g.H.Host.files l.host);
  lent : g.H.Host.lent l.host ≡ g.H.Host.lent l.fn.host + l.place;
}
