use Rattle.std.proofs.Common.{◌≡◌, ◌≤◌, count_by, take}
use Rattle.client_wiring.specs.Wirings.{is_from}
use Rattle.client_wiring.proofs.links.count_from.Given as goal

abbrev pub invariant-loop-link : goal.invariant-loop-link
invariant-loop-link l = record {
  so_far : l.count ≡ count_by (is_from l.from) (take l.link-index l.links);
  few : l.count ≤ l.link-index;
}
