use Rattle.std.proofs.Common.{◌≡◌, ◌≤◌, count_by, take}
use Rattle.client_wiring.specs.Tables.{is_over}
use Rattle.client_wiring.proofs.links.count_over.Given as goal

abbrev pub invariant-loop-other : goal.invariant-loop-other
invariant-loop-other l = record {
  so_far : l.count ≡ count_by (is_over l.link) (take l.other-index l.carried);
  few : l.count ≤ l.other-index;
}
