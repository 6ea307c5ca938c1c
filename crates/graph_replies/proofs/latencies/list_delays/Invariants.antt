use Rattle.std.proofs.Common.{◌≡◌, ◌≤◌, length, map, take}
use Rattle.std.specs.Vec.{vec_capacity}
use Rattle.graph_replies.specs.Told.{delay_of}
use Rattle.graph_replies.proofs.latencies.list_delays.Given as goal

abbrev pub invariant-loop-client : goal.invariant-loop-client
invariant-loop-client l = record {
  so_far : l.delays.items ≡ map delay_of (take l.client-index l.clients);
  few : length l.delays.items ≤ l.client-index;
  room : vec_capacity l.fn.delays ≤ vec_capacity l.delays;
}
