use Rattle.std.proofs.Common.{◌≡◌, ◌≤◌, vec_capacity, vec_len}
use Rattle.activation.specs.Contents.{AreEmpty}
use Rattle.activation.proofs.indexes.all_rooms.Given as goal

abbrev pub invariant-loop : goal.invariant-loop
invariant-loop g l = (vec_len l.all ≡ l.counter) × (l.nodes ≤ vec_capacity l.all) × AreEmpty l.all.items
