use Rattle.std.proofs.Common.{◌≡◌, ℕ, ◌<◌, None, get_or, length, take}
use Rattle.cycle_plan.specs.Searching.{place_number}
use Rattle.cycle_plan.proofs.links.node_places.Given as goal

abbrev pub invariant-loop-place : goal.invariant-loop-place
invariant-loop-place l = record {
  size : length l.places ≡ 67;
  held : (n : ℕ) → n < 67 → get_or l.places n None ≡ place_number (take l.place l.nodes) n;
}
