use Rattle.std.proofs.Common.{◌≡◌, ℕ, ◌<◌, false, get_or}
use Rattle.graph_word.specs.jack_types.specs.declared.ports.Client.{Client}
use Rattle.cycle_plan.specs.Searching.{client_number}
use Rattle.cycle_plan.proofs.nodes.first_marked.Given as goal

abbrev pub invariant-loop-place : goal.invariant-loop-place
invariant-loop-place l = (k : ℕ) (d : Client) → k < l.place → get_or l.marked (client_number (get_or l.nodes k d)) false ≡ false
