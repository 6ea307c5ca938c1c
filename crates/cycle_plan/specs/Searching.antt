-- Inside: the same by the numbers of nodes. No public clause cites this module.
use Rattle.std.specs.Prelude.{◌≡◌, ℕ, ◌+◌, ◌<◌, Bool, ◌==◌, List, position, slice_index_or, Option, None, if◌then◌else◌}
use Rattle.graph_word.specs.jack_types.specs.declared.ports.Client.{Client}
use Rattle.graph_word.specs.jack_types.specs.declared.ports.Edge.{Edge}
use Rattle.graph_word.specs.jack_types.specs.declared.ports.Link.{Link}
use Rattle.graph_word.specs.session_model.specs.Loops.{leads}
use Rattle.graph_word.specs.session_model.specs.State.{is_direct}
use Rattle.feedback_edges.specs.Search.{number_links, link_by}
use Rattle.cycle_plan.specs.Layouts.{link_between}

-- a client's number among nodes
abbrev pub client_number : Client → ℕ
client_number client = client.id.0 + 2

abbrev pub numbers_lead : List ℕ → List Edge → Client → Client → Bool
numbers_lead table edges a b = leads (λ m n. m == n) (number_links table edges) (client_number a) (client_number b)

-- the place of the node with a number
abbrev pub place_number : List Client → ℕ → Option ℕ
place_number nodes n = position (λ client. client_number client == n) nodes

-- at each number stands the place of its node
abbrev pub ArePlaces : List Client → List (Option ℕ) → Type 0
ArePlaces nodes places = (n : ℕ) → n < 67 → slice_index_or places n None ≡ place_number nodes n

-- the link of an edge, by the tables
abbrev pub link_at_numbers : List ℕ → List (Option ℕ) → Edge → Option Link
link_at_numbers table places edge = if is_direct edge.mark then link_between (slice_index_or places (link_by table edge).0 None) (slice_index_or places (link_by table edge).1 None) else None
