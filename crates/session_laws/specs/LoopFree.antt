-- What marks are good for.
--     HasNoLoop edges      no list of nodes leads over direct edges from a node to itself, but for the empty one
--     AllClose whole edges      each feedback edge of these closes a loop over the direct edges of the whole
use Rattle.std.specs.Prelude.{◌≡◌, true, false, List, ◌∷◌, Contains}
use Rattle.session_model.specs.Loops.{IsPath, direct_links, closes_loop}
use Rattle.session_model.specs.State.{Connection, is_direct}

abbrev pub IsLoopFree : {N : Type 0} → List (N × N) → Type 0
IsLoopFree {N} links = (a next : N) (path : List N) → IsPath links a (next ∷ path) a → ⊥

abbrev pub HasNoLoop : List Connection → Type 0
HasNoLoop edges = IsLoopFree (direct_links edges)

abbrev pub AllClose : List Connection → List Connection → Type 0
AllClose whole edges = (edge : Connection) → Contains edges edge → is_direct edge.mark ≡ false → closes_loop whole edge.source edge.destination ≡ true
