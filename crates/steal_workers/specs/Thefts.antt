-- What callers see of thieves: what the owner of each seat's deque knows of it.
--     tallies_of places      what that is
--     AreAtRest stealers places passes      the thieves between two cycles
--     IsEmpty tally      whatever the deque may hold, where its owner knows this, is nothing
--     AreEmpty tallies      all the deques are empty
use Rattle.std.specs.Prelude.{◌≡◌, ◌≤◌, ℕ, List, [], All, None, length, map, vec_capacity}
use Rattle.std.specs.Global.{Global, Vec}
use mathlib.Core.Option.{some}
use lib.ListN.{get_elem?}
use Rattle.crossbeam_deque.specs.Handles.{Pass}
use Rattle.steal_workers.specs.declared.tallies.Tally.{Tally}
use Rattle.steal_workers.specs.declared.ends.Stealer.{Stealer}
use Rattle.steal_workers.specs.declared.places.Place.{Place}
use Rattle.steal_workers.specs.Tallies.{HasAll, IsDeque}
use Rattle.steal_workers.specs.Deques.{tally_of, LeadsTo}
use Rattle.steal_workers.specs.Places.{Paired}

module _ {B Y M : Type 0} where
  abbrev pub tallies_of : List (Place B Y M) → List Tally
  tallies_of places = map (λ (place : Place B Y M). tally_of place.deque) places

  -- no seat sits at its place, every pass is with its deque, and there is room for all that a cycle lends
  pub record AreAtRest (stealers : List Stealer) (places : List (Place B Y M)) (passes : List (Vec (Pass ℕ Tally Global))) : Type 0 where
    pub few : length places ≤ 16
    pub reached : Paired (λ (stealer : Stealer) (place : Place B Y M). LeadsTo stealer place.deque) stealers places
    pub at_rest : All (λ (place : Place B Y M). HasAll (tally_of place.deque) × (place.thief ≡ None)) places
    pub room : (length passes ≡ length places) × All (λ (row : Vec (Pass ℕ Tally Global)). (row.items ≡ []) × (length places ≤ vec_capacity row)) passes

abbrev pub IsEmpty : Tally → Type 0
IsEmpty tally = (items : List ℕ) (views : List Tally) → IsDeque items views → get_elem? views 0 ≡ some tally → items ≡ []

abbrev pub AreEmpty : List Tally → Type 0
AreEmpty tallies = All IsEmpty tallies
