-- What the holders of a deque know of it, and what it then holds.
--     IsDeque items views      the deque holds these numbers where its holders have these tallies
--     HasAll tally      who knows this knows all that was pushed and taken
--     IsEven tally      each number was taken as often as it was pushed
use Rattle.std.specs.Prelude.{◌≡◌, ◌+◌, ◌-◌, ℕ, List, [], ◌++◌, sum_by}
use mathlib.Core.Option.{some}
use lib.ListN.{get_elem?}
use Rattle.steal_workers.specs.declared.tallies.Tally.{Tally}

-- the right to know all of a deque has so many parts: one for each of 16 seats, and one for the owner at least
abbrev pub every_part : ℕ
every_part = 32

abbrev pub tally : ℕ → List ℕ → List ℕ → Tally
tally parts pushed taken = record { parts = parts; pushed = pushed; taken = taken }

abbrev pub with_pushed : Tally → List ℕ → Tally
with_pushed v xs = record v { pushed = v.pushed ++ xs }

abbrev pub with_taken : Tally → List ℕ → Tally
with_taken v xs = record v { taken = v.taken ++ xs }

-- a part goes from the owner to another holder
abbrev pub without_part : Tally → Tally
without_part v = record v { parts = v.parts - 1 }

-- a part comes back, and what its holder took counts as the owner's
abbrev pub with_part : Tally → Tally → Tally
with_part v w = record v { parts = v.parts + w.parts; taken = v.taken ++ w.taken }

-- The deque holds what its owner, the first holder, pushed and nobody took, in order: of what was pushed, some is gone, and
-- whatever weight each number has, what the holders took weighs what is gone. Who has no part took nothing.
pub record IsDeque (items : List ℕ) (views : List Tally) : Type 0 where
  pub gone : List ℕ
  pub in_order : (owner : Tally) → get_elem? views 0 ≡ some owner → owner.pushed ≡ gone ++ items
  pub taken : (weight : ℕ → ℕ) → sum_by (λ (v : Tally). sum_by weight v.taken) views ≡ sum_by weight gone
  pub parts : sum_by (λ (v : Tally). v.parts) views ≡ every_part
  pub partless : (holder : ℕ) (v : Tally) → get_elem? views holder ≡ some v → v.parts ≡ 0 → v.taken ≡ []

abbrev pub HasAll : Tally → Type 0
HasAll v = v.parts ≡ every_part

-- however the numbers are weighed, what was taken weighs what was pushed
abbrev pub IsEven : Tally → Type 0
IsEven v = (weight : ℕ → ℕ) → sum_by weight v.taken ≡ sum_by weight v.pushed
