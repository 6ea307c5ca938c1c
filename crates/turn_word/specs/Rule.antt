-- The rule of a turn's table. No public clause cites this module.
use Rattle.std.specs.Prelude.{◌≡◌, ℕ, ◌<◌, ◌≤◌, true, false, [], ◌∷◌, length, All, Option, Some, None}
use mathlib.Core.Option.{some}
use lib.ListN.{get_elem?}
use Rattle.atomic_table.specs.Table.{State}
use Rattle.turn_word.specs.declared.view.Known.{Known}
use Rattle.turn_word.specs.Turns.{newest}

abbrev pub first_view : {T : Type 0} → ℕ → Known T
first_view passes = record { from = 0; to = passes; passes = passes; opened = None; seen = []; holds = false; told = false; called = false }

module _ {T : Type 0} where
  -- what the seat j knows is so: each of its passes is its own alone, and where it has any it knows what was opened, the thing goes on from all that it saw, and what it was told of the work is so; who has the last pass knows whether the work was called off
  pub record KnowsTurn (goes_on : T → T → Type 0) (passes word off : ℕ) (opened now : Option T) (owner : ℕ → ℕ) (holder j : ℕ) (v : Known T) : Type 0 where
    pub within : v.to ≤ passes
    pub owns : (i : ℕ) → v.from ≤ i → i < v.to → j ≡ owner i
    pub size : v.from < v.to → v.passes ≡ passes
    pub known : v.from < v.to → v.opened ≡ opened
    pub saw : v.from < v.to → (d : T) → now ≡ Some d → All (λ x. goes_on x d) v.seen
    pub held : v.holds ≡ true → (v.from < v.to) × (j ≡ holder) × (word ≡ 2)
    pub told : v.from < v.to → v.told ≡ true → off ≡ 1
    pub quiet : v.from < v.to → v.to ≡ passes → v.called ≡ false → off ≡ 0

  -- `now` is the thing at home, or as it was when it was taken
  pub record TurnRule (goes_on : T → T → Type 0) (passes : ℕ) (s : State (Option T) (Known T)) : Type 0 where
    pub word : ℕ
    pub off : ℕ
    pub opened : Option T
    pub now : Option T
    pub owner : ℕ → ℕ
    pub holder : ℕ
    pub words_are : s.words ≡ word ∷ off ∷ []
    pub low : word ≤ 2
    pub one : length s.homes ≡ 1
    pub shut : word ≡ 0 → (opened ≡ None) × (get_elem? s.homes 0 ≡ some (some None))
    pub later : (o d : T) → opened ≡ Some o → now ≡ Some d → goes_on o d
    pub home : word ≡ 1 → (o : T) × (d : T) × (opened ≡ Some o) × (get_elem? s.homes 0 ≡ some (some (Some d))) × (now ≡ Some d)
    pub out : word ≡ 2 → (v : Known T) × (get_elem? s.views holder ≡ some v) × (v.holds ≡ true) × (now ≡ newest v.seen)
    pub each : (j : ℕ) (v : Known T) → get_elem? s.views j ≡ some v → KnowsTurn goes_on passes word off opened now owner holder j v
