-- What a seat does in a cycle in which seats take each other's nodes.
--     KeepsDeque old new      it is the same deque, and its owner has as many parts
--     IsOffered links node old new      a node is no longer held, and no link of a lower node was released
--     LeavesAbove node nodes old new      what was left besides are nodes above this one
--     IsPicked node nodes old new      the seat looked for the node, and holds what it held before
--     HasWorked nodes count number old new      the seat started its share, holds nothing, and left nothing but nodes
--     HasSwept old new      the seat holds nothing, and left nothing
use Rattle.std.specs.Prelude.{◌≡◌, ◌<◌, ◌%◌, ◌⊎◌, ℕ, true, false, List, [], length}
use Rattle.jack_types.specs.declared.ports.Link.{Link}
use Rattle.session_model.specs.Activation.{link_at}
use Rattle.cycle_workers.specs.activation.specs.declared.views.Duty.{Duty}
use Rattle.cycle_workers.specs.activation.specs.Rule.{has}
use Rattle.cycle_workers.specs.activation.specs.Plays.{without}
use Rattle.cycle_workers.specs.activation.specs.Takens.{AreBetween}
use Rattle.steal_workers.specs.declared.ends.Deque.{Deque}
use Rattle.steal_workers.specs.Deques.{tally_of, SameDeque}

pub record KeepsDeque (old new : Deque) : Type 0 where
  pub same : SameDeque old new
  pub parts : (tally_of new).parts ≡ (tally_of old).parts

abbrev pub LeavesAbove : ℕ → ℕ → List ℕ → List ℕ → Type 0
LeavesAbove node nodes old new = (n : ℕ) → has new n ≡ true → (has old n ≡ true) ⊎ ((node < n) × (n < nodes))

module _ {B : Type 0} where
  pub record IsOffered (links : List Link) (node : ℕ) (old new : Duty B) : Type 0 where
    pub links_stay : new.links ≡ old.links
    pub before_stays : new.before ≡ old.before
    pub started_stay : new.started ≡ old.started
    pub held_are : new.held ≡ without node old.held
    pub lower : (l : ℕ) → l < length links → (link_at links l).from < node → has new.released l ≡ has old.released l

  pub record IsPicked (node nodes : ℕ) (old new : Duty B) : Type 0 where
    pub links_stay : new.links ≡ old.links
    pub before_stays : new.before ≡ old.before
    pub started_stay : new.started ≡ old.started
    pub held_stays : new.held ≡ old.held
    pub looked : has new.left node ≡ false
    pub left : AreBetween 0 nodes old.left → AreBetween 0 nodes new.left

  pub record HasWorked (nodes count number : ℕ) (old new : Duty B) : Type 0 where
    pub links_stay : new.links ≡ old.links
    pub before_stays : new.before ≡ old.before
    pub started_all : (n : ℕ) → n < nodes → n % count ≡ number → has new.started n ≡ true
    pub none_held : new.held ≡ []
    pub left : AreBetween 0 nodes new.left

  pub record HasSwept (old new : Duty B) : Type 0 where
    pub links_stay : new.links ≡ old.links
    pub before_stays : new.before ≡ old.before
    pub started_stay : new.started ≡ old.started
    pub none_held : new.held ≡ []
    pub none_left : new.left ≡ []
