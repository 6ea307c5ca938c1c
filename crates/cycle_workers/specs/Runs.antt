-- A seat runs what it takes.
--     HaveRoom has_room links before      each bench has room at the places of its node's outgoing links
--     IsRun links node old new      what a seat knows once it ran a node, and all that it took on the way
--     HasRun .. seat new      what a seat knows once it ran its share
use Rattle.std.specs.Prelude.{◌≡◌, ◌<◌, ◌%◌, ℕ, Bool, true, List, [], length}
use mathlib.Core.Option.{some}
use lib.ListN.{get_elem?}
use Rattle.jack_types.specs.declared.ports.Link.{Link}
use Rattle.session_model.specs.Activation.{link_at, place_among}
use Rattle.activation.specs.declared.views.Duty.{Duty}
use Rattle.activation.specs.Rule.{has}
use Rattle.activation.specs.Plays.{without}

abbrev pub HaveRoom : {B : Type 0} → (B → ℕ → Bool) → List Link → List B → Type 0
HaveRoom {B} has_room links before = (l : ℕ) (bench : B) → l < length links → get_elem? before (link_at links l).from ≡ some bench → has_room bench (place_among links l) ≡ true

module _ {B : Type 0} where
  -- the node is no longer held, and no link of a lower node was released
  pub record IsRun (links : List Link) (node : ℕ) (old new : Duty B) : Type 0 where
    pub links_stay : new.links ≡ old.links
    pub before_stays : new.before ≡ old.before
    pub started_stay : new.started ≡ old.started
    pub held_are : new.held ≡ without node old.held
    pub left_stays : new.left ≡ old.left
    pub lower : (l : ℕ) → l < length links → (link_at links l).from < node → has new.released l ≡ has old.released l

  -- every node of the share was started, and none is held or left
  pub record HasRun (nodes count number : ℕ) (old new : Duty B) : Type 0 where
    pub links_stay : new.links ≡ old.links
    pub before_stays : new.before ≡ old.before
    pub started_all : (n : ℕ) → n < nodes → n % count ≡ number → has new.started n ≡ true
    pub none_held : new.held ≡ []
    pub none_left : new.left ≡ []
