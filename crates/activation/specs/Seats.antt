-- What a seat of a crew is between two calls.
use Rattle.std.specs.Prelude.{◌≡◌, ◌≤◌, ◌<◌, ◌+◌, ℕ, true, false, List, [], ◌∷◌, length, map}
use Rattle.atomic_table.specs.Table.{Me}
use Rattle.atomic_table.specs.Seated.{TableId}
use Rattle.atomic_table.specs.declared.shared.Seat.{Seat}
use Rattle.session_laws.specs.jack_types.specs.declared.ports.Link.{Link}
use Rattle.session_laws.specs.session_model.specs.Activation.{AreLinks, incoming, place_among}
use Rattle.session_laws.specs.session_model.specs.Samples.{below}
use Rattle.activation.specs.declared.views.Duty.{Duty}
use Rattle.activation.specs.declared.views.View.{View}

module _ {S B : Type 0} where
  -- it takes part in a cycle, and has no slot out
  pub record IsIdle (me : Me S (View S B)) : Type 0 where
    pub live : me.0.is_live ≡ true
    pub off : me.0.is_still ≡ false
    pub none_out : me.0.hand.out ≡ []
    pub clear : me.1 ≡ []

  -- it is the only one, and has no slot out
  pub record IsSole (me : Me S (View S B)) : Type 0 where
    pub live : me.0.is_live ≡ true
    pub on : me.0.is_still ≡ true
    pub none_out : me.0.shelf.out ≡ []
    pub clear : me.1 ≡ []

  -- it is one of this table's, and knows these links and so many benches
  pub record IsAt (id : TableId) (links : List Link) (nodes : ℕ) (seat : Seat S (View S B)) : Type 0 where
    pub table : seat.table_id ≡ id
    pub idle : IsIdle seat.me
    pub same_links : seat.me.0.duty.links ≡ links
    pub same_nodes : length seat.me.0.duty.before ≡ nodes

  -- it has this share alone, of so many
  pub record Sits (id : TableId) (links : List Link) (nodes seats number : ℕ) (seat : Seat S (View S B)) : Type 0 where
    pub at : IsAt id links nodes seat
    pub shares : seat.me.0.duty.shares ≡ number ∷ []
    pub few : number < seats
    pub same_seats : seat.me.0.duty.seats ≡ seats

-- the table has a slot and a word for each bench and for each of 512 links, a word for the count of benches out, and 64 left words
pub record IsShape (id : TableId) (links : List Link) (nodes : ℕ) (into : List (List ℕ)) (places : List ℕ) : Type 0 where
  pub slots : id.slots ≡ nodes + 512
  pub words : id.words ≡ nodes + 577
  pub are : AreLinks nodes links
  pub few_nodes : nodes ≤ 64
  pub few_links : length links ≤ 512
  pub into_are : into ≡ map (incoming links) (below nodes)
  pub places_are : places ≡ map (place_among links) (below (length links))

-- what a new seat knows: the links, the benches and its share, and nothing of the cycle
abbrev pub new_duty : {B : Type 0} → List Link → List B → ℕ → List ℕ → Duty B
new_duty links before seats shares = record { links = links; before = before; seats = seats; shares = shares; started = []; released = []; held = []; left = [] }

-- a new seat of this number, which is one of so many of the table's
pub record IsShare {S B : Type 0} (id : TableId) (links : List Link) (before : List B) (count number : ℕ) (token : Seat S (View S B)) : Type 0 where
  pub few : number < count
  pub table : token.table_id ≡ id
  pub idle : IsIdle token.me
  pub duty : token.me.0.duty ≡ new_duty links before count (number ∷ [])
