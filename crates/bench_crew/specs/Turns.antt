-- What the play of one node after another does with benches.
--     IsRow links which      these are positions of links, each once
--     IsApart links which first end n place      the place of node n is that of none of these links from `first` up to `end`
--     AreLike .. apart old new      the benches have their memories still, and are as before at each place that is apart
--     ShowRoom has_room shown links which first end benches      whether there is room at the places of these links
--     handed value_at links benches d n      what the benches have for the incoming links of node n
--     IsTurn .. links n old new      node n was played on what its sources had for it, and each bench has the room that it had
--     AreInOrder .. links n old now      the nodes below n were played
use Rattle.std.specs.Prelude.{◌≡◌, ◌≢◌, ◌≤◌, ◌<◌, ℕ, Bool, List, length, map, slice_index, slice_index_or}
use Rattle.jack_types.specs.declared.ports.Link.{Link}
use Rattle.session_model.specs.Activation.{link_at, incoming, place_among, value_of, sequential}
use Rattle.client_benches.specs.activation.specs.Contents.{Tells}

pub record IsRow (links : List Link) (which : List ℕ) : Type 0 where
  pub within : (j : ℕ) → j < length which → slice_index which j < length links
  pub once : (i j : ℕ) → i < length which → j < length which → slice_index which i ≡ slice_index which j → i ≡ j
  pub short : length which ≤ 512

abbrev pub IsApart : List Link → List ℕ → ℕ → ℕ → ℕ → ℕ → Type 0
IsApart links which first end n place = (j : ℕ) → first ≤ j → j < end → (link_at links (slice_index which j)).from ≡ n → place_among links (slice_index which j) ≢ place

abbrev pub ShowRoom : {B : Type 0} → (B → ℕ → Bool) → Bool → List Link → List ℕ → ℕ → ℕ → List B → Type 0
ShowRoom {B} has_room shown links which first end benches =
    (j : ℕ) (d : B) → first ≤ j → j < end → has_room (slice_index_or benches (link_at links (slice_index which j)).from d) (place_among links (slice_index which j)) ≡ shown

abbrev pub handed : {B Y : Type 0} → (B → ℕ → Y) → List Link → List B → B → ℕ → List Y
handed value_at links benches d n = map (λ l. value_at (slice_index_or benches (link_at links l).from d) (place_among links l)) (incoming links n)

module _ {B M Y : Type 0} (memory : B → M) (has_room : B → ℕ → Bool) (value_at : B → ℕ → Y) where
  pub record AreLike (apart : ℕ → ℕ → Type 0) (old new : List B) : Type 0 where
    pub count : length new ≡ length old
    pub memories : (n : ℕ) (d : B) → memory (slice_index_or new n d) ≡ memory (slice_index_or old n d)
    pub rooms : (n place : ℕ) (d : B) → apart n place → has_room (slice_index_or new n d) place ≡ has_room (slice_index_or old n d) place
    pub values : (n place : ℕ) (d : B) → apart n place → value_at (slice_index_or new n d) place ≡ value_at (slice_index_or old n d) place

  module _ (after : M → List Y → M) (gives : M → List Y → ℕ → Y) (links : List Link) where
    pub record IsTurn (n : ℕ) (old new : List B) : Type 0 where
      pub count : length new ≡ length old
      pub rooms : (m place : ℕ) (d : B) → has_room (slice_index_or new m d) place ≡ has_room (slice_index_or old m d) place
      pub memory_is : (d : B) → memory (slice_index_or new n d) ≡ after (memory (slice_index_or old n d)) (handed value_at links old d n)
      pub memories : (m : ℕ) (d : B) → m ≢ n → memory (slice_index_or new m d) ≡ memory (slice_index_or old m d)
      pub values : (l : ℕ) (d : B) → l < length links → (link_at links l).from ≡ n
          → value_at (slice_index_or new n d) (place_among links l) ≡ gives (memory (slice_index_or old n d)) (handed value_at links old d n) (place_among links l)
      pub others : (l : ℕ) (d : B) → l < length links → (link_at links l).from ≢ n → (link_at links l).to ≢ n
          → value_at (slice_index_or new (link_at links l).from d) (place_among links l) ≡ value_at (slice_index_or old (link_at links l).from d) (place_among links l)

    -- a value waits at its place from the play of its link's source to that of its destination
    pub record AreInOrder (n : ℕ) (old now : List B) : Type 0 where
      pub count : length now ≡ length old
      pub rooms : (m place : ℕ) (d : B) → has_room (slice_index_or now m d) place ≡ has_room (slice_index_or old m d) place
      pub played : (before : ℕ → M) (m : ℕ) (d : B) → Tells memory has_room after gives old before → m < n → m < length old → memory (slice_index_or now m d) ≡ sequential after gives links before m
      pub later : (m : ℕ) (d : B) → n ≤ m → memory (slice_index_or now m d) ≡ memory (slice_index_or old m d)
      pub waiting : (before : ℕ → M) (l : ℕ) (d : B) → Tells memory has_room after gives old before → l < length links → (link_at links l).from < n → n ≤ (link_at links l).to
          → value_at (slice_index_or now (link_at links l).from d) (place_among links l) ≡ value_of after gives links before l
