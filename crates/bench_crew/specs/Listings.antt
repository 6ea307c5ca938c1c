-- Links as they are listed by node.
--     AreListed links count into      by node the positions below `count` of the links that come into it
--     AreCounted links count counts      by node how many of the links below `count` go out from it
--     IsListing nodes links into places counts      all of these links are listed, and there is room for any others
use Rattle.std.specs.Prelude.{◌≡◌, ◌≤◌, ◌<◌, ◌==◌, ℕ, List, length, map, filter, count_by, All, slice_index, slice_index_or, vec_capacity}
use Rattle.std.specs.Global.{Vec}
use Rattle.jack_types.specs.declared.ports.Link.{Link}
use Rattle.session_model.specs.Activation.{AreLinks, link_at, place_among}
use Rattle.session_model.specs.Samples.{below}

-- each list keeps its room
pub record AreListed (links : List Link) (count : ℕ) (into : List (Vec ℕ)) : Type 0 where
  pub listed : (n : ℕ) (d : Vec ℕ) → n < length into → (slice_index_or into n d).items ≡ filter (λ l. (link_at links l).to == n) (below count)
  pub room : All (λ (which : Vec ℕ). 512 ≤ vec_capacity which) into

abbrev pub AreCounted : List Link → ℕ → List ℕ → Type 0
AreCounted links count counts = (n : ℕ) → n < length counts → slice_index counts n ≡ count_by (λ l. (link_at links l).from == n) (below count)

pub record IsListing (nodes : ℕ) (links : Vec Link) (into : List (Vec ℕ)) (places : Vec ℕ) (counts : List ℕ) : Type 0 where
  pub few : nodes ≤ 64
  pub are : AreLinks nodes links.items
  pub short : length links.items ≤ 512
  pub by_node : length into ≡ nodes
  pub listed : AreListed links.items (length links.items) into
  pub placed : places.items ≡ map (place_among links.items) (below (length links.items))
  pub counted : length counts ≡ nodes
  pub for_links : 512 ≤ vec_capacity links
  pub for_places : 512 ≤ vec_capacity places
