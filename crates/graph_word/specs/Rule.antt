-- The rule of a publication's table: its words, slots and views show a valid state of the publication machine. No public clause cites this module.
use Rattle.std.specs.Prelude.{◌≡◌, ◌≢◌, ℕ, ◌+◌, ◌*◌, ◌<◌, ◌≤◌, ◌^◌, max, Bool, true, false, List, [], ◌∷◌, length, map, take, set, All, Option, Some, None}
use mathlib.Core.Option.{some}
use lib.ListN.{get_elem?}
use Rattle.atomic_table.specs.Table.{State}
use Rattle.session_model.specs.jack_types.specs.declared.commands.Change.{Change}
use Rattle.session_model.specs.Publication.{SeenPair, BegunRow, Publication, IsPublication}
use Rattle.graph_word.specs.declared.plans.Base.{Base}
use Rattle.graph_word.specs.declared.view.TakenRow.{TakenRow}
use Rattle.graph_word.specs.declared.view.PublisherView.{PublisherView}
use Rattle.graph_word.specs.declared.view.ReaderView.{ReaderView}
use Rattle.graph_word.specs.declared.view.SeatView.{SeatView}
use Rattle.graph_word.specs.Publications.{last_row, IsFront}

-- all fronts of a list, the empty one first: the contents that were published
abbrev pub fronts : List Change → List (List Change)
fronts [] = [] ∷ []
fronts (x ∷ xs) = [] ∷ map (λ front. x ∷ front) (fronts xs)

abbrev pub begun_row : TakenRow → BegunRow
begun_row row = record { cycle = row.cycle; number = length row.changes }

-- numbers and places: the word's, the publisher's, the reader's; the reader's rows and the publisher's pairs
pub record Course : Type 0 where
  pub all : List Change
  pub number : ℕ
  pub place : ℕ
  pub theirs : ℕ
  pub own : ℕ
  pub mine : ℕ
  pub rows : List TakenRow
  pub pairs : List SeenPair

-- the state of the publication machine; what the publisher's place holds is its own
abbrev pub shown : Course → Publication (List Change)
shown c = record {
  contents = fronts c.all;
  places = set (set ([] ∷ [] ∷ [] ∷ []) c.place (take c.number c.all)) c.mine (take c.own c.all);
  word_place = c.place;
  word_number = c.number;
  reader_place = c.mine;
  reader_number = c.own;
  publisher_place = c.theirs;
  cycle_word = last_row c.rows;
  rows = map begun_row c.rows;
  pairs = c.pairs;
}

-- what holds at every moment
pub record Stands (c : Course) : Type 0 where
  pub low_place : c.place < 3
  pub low_theirs : c.theirs < 3
  pub low_mine : c.mine < 3
  pub not_theirs : c.place ≢ c.theirs
  pub not_mine : c.place ≢ c.mine
  pub apart : c.theirs ≢ c.mine
  pub newest : max c.number c.own ≡ length c.all
  pub taken : All (λ (row : TakenRow). IsFront row.changes c.all) c.rows
  pub seen_low : All (λ (pair : SeenPair). pair.cycle ≤ last_row c.rows) c.pairs
  pub bounded : All (λ (pair : SeenPair). All (λ (row : TakenRow). row.cycle ≤ pair.cycle → length row.changes ≤ pair.number) c.rows) c.pairs

-- what the publisher's seat knows is so; `lent` says whether its slot is out
pub record KnowsPublished (base : Base) (c : Course) (lent : Bool) (p : PublisherView) : Type 0 where
  pub same_base : p.base ≡ base
  pub all_published : p.all ≡ c.all
  pub own_place : p.place ≡ c.theirs
  pub slot_out : p.holds ≡ lent
  pub same_pairs : p.pairs ≡ c.pairs
  pub least_low : p.least ≤ last_row c.rows

-- and what the reader's seat knows
pub record KnowsTaken (base : Base) (c : Course) (drawn : Bool) (e : ReaderView) : Type 0 where
  pub same_base : e.base ≡ base
  pub own_content : e.held ≡ take c.own c.all
  pub own_place : e.place ≡ c.mine
  pub slot_out : e.holds ≡ drawn
  pub reads_low : All (λ n. n ≤ length c.all) e.reads
  pub same_rows : e.rows ≡ c.rows
  pub least_low : e.least ≤ length c.all
  pub behind : 0 < e.ahead → (c.own < e.ahead) × (e.ahead ≤ c.number)

pub record PublicationRule {P : Type 0} (content : P → List Change) (base_of : P → Base) (base : Base) (s : State (Option P) SeatView) : Type 0 where
  pub course : Course
  pub lent : Bool
  pub drawn : Bool
  pub publisher : ℕ
  pub reader : ℕ
  pub words_are : s.words ≡ (course.number * 4 + course.place) ∷ last_row course.rows ∷ []
  pub small : last_row course.rows < 2 ^ 32
  pub three : length s.homes ≡ 3
  pub stands : Stands course
  pub valid : IsPublication (shown course)
  pub holds : (x : P) × (get_elem? s.homes course.place ≡ some (some (Some x))) × (content x ≡ take course.number course.all) × (base_of x ≡ base)
  pub not_lent : lent ≡ false → get_elem? s.homes course.theirs ≡ some (some None)
  pub not_drawn : drawn ≡ false → get_elem? s.homes course.mine ≡ some (some None)
  pub each_publisher : (j : ℕ) (v : SeatView) → get_elem? s.views j ≡ some v → v.is_publisher ≡ true → (j ≡ publisher) × KnowsPublished base course lent v.publisher
  pub each_reader : (j : ℕ) (v : SeatView) → get_elem? s.views j ≡ some v → v.is_reader ≡ true → (j ≡ reader) × KnowsTaken base course drawn v.reader

abbrev pub opening_course : Course
opening_course = record { all = []; number = 0; place = 0; theirs = 1; own = 0; mine = 2; rows = []; pairs = [] }

abbrev pub opening_view : Base → SeatView
opening_view base = record {
  is_publisher = true;
  is_reader = true;
  publisher = record { base = base; all = []; place = 1; holds = false; pairs = []; least = 0 };
  reader = record { base = base; held = []; place = 2; holds = false; reads = []; rows = []; least = 0; ahead = 0 };
}
