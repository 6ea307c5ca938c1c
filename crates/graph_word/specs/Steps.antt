-- What each step on a publication's table tells the seat that makes it. No public clause cites this module.
use Rattle.std.specs.Prelude.{◌≡◌, ℕ, ◌/◌, ◌%◌, ◌<◌, ◌≤◌, ◌^◌, true, false, List, [], ◌∷◌, ◌++◌, length, All, Option, Some, None}
use Rattle.atomic_table.specs.Table.{Me, Step, rest}
use Rattle.session_model.specs.jack_types.specs.declared.commands.Change.{Change}
use Rattle.session_model.specs.Publication.{SeenPair}
use Rattle.graph_word.specs.declared.plans.Base.{Base}
use Rattle.graph_word.specs.declared.view.TakenRow.{TakenRow}
use Rattle.graph_word.specs.declared.view.PublisherView.{PublisherView}
use Rattle.graph_word.specs.declared.view.ReaderView.{ReaderView}
use Rattle.graph_word.specs.declared.view.SeatView.{SeatView}
use Rattle.graph_word.specs.Publications.{last_row, IsFront}
use Rattle.graph_word.specs.Rule.{opening_view}

abbrev pub with_publisher : SeatView → PublisherView → SeatView
with_publisher v p = record v { publisher = p }

abbrev pub with_reader : SeatView → ReaderView → SeatView
with_reader v e = record v { reader = e }

-- the publisher took its slot
abbrev pub Opened : {P : Type 0} → Step (Option P) → Me (Option P) SeatView → ℕ → Me (Option P) SeatView → Type 0
Opened st m r m' = m' ≡ (with_publisher m.0 (record m.0.publisher { holds = true }), (m.0.publisher.place, None) ∷ m.1)

-- the reader took its slot
abbrev pub Settled : {P : Type 0} → Step (Option P) → Me (Option P) SeatView → ℕ → Me (Option P) SeatView → Type 0
Settled st m r m' = m' ≡ (with_reader m.0 (record m.0.reader { holds = true }), (m.0.reader.place, None) ∷ m.1)

abbrev pub commit_after : PublisherView → List Change → ℕ → PublisherView
commit_after p all place = record p { all = all; place = place }

abbrev pub swap_after : ReaderView → ℕ → List Change → ReaderView
swap_after e r new = record e { held = new; place = r % 4; reads = e.reads ++ r / 4 ∷ []; least = r / 4; ahead = 0 }

-- an exchange that brought a plan of this number
pub record Exchanges (before : ReaderView) (number : ℕ) (after : ReaderView) : Type 0 where
  pub found : ℕ
  pub content : List Change
  pub number_is : number ≡ length content
  pub long : length content ≡ found / 4
  pub least : before.least ≤ found / 4
  pub front : IsFront before.held content
  pub after_is : after ≡ swap_after before found content

module _ {P : Type 0} (content : P → List Change) (base_of : P → Base) where
  abbrev pub content_or : Option P → List Change
  content_or (Some x) = content x
  content_or None = []

  -- the content of the slot that a seat took last
  abbrev pub hand_content : List (ℕ × Option P) → List Change
  hand_content [] = []
  hand_content (x ∷ _) = content_or x.1

  -- the plan in the slot was published, and the word's place came out with a plan that had been
  abbrev pub Committed : Step (Option P) → Me (Option P) SeatView → ℕ → Me (Option P) SeatView → Type 0
  Committed st m r m' = (x : P) × (base_of x ≡ m.0.publisher.base) × IsFront (content x) m.0.publisher.all × (r % 4 < 3)
      × (m' ≡ (with_publisher m.0 (commit_after m.0.publisher (hand_content m.1) (r % 4)), (r % 4, Some x) ∷ rest m.1))

  -- the plan in the slot went to the word, and the word's place came out with a newer one
  abbrev pub Swapped : Step (Option P) → Me (Option P) SeatView → ℕ → Me (Option P) SeatView → Type 0
  Swapped st m r m' = (m.0.reader.ahead ≤ r / 4) × (m.0.reader.least ≤ r / 4) × (r % 4 < 3)
      × ((x : P) × (base_of x ≡ m.0.reader.base) × IsFront m.0.reader.held (content x) × (length (content x) ≡ r / 4) × (m' ≡ (with_reader m.0 (swap_after m.0.reader r (content x)), (r % 4, Some x) ∷ rest m.1)))

abbrev pub note_after : PublisherView → ℕ → PublisherView
note_after p r = record p { pairs = p.pairs ++ record { cycle = r; number = length p.all } ∷ []; least = r }

-- the publisher found the cycle word r
abbrev pub Noted : {S : Type 0} → Step S → Me S SeatView → ℕ → Me S SeatView → Type 0
Noted st m r m' = (m.0.publisher.least ≤ r) × (r < 2 ^ 32) × (m' ≡ (with_publisher m.0 (note_after m.0.publisher r), m.1))

-- the reader found a newer plan in the word, or none
abbrev pub ahead_after : ReaderView → ℕ → ReaderView
ahead_after e n = record e { reads = e.reads ++ n ∷ []; ahead = n }

abbrev pub stay_after : ReaderView → ReaderView
stay_after e = record e { reads = e.reads ++ length e.held ∷ []; least = length e.held; ahead = 0 }

abbrev pub Saw : {S : Type 0} → Step S → Me S SeatView → ℕ → Me S SeatView → Type 0
Saw st m r m' =
    (length m.0.reader.held < r / 4 → m' ≡ (with_reader m.0 (ahead_after m.0.reader (r / 4)), m.1))
    × (r / 4 ≤ length m.0.reader.held → (m.0.reader.least ≤ length m.0.reader.held) × (m' ≡ (with_reader m.0 (stay_after m.0.reader), m.1)))

abbrev pub begin_after : ReaderView → ℕ → ReaderView
begin_after e cycle = record e { rows = e.rows ++ record { cycle = cycle; changes = e.held } ∷ [] }

-- the reader stored the cycle word
abbrev pub Begun : {S : Type 0} → Step S → Me S SeatView → ℕ → Me S SeatView → Type 0
Begun st m r m' = m' ≡ (with_reader m.0 (begin_after m.0.reader r), m.1)

-- ---- one seat that is both ends

abbrev pub without_reader : SeatView → SeatView
without_reader v = record v { is_reader = false }

abbrev pub without_publisher : SeatView → SeatView
without_publisher v = record v { is_publisher = false }

abbrev pub joined : SeatView → SeatView → SeatView
joined v w = record { is_publisher = true; is_reader = true; publisher = v.publisher; reader = w.reader }

abbrev pub returned : SeatView → SeatView → SeatView
returned v w = record { is_publisher = false; is_reader = true; publisher = v.publisher; reader = w.reader }

-- a seat that has handed over what it knew
abbrev pub nobody : SeatView
nobody = without_reader (without_publisher (opening_view record { capture = 0; playback = 0 }))

-- what the two ends know of each other where they meet
pub record HasMet (p : PublisherView) (e : ReaderView) : Type 0 where
  pub same_base : p.base ≡ e.base
  pub reads : All (λ n. n ≤ length p.all) e.reads
  pub held : IsFront e.held p.all
  pub rows : All (λ (row : TakenRow). IsFront row.changes p.all) e.rows
  pub seen : All (λ (pair : SeenPair). pair.cycle ≤ last_row e.rows) p.pairs
  pub bounded : All (λ (pair : SeenPair). All (λ (row : TakenRow). row.cycle ≤ pair.cycle → length row.changes ≤ pair.number) e.rows) p.pairs

abbrev pub meet_after : SeatView → SeatView
meet_after v = record {
  is_publisher = true;
  is_reader = true;
  publisher = record v.publisher { least = last_row v.reader.rows };
  reader = record v.reader { least = length v.publisher.all };
}

abbrev pub Met : {S : Type 0} → Step S → Me S SeatView → ℕ → Me S SeatView → Type 0
Met st m r m' = HasMet m.0.publisher m.0.reader × (m' ≡ (meet_after m.0, m.1))
