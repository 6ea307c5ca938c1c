-- What contracts see of the two ends of a publication. Content number n is the first n of all changes published so far.
--     Publishing, Reading      the two ends
--     Commits, Looks, Takes, Begins, Meets      what the calls do
use Rattle.std.specs.Prelude.{◌≡◌, ℕ, ◌≤◌, ◌<◌, List, [], ◌∷◌, ◌++◌, length, take, All, Contains}
use Rattle.atomic_table.specs.Seated.{TableId}
use Rattle.session_model.specs.jack_types.specs.declared.commands.Change.{Change}
use Rattle.session_model.specs.Publication.{SeenPair}
use Rattle.graph_word.specs.declared.plans.Base.{Base}
use Rattle.graph_word.specs.declared.view.TakenRow.{TakenRow}

-- the publisher: which publication, its base, the last content, what its own place holds, the cycles that it saw with the number published then; no later look at the cycle word finds less than `least`
pub record Publishing : Type 0 where
  pub table : TableId
  pub base : Base
  pub all : List Change
  pub held : List Change
  pub pairs : List SeenPair
  pub least : ℕ

-- the reader: what its place holds, the numbers that its steps read, its rows; no later take answers less than `least`
pub record Reading : Type 0 where
  pub table : TableId
  pub base : Base
  pub held : List Change
  pub reads : List ℕ
  pub rows : List TakenRow
  pub least : ℕ

-- the cycle of the last row, or 0
abbrev pub last_row : List TakenRow → ℕ
last_row [] = 0
last_row (row ∷ []) = row.cycle
last_row (row ∷ next ∷ rows) = last_row (next ∷ rows)

abbrev pub IsFront : List Change → List Change → Type 0
IsFront front whole = front ≡ take (length front) whole

-- before any commit, take or look
pub record IsOpening (base : Base) (publisher : Publishing) (reader : Reading) : Type 0 where
  pub publisher_is : publisher ≡ record { table = publisher.table; base = base; all = []; held = []; pairs = []; least = 0 }
  pub reader_is : reader ≡ record { table = publisher.table; base = base; held = []; reads = []; rows = []; least = 0 }

-- the place holds the last content and one change more
pub record MayCommit (publisher : Publishing) : Type 0 where
  pub more : Change
  pub one_more : publisher.held ≡ publisher.all ++ more ∷ []

-- a commit publishes what the place holds, and gets back a place whose content was published
pub record Commits (before after : Publishing) : Type 0 where
  pub all : after.all ≡ before.held
  pub held : IsFront after.held before.all
  pub same : after ≡ record before { all = after.all; held = after.held }

-- a look at the cycle word keeps what it finds, with the number published
pub record Looks (before : Publishing) (seen : ℕ) (after : Publishing) : Type 0 where
  pub least : before.least ≤ seen
  pub after_is : after ≡ record before { pairs = before.pairs ++ record { cycle = seen; number = length before.all } ∷ []; least = seen }

-- a take looks once, and once more exactly where it found a newer plan, which it brings; it answers the last number read, which is that of its place
pub record Takes (before : Reading) (answer : ℕ) (after : Reading) : Type 0 where
  pub earlier : List ℕ
  pub one_more : length earlier ≤ 1
  pub newer : All (λ number. length before.held < number) earlier
  pub stays : earlier ≡ [] → after.held ≡ before.held
  pub reads : after.reads ≡ before.reads ++ (earlier ++ answer ∷ [])
  pub number : answer ≡ length after.held
  pub least : before.least ≤ answer
  pub front : IsFront before.held after.held
  pub same : after ≡ record before { held = after.held; reads = after.reads; least = answer }

-- a begin adds a row with the content of the place
pub record Begins (before : Reading) (cycle : ℕ) (after : Reading) : Type 0 where
  pub after_is : after ≡ record before { rows = before.rows ++ record { cycle = cycle; changes = before.held } ∷ [] }

-- what both ends know of each other where they meet
pub record HaveMet (publisher : Publishing) (reader : Reading) : Type 0 where
  pub one : publisher.table ≡ reader.table
  pub same_base : publisher.base ≡ reader.base
  pub reads : All (λ number. number ≤ length publisher.all) reader.reads
  pub held : IsFront reader.held publisher.all
  pub rows : All (λ (row : TakenRow). IsFront row.changes publisher.all) reader.rows
  pub seen : All (λ (pair : SeenPair). pair.cycle ≤ last_row reader.rows) publisher.pairs
  pub bounded : (pair : SeenPair) (row : TakenRow) → Contains publisher.pairs pair → Contains reader.rows row → row.cycle ≤ pair.cycle → length row.changes ≤ pair.number

-- a meeting changes no list; from then on no take answers less than is published now, and no look finds less than the cycle begun last
pub record Meets (publisher : Publishing) (reader : Reading) (publisher_after : Publishing) (reader_after : Reading) : Type 0 where
  pub met : HaveMet publisher reader
  pub publisher_is : publisher_after ≡ record publisher { least = last_row reader.rows }
  pub reader_is : reader_after ≡ record reader { least = length publisher.all }
