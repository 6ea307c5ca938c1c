-- What the structs of the two ends keep, and what contracts see of them. No public clause cites this module.
use Rattle.std.specs.Prelude.{◌≡◌, ◌<◌, true, false, List, [], ◌∷◌, length, None}
use Rattle.atomic_table.specs.Seated.{TableId}
use Rattle.session_model.specs.jack_types.specs.declared.commands.Change.{Change}
use Rattle.graph_word.specs.declared.plans.Base.{Base}
use Rattle.graph_word.specs.declared.reader.Hold.{Hold}
use Rattle.graph_word.specs.declared.view.PublisherView.{PublisherView}
use Rattle.graph_word.specs.declared.view.ReaderView.{ReaderView}
use Rattle.graph_word.specs.Publications.{Publishing, Reading}

abbrev pub publishing_of : TableId → PublisherView → List Change → Publishing
publishing_of table p held = record { table = table; base = p.base; all = p.all; held = held; pairs = p.pairs; least = p.least }

abbrev pub reading_of : TableId → ReaderView → Reading
reading_of table e = record { table = table; base = e.base; held = e.held; reads = e.reads; rows = e.rows; least = e.least }

-- the table has two words and three slots, the seat is a reader's, and the slot of its place is out; the plan is that place's, with its number
pub record IsHeld {P : Type 0} (content_of : P → List Change) (base_of : P → Base) (table : TableId) (h : Hold P) : Type 0 where
  pub words : table.words ≡ 2
  pub slots : table.slots ≡ 3
  pub seat : h.seat.table_id ≡ table
  pub slot_out : h.seat.me.1 ≡ (h.place, None) ∷ []
  pub reads : h.seat.me.0.is_reader ≡ true
  pub alone : h.seat.me.0.is_publisher ≡ false
  pub holds : h.seat.me.0.reader.holds ≡ true
  pub place : h.place ≡ h.seat.me.0.reader.place
  pub low_place : h.place < 3
  pub number : h.number ≡ length h.seat.me.0.reader.held
  pub content : content_of h.plan ≡ h.seat.me.0.reader.held
  pub base : base_of h.plan ≡ h.seat.me.0.reader.base
