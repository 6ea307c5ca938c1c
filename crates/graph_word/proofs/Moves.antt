-- What stays of the rule where one seat moves.
use Rattle.std.proofs.Common.{◌≡◌, ℕ, Bool, true, false, List, set, sym, ◌∙◌}
use Rattle.std.specs.Prelude.{Option}
use mathlib.Core.Option.{some}
use lib.ListN.{get_elem?}
use Rattle.atomic_table.specs.Table.{State}
use Rattle.table_lemmas.proofs.Views.{each_set}
use Rattle.session_model.specs.jack_types.specs.declared.commands.Change.{Change}
use Rattle.graph_word.specs.declared.plans.Base.{Base}
use Rattle.graph_word.specs.declared.view.PublisherView.{PublisherView}
use Rattle.graph_word.specs.declared.view.ReaderView.{ReaderView}
use Rattle.graph_word.specs.declared.view.SeatView.{SeatView}
use Rattle.graph_word.specs.Rule.{Course, KnowsPublished, KnowsTaken, PublicationRule}
use Rattle.graph_word.specs.Steps.{with_publisher, with_reader}

module _ {P : Type 0} (content : P → List Change) (base_of : P → Base) (z : Base) (s : State (Option P) SeatView) (r : PublicationRule content base_of z s) (id : ℕ) (v : SeatView) (at : get_elem? s.views id ≡ some v) where
  abbrev pub Publishers : Course → Bool → List SeatView → Type 0
  Publishers c lent vs = (j : ℕ) (u : SeatView) → get_elem? vs j ≡ some u → u.is_publisher ≡ true → (j ≡ r.publisher) × KnowsPublished z c lent u.publisher

  abbrev pub Readers : Course → Bool → List SeatView → Type 0
  Readers c drawn vs = (j : ℕ) (u : SeatView) → get_elem? vs j ≡ some u → u.is_reader ≡ true → (j ≡ r.reader) × KnowsTaken z c drawn u.reader

  pub publisher_moves : v.is_publisher ≡ true → (c : Course) (lent : Bool) (p : PublisherView) → KnowsPublished z c lent p → Publishers c lent (set s.views id (with_publisher v p))
  publisher_moves is c lent p mine = let here = (r.each_publisher id v at is).0 in
      each_set (λ j u. u.is_publisher ≡ true → (j ≡ r.publisher) × KnowsPublished z c lent u.publisher) s.views id (with_publisher v p) (λ _. (here, mine))
      (λ j u other e publishes. absurd (other ((r.each_publisher j u e publishes).0 ∙ sym here)))

  pub reader_stays : v.is_reader ≡ false → (c : Course) (p : PublisherView) → ((e : ReaderView) → KnowsTaken z r.course r.drawn e → KnowsTaken z c r.drawn e) → Readers c r.drawn (set s.views id (with_publisher v p))
  reader_stays not c p more =
      each_set (λ j u. u.is_reader ≡ true → (j ≡ r.reader) × KnowsTaken z c r.drawn u.reader) s.views id (with_publisher v p) (λ is. absurd (cc))
      (λ j u other e reads. let old = r.each_reader j u e reads in (old.0, more u.reader old.1))

  pub reader_moves : v.is_reader ≡ true → (c : Course) (drawn : Bool) (e : ReaderView) → KnowsTaken z c drawn e → Readers c drawn (set s.views id (with_reader v e))
  reader_moves is c drawn e mine = let here = (r.each_reader id v at is).0 in
      each_set (λ j u. u.is_reader ≡ true → (j ≡ r.reader) × KnowsTaken z c drawn u.reader) s.views id (with_reader v e) (λ _. (here, mine))
      (λ j u other at' reads. absurd (other ((r.each_reader j u at' reads).0 ∙ sym here)))

  pub publisher_stays : v.is_publisher ≡ false → (c : Course) (e : ReaderView) → ((p : PublisherView) → KnowsPublished z r.course r.lent p → KnowsPublished z c r.lent p) → Publishers c r.lent (set s.views id (with_reader v e))
  publisher_stays not c e more =
      each_set (λ j u. u.is_publisher ≡ true → (j ≡ r.publisher) × KnowsPublished z c r.lent u.publisher) s.views id (with_reader v e) (λ is. absurd (cc))
      (λ j u other at' publishes. let old = r.each_publisher j u at' publishes in (old.0, more u.publisher old.1))
