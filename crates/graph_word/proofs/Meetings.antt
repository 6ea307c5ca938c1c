-- The steps by which the two ends meet keep the rule of a publication.
use Rattle.std.proofs.Common.{◌≡◌, ◌≢◌, ℕ, ◌≤◌, true, false, List, length, set, sym, refl, ap, ◌∙◌, subst, ⊎_elim, arith}
use Rattle.std.specs.Prelude.{Option}
use Rattle.std.specs.List.{All}
use mathlib.Core.Option.{none, some}
use lib.ListN.{get_elem?}
use lib.Seq.{set-get_or}
use Rattle.atomic_table.specs.Table.{State, Me, step, keeps, Allows, Splits, Joins}
use Rattle.atomic_table.proofs.Lists.{set_else}
use Rattle.table_lemmas.proofs.Views.{each_set, at_snoc_last}
use Rattle.session_model.specs.jack_types.specs.declared.commands.Change.{Change}
use Rattle.session_model.specs.Publication.{SeenPair}
use Rattle.graph_word.specs.declared.plans.Base.{Base}
use Rattle.graph_word.specs.declared.view.TakenRow.{TakenRow}
use Rattle.graph_word.specs.declared.view.SeatView.{SeatView}
use Rattle.graph_word.specs.Publications.{last_row, IsFront}
use Rattle.graph_word.specs.Rule.{Course, KnowsPublished, KnowsTaken, PublicationRule}
use Rattle.graph_word.specs.Steps.{without_reader, without_publisher, joined, returned, nobody, HasMet, meet_after, Met}
use Rattle.graph_word.proofs.Fronts.{take_front}

module _ {P : Type 0} (content : P → List Change) (base_of : P → Base) (z : Base) where
  abbrev St : Type 0
  St = State (Option P) SeatView

  abbrev Rule : St → Type 0
  Rule = PublicationRule content base_of z

  pub parts : (id : ℕ) (v : SeatView) → v.is_reader ≡ true → Splits Rule id v (without_reader v) (without_publisher v)
  parts id v reads s r at =
      let mine = r.each_reader id v at reads in let vs : List SeatView = set s.views id (without_reader v) in let last : ℕ = length vs in
      record {
        course = r.course;
        lent = r.lent;
        drawn = r.drawn;
        publisher = r.publisher;
        reader = last;
        words_are = r.words_are;
        small = r.small;
        three = r.three;
        stands = r.stands;
        valid = r.valid;
        holds = r.holds;
        not_lent = r.not_lent;
        not_drawn = r.not_drawn;
        each_publisher = λ j u e publishes. ⊎_elim
            (λ (h : get_elem? vs j ≡ some u). each_set (λ i w. w.is_publisher ≡ true → (i ≡ r.publisher) × KnowsPublished z r.course r.lent w.publisher) s.views id (without_reader v)
            (r.each_publisher id v at) (λ i w other e'. r.each_publisher i w e') j u h publishes)
            (λ (h : (j ≡ last) × (without_publisher v ≡ u)). let no : false ≡ u.is_publisher = ap (λ (w : SeatView). w.is_publisher) h.1 in absurd (cc))
            (at_snoc_last vs (without_publisher v) u j e);
        each_reader = λ j u e is. ⊎_elim
            (λ (h : get_elem? vs j ≡ some u). absurd (each_set (λ i w. w.is_reader ≡ true → ⊥) s.views id (without_reader v) (λ (never : false ≡ true). cc)
            (λ i w other e' is'. other ((r.each_reader i w e' is').0 ∙ sym mine.0)) j u h is))
            (λ (h : (j ≡ last) × (without_publisher v ≡ u)). (h.0, subst (λ (w : SeatView). KnowsTaken z r.course r.drawn w.reader) h.1 mine.1))
            (at_snoc_last vs (without_publisher v) u j e);
      }

  pub joins : (id : ℕ) (v : SeatView) (other : ℕ) (w : SeatView) → v.is_publisher ≡ true → w.is_reader ≡ true → Joins Rule id v other w (joined v w) nobody
  joins id v other w publishes reads s r at two at' =
      let first : List SeatView = set s.views id (joined v w) in let mine = r.each_publisher id v at publishes in let was : get_elem? s.views other ≡ some w = sym (set_else s.views id other (joined v w) two) ∙ at' in
      let theirs = r.each_reader other w was reads in
      record {
        course = r.course;
        lent = r.lent;
        drawn = r.drawn;
        publisher = id;
        reader = id;
        words_are = r.words_are;
        small = r.small;
        three = r.three;
        stands = r.stands;
        valid = r.valid;
        holds = r.holds;
        not_lent = r.not_lent;
        not_drawn = r.not_drawn;
        each_publisher = each_set (λ i u. u.is_publisher ≡ true → (i ≡ id) × KnowsPublished z r.course r.lent u.publisher) first other nobody (λ (never : false ≡ true). absurd (cc))
            (λ j u apart' e. each_set (λ i u'. u'.is_publisher ≡ true → (i ≡ id) × KnowsPublished z r.course r.lent u'.publisher) s.views id (joined v w) (λ _. (refl, mine.1))
            (λ i u' far e' is'. absurd (far ((r.each_publisher i u' e' is').0 ∙ sym mine.0))) j u e);
        each_reader = each_set (λ i u. u.is_reader ≡ true → (i ≡ id) × KnowsTaken z r.course r.drawn u.reader) first other nobody (λ (never : false ≡ true). absurd (cc))
            (λ j u apart' e. each_set (λ i u'. i ≢ other → u'.is_reader ≡ true → (i ≡ id) × KnowsTaken z r.course r.drawn u'.reader) s.views id (joined v w) (λ _ _. (refl, theirs.1))
            (λ i u' far e' not is'. absurd (not ((r.each_reader i u' e' is').0 ∙ sym theirs.0))) j u e apart');
      }

  -- the reader's part comes back to a seat with no part
  pub goes_back : (id : ℕ) (v : SeatView) (other : ℕ) (w : SeatView) → v.is_publisher ≡ false → w.is_reader ≡ true → w.is_publisher ≡ false → Joins Rule id v other w (returned v w) nobody
  goes_back id v other w empty reads alone s r at two at' =
      let first : List SeatView = set s.views id (returned v w) in let was : get_elem? s.views other ≡ some w = sym (set_else s.views id other (returned v w) two) ∙ at' in
      let theirs = r.each_reader other w was reads in
      record {
        course = r.course;
        lent = r.lent;
        drawn = r.drawn;
        publisher = r.publisher;
        reader = id;
        words_are = r.words_are;
        small = r.small;
        three = r.three;
        stands = r.stands;
        valid = r.valid;
        holds = r.holds;
        not_lent = r.not_lent;
        not_drawn = r.not_drawn;
        each_publisher = each_set (λ i u. u.is_publisher ≡ true → (i ≡ r.publisher) × KnowsPublished z r.course r.lent u.publisher) first other nobody (λ (never : false ≡ true). absurd (cc))
            (λ j u apart' e. each_set (λ i u'. u'.is_publisher ≡ true → (i ≡ r.publisher) × KnowsPublished z r.course r.lent u'.publisher) s.views id (returned v w) (λ (never : false ≡ true). absurd (cc))
            (λ i u' far e' is'. r.each_publisher i u' e' is') j u e);
        each_reader = each_set (λ i u. u.is_reader ≡ true → (i ≡ id) × KnowsTaken z r.course r.drawn u.reader) first other nobody (λ (never : false ≡ true). absurd (cc))
            (λ j u apart' e. each_set (λ i u'. i ≢ other → u'.is_reader ≡ true → (i ≡ id) × KnowsTaken z r.course r.drawn u'.reader) s.views id (returned v w) (λ _ _. (refl, theirs.1))
            (λ i u' far e' not is'. absurd (not ((r.each_reader i u' e' is').0 ∙ sym theirs.0))) j u e apart');
      }

  pub meets : (n id : ℕ) (me : Me (Option P) SeatView) → me.0.is_publisher ≡ true → me.0.is_reader ≡ true → Allows Rule n id me 0 (λ x. x) (Met (step n 0 0 0 none) me)
  meets n id me publishes reads s r wide at _ =
      let v : SeatView = me.0 in let mine = r.each_publisher id v at publishes in let theirs = r.each_reader id v at reads in let p = mine.1 in let e = theirs.1 in let c : Course = r.course in let st = r.stands in let newest = st.newest in
      let met : HasMet v.publisher v.reader = record {
        same_base = p.same_base ∙ sym e.same_base;
        reads = subst (λ (l : List Change). All (λ n. n ≤ length l) v.reader.reads) (sym p.all_published) e.reads_low;
        held = subst (λ (u : List Change × List Change). IsFront u.0 u.1) (λ j. (sym e.own_content j, sym p.all_published j)) (take_front c.own c.all (omega arith));
        rows = subst (λ (u : List Change × List TakenRow). All (λ (row : TakenRow). IsFront row.changes u.0) u.1) (λ j. (sym p.all_published j, sym e.same_rows j)) st.taken;
        seen = subst (λ (u : List SeenPair × List TakenRow). All (λ (pair : SeenPair). pair.cycle ≤ last_row u.1) u.0) (λ j. (sym p.same_pairs j, sym e.same_rows j)) st.seen_low;
        bounded = subst (λ (u : List SeenPair × List TakenRow). All (λ (pair : SeenPair). All (λ (row : TakenRow). row.cycle ≤ pair.cycle → length row.changes ≤ pair.number) u.1) u.0) (λ j. (sym p.same_pairs j, sym e.same_rows j)) st.bounded;
      } in
      let last : last_row v.reader.rows ≡ last_row c.rows = ap last_row e.same_rows in let all : length v.publisher.all ≡ length c.all = ap length p.all_published in (
        meet_after v,
        keeps,
        tt,
        record {
          course = c;
          lent = r.lent;
          drawn = r.drawn;
          publisher = r.publisher;
          reader = r.reader;
          words_are = set-get_or s.words 0 0 ∙ r.words_are;
          small = r.small;
          three = r.three;
          stands = st;
          valid = r.valid;
          holds = r.holds;
          not_lent = r.not_lent;
          not_drawn = r.not_drawn;
          each_publisher = each_set (λ i u. u.is_publisher ≡ true → (i ≡ r.publisher) × KnowsPublished z c r.lent u.publisher) s.views id (meet_after v)
              (λ _. (mine.0, record { same_base = p.same_base; all_published = p.all_published; own_place = p.own_place; slot_out = p.slot_out; same_pairs = p.same_pairs; least_low = omega arith }))
              (λ j u other e' is'. absurd (other ((r.each_publisher j u e' is').0 ∙ sym mine.0)));
          each_reader = each_set (λ i u. u.is_reader ≡ true → (i ≡ r.reader) × KnowsTaken z c r.drawn u.reader) s.views id (meet_after v)
              (λ _. (theirs.0, record { same_base = e.same_base; own_content = e.own_content; own_place = e.own_place; slot_out = e.slot_out; reads_low = e.reads_low; same_rows = e.same_rows; least_low = omega arith; behind = e.behind }))
              (λ j u other e' is'. absurd (other ((r.each_reader j u e' is').0 ∙ sym theirs.0)));
        },
        (met, refl),
      )
