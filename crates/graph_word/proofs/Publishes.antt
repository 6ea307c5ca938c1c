-- The steps of the publisher keep the rule of a publication.
use Rattle.std.proofs.Common.{◌≡◌, ◌≢◌, ℕ, ◌+◌, ◌*◌, ◌/◌, ◌%◌, ◌<◌, ◌≤◌, true, false, List, [], ◌∷◌, ◌++◌, length, get_or, take, set, sym, refl, ap, ◌∙◌, subst, arith, length-set, length-append}
use Rattle.std.specs.Prelude.{Option, Some, None}
use Rattle.std.specs.List.{All}
use Rattle.std.proofs.lemmas.List.{take-append-le}
use Rattle.std.proofs.lemmas.List.Elements.{All-append, All-cons, All-nil}
use mathlib.Core.Option.{none, some}
use mathlib.Core.Option as maybe
use lib.ListN.{get_elem?}
use lib.Seq.{set-get_or, take-length}
use Rattle.atomic_table.specs.Table.{Me, step, keeps, gives, takes, chain, Allows}
use Rattle.atomic_table.proofs.Lists.{set_here, set_else}
use Rattle.session_model.specs.jack_types.specs.declared.commands.Change.{Change}
use Rattle.session_model.specs.Publication.{SeenPair}
use Rattle.graph_word.specs.declared.plans.Base.{Base}
use Rattle.graph_word.specs.declared.view.TakenRow.{TakenRow}
use Rattle.graph_word.specs.declared.view.PublisherView.{PublisherView}
use Rattle.graph_word.specs.declared.view.SeatView.{SeatView}
use Rattle.graph_word.specs.Publications.{last_row, IsFront}
use Rattle.graph_word.specs.Rule.{Course, Stands, PublicationRule}
use Rattle.graph_word.specs.Steps.{with_publisher, Opened, commit_after, Committed, note_after, Noted}
use Rattle.graph_word.proofs.Fronts.{front_short, front_longer, take_front}
use Rattle.graph_word.proofs.Shown.{valid_of}
use Rattle.graph_word.proofs.Moves.{publisher_moves, reader_stays}

module _ {P : Type 0} (content : P → List Change) (base_of : P → Base) (z : Base) where
  abbrev Held : Type 0
  Held = Me (Option P) SeatView

  pub opens : (n id : ℕ) (me : Held) → me.0.is_publisher ≡ true → me.0.is_reader ≡ false → me.0.publisher.holds ≡ false → Allows (PublicationRule content base_of z) n id me 0 (λ x. x) (Opened (step n 0 0 0 none) me)
  opens n id me is alone free s r wide at _ =
      let mine = (r.each_publisher id me.0 at is).1 in let k : ℕ = me.0.publisher.place in let slot : k ≡ r.course.theirs = mine.own_place in
      let home : get_elem? s.homes k ≡ some (some None) = ap (get_elem? s.homes) slot ∙ r.not_lent (sym mine.slot_out ∙ free) in let p : PublisherView = record me.0.publisher { holds = true } in let old = r.holds in (
        with_publisher me.0 p,
        takes k None,
        home,
        record {
          course = r.course;
          lent = true;
          drawn = r.drawn;
          publisher = r.publisher;
          reader = r.reader;
          words_are = set-get_or s.words 0 0 ∙ r.words_are;
          small = r.small;
          three = length-set s.homes k none ∙ r.three;
          stands = r.stands;
          valid = r.valid;
          holds = (old.0, set_else s.homes k r.course.place none (λ e. r.stands.not_theirs (e ∙ slot)) ∙ old.1, old.2, old.3);
          not_lent = λ (e : true ≡ false). absurd (cc);
          not_drawn = λ e. set_else s.homes k r.course.mine none (λ f. r.stands.apart (sym (f ∙ slot))) ∙ r.not_drawn e;
          each_publisher = publisher_moves content base_of z s r id me.0 at is r.course true p
              record { same_base = mine.same_base; all_published = mine.all_published; own_place = mine.own_place; slot_out = refl; same_pairs = mine.same_pairs; least_low = mine.least_low };
          each_reader = reader_stays content base_of z s r id me.0 at alone r.course p (λ e h. h);
        },
        refl,
      )

  -- the plan y goes into the slot k, and the word becomes the number of the newest plan and this place
  pub commits : (n id : ℕ) (v : SeatView) (k new : ℕ) (y : P) (more : Change) → v.is_publisher ≡ true → v.is_reader ≡ false → v.publisher.holds ≡ true → k ≡ v.publisher.place
      → content y ≡ v.publisher.all ++ more ∷ [] → base_of y ≡ v.publisher.base → new ≡ length (content y) * 4 + k
      → Allows (PublicationRule content base_of z) n id (v, (k, Some y) ∷ []) 0 (λ _. new) (Committed content base_of (step n 0 new 0 none) (v, (k, Some y) ∷ []))
  commits n id v k new y more is alone out slot longer based now s r wide at _ =
      let c : Course = r.course in let st = r.stands in let mine = (r.each_publisher id v at is).1 in let w : ℕ = get_or s.words 0 0 in let found : w ≡ c.number * 4 + c.place = ap (λ (ws : List ℕ). get_or ws 0 0) r.words_are in
      let low : c.place < 3 = st.low_place in let number : w / 4 ≡ c.number = omega arith in let place : w % 4 ≡ c.place = omega arith in let newest = st.newest in let three = r.three in
      let same : k ≡ c.theirs = slot ∙ mine.own_place in let inside : k < length s.homes = (let b = st.low_theirs in omega arith) in let all : List Change = content y in
      let grown : all ≡ c.all ++ more ∷ [] = longer ∙ ap (λ (l : List Change). l ++ more ∷ []) mine.all_published in let long : length all ≡ length c.all + 1 = ap length grown ∙ length-append c.all (more ∷ []) in
      let c' : Course = record { all = all; number = length all; place = k; theirs = c.place; own = c.own; mine = c.mine; rows = c.rows; pairs = c.pairs } in
      let old = r.holds in let x : P = old.0 in let hs : List (maybe.Option (Option P)) = set s.homes k (some (Some y)) in
      let apart : c.place ≢ k = λ e. st.not_theirs (e ∙ same) in let far : c.mine ≢ k = λ e. st.apart (sym (e ∙ same)) in
      let came : get_elem? hs (w % 4) ≡ some (some (Some x)) = ap (get_elem? hs) place ∙ (set_else s.homes k c.place (some (Some y)) apart ∙ old.1) in
      let next : PublisherView = commit_after v.publisher all (w % 4) in
      let stands : Stands c' = record {
        low_place = (let b = st.low_theirs in omega arith);
        low_theirs = low;
        low_mine = st.low_mine;
        not_theirs = λ e. apart (sym e);
        not_mine = λ e. far (sym e);
        apart = st.not_mine;
        newest = omega arith;
        taken = λ i d lt. subst (λ (l : List Change). IsFront (get_or c.rows i d).changes l) (sym grown) (front_longer (get_or c.rows i d).changes c.all (more ∷ []) (st.taken i d lt));
        seen_low = st.seen_low;
        bounded = st.bounded;
      } in (
        with_publisher v next,
        chain gives (takes (w % 4) (Some x)),
        (tt, came),
        record {
          course = c';
          lent = r.lent;
          drawn = r.drawn;
          publisher = r.publisher;
          reader = r.reader;
          words_are = ap (λ (ws : List ℕ). set ws 0 new) r.words_are ∙ ap (λ (q : ℕ). q ∷ last_row c.rows ∷ []) now;
          small = r.small;
          three = length-set hs (w % 4) none ∙ (length-set s.homes k (some (Some y)) ∙ three);
          stands = stands;
          valid = valid_of c' stands;
          holds = (y, set_else hs (w % 4) k none (λ e. apart (sym (e ∙ place))) ∙ set_here s.homes k (some (Some y)) inside, sym (take-length all), based ∙ mine.same_base);
          not_lent = λ e. let no : true ≡ false = sym out ∙ (mine.slot_out ∙ e) in absurd (cc);
          not_drawn = λ e. set_else hs (w % 4) c.mine none (λ f. st.not_mine (sym (f ∙ place))) ∙ (set_else s.homes k c.mine (some (Some y)) far ∙ r.not_drawn e);
          each_publisher = publisher_moves content base_of z s r id v at is c' r.lent next
              record { same_base = mine.same_base; all_published = refl; own_place = place; slot_out = mine.slot_out; same_pairs = mine.same_pairs; least_low = mine.least_low };
          each_reader = reader_stays content base_of z s r id v at alone c' next (λ e h. record {
            same_base = h.same_base;
            own_content = h.own_content ∙ (sym (take-append-le c.own c.all (more ∷ []) (omega arith)) ∙ ap (take c.own) (sym grown));
            own_place = h.own_place;
            slot_out = h.slot_out;
            reads_low = λ i d lt. let low' = h.reads_low i d lt in omega arith;
            same_rows = h.same_rows;
            least_low = (let low' = h.least_low in omega arith);
            behind = λ up. let b = h.behind up in (b.0, (let top = b.1 in omega arith));
          });
        },
        (x, old.3 ∙ sym mine.same_base, subst (λ (u : List Change × List Change). IsFront u.0 u.1) (λ j. (sym old.2 j, sym mine.all_published j)) (take_front c.number c.all (omega arith)), omega arith, refl),
      )

  pub notes : (n id : ℕ) (me : Held) → me.0.is_publisher ≡ true → me.0.is_reader ≡ false → Allows (PublicationRule content base_of z) n id me 1 (λ x. x) (Noted (step n 1 0 0 none) me)
  notes n id me is alone s r wide at _ =
      let c : Course = r.course in let st = r.stands in let mine = (r.each_publisher id me.0 at is).1 in let k : ℕ = get_or s.words 1 0 in let found : k ≡ last_row c.rows = ap (λ (ws : List ℕ). get_or ws 1 0) r.words_are in
      let p : PublisherView = me.0.publisher in let small = r.small in let least = mine.least_low in
      let pair : SeenPair = record { cycle = k; number = length p.all } in let all : length p.all ≡ length c.all = ap length mine.all_published in
      let c' : Course = record c { pairs = c.pairs ++ pair ∷ [] } in
      let Low : SeenPair → Type 0 = λ q. q.cycle ≤ last_row c.rows in
      let Bounded : SeenPair → Type 0 = λ q. All (λ (row : TakenRow). row.cycle ≤ q.cycle → length row.changes ≤ q.number) c.rows in
      let stands : Stands c' = record {
        low_place = st.low_place;
        low_theirs = st.low_theirs;
        low_mine = st.low_mine;
        not_theirs = st.not_theirs;
        not_mine = st.not_mine;
        apart = st.apart;
        newest = st.newest;
        taken = st.taken;
        seen_low = All-append Low c.pairs (pair ∷ []) st.seen_low (All-cons Low pair [] (omega arith) (All-nil Low));
        bounded = All-append Bounded c.pairs (pair ∷ []) st.bounded (All-cons Bounded pair [] (λ i d lt _. let short = front_short (get_or c.rows i d).changes c.all (st.taken i d lt) in omega arith) (All-nil Bounded));
      } in (
        with_publisher me.0 (note_after p k),
        keeps,
        tt,
        record {
          course = c';
          lent = r.lent;
          drawn = r.drawn;
          publisher = r.publisher;
          reader = r.reader;
          words_are = set-get_or s.words 1 0 ∙ r.words_are;
          small = r.small;
          three = r.three;
          stands = stands;
          valid = valid_of c' stands;
          holds = r.holds;
          not_lent = r.not_lent;
          not_drawn = r.not_drawn;
          each_publisher = publisher_moves content base_of z s r id me.0 at is c' r.lent (note_after p k)
              record { same_base = mine.same_base; all_published = mine.all_published; own_place = mine.own_place; slot_out = mine.slot_out; same_pairs = ap (λ (l : List SeenPair). l ++ pair ∷ []) mine.same_pairs; least_low = omega arith };
          each_reader = reader_stays content base_of z s r id me.0 at alone c' (note_after p k)
              (λ e h. record { same_base = h.same_base; own_content = h.own_content; own_place = h.own_place; slot_out = h.slot_out; reads_low = h.reads_low; same_rows = h.same_rows; least_low = h.least_low; behind = h.behind });
        },
        (omega arith, omega arith, refl),
      )
