-- The steps of the reader keep the rule of a publication.
use Rattle.std.proofs.Common.{◌≡◌, ◌≢◌, ℕ, ◌+◌, ◌*◌, ◌/◌, ◌%◌, ◌<◌, ◌≤◌, ◌^◌, true, false, List, [], ◌∷◌, ◌++◌, length, get_or, set, sym, refl, ap, ◌∙◌, subst, arith, append_assoc, length-set}
use Rattle.std.specs.Prelude.{Option, Some, None}
use Rattle.std.proofs.lemmas.List.{length-take-le}
use Rattle.std.proofs.lemmas.List.Elements.{All-append, All-cons, All-nil}
use mathlib.Core.Logic.{dite}
use mathlib.Core.Option.{none, some}
use mathlib.Core.Option as maybe
use native.Mathlib.Decide.{dec_lt}
use lib.ListN.{get_elem?}
use lib.Seq.{set-get_or}
use Rattle.atomic_table.specs.Seated.{TableId}
use Rattle.atomic_table.specs.Table.{Me, step, keeps, gives, takes, chain, Allows}
use Rattle.atomic_table.proofs.Lists.{set_here, set_else}
use Rattle.session_model.specs.jack_types.specs.declared.commands.Change.{Change}
use Rattle.session_model.specs.Publication.{SeenPair}
use Rattle.graph_word.specs.declared.plans.Base.{Base}
use Rattle.graph_word.specs.declared.view.TakenRow.{TakenRow}
use Rattle.graph_word.specs.declared.view.ReaderView.{ReaderView}
use Rattle.graph_word.specs.declared.view.SeatView.{SeatView}
use Rattle.graph_word.specs.Publications.{last_row, IsFront, Takes}
use Rattle.graph_word.specs.Ends.{reading_of}
use Rattle.graph_word.specs.Rule.{Course, Stands, PublicationRule}
use Rattle.graph_word.specs.Steps.{with_reader, Settled, swap_after, Swapped, ahead_after, stay_after, Saw, begin_after, Begun}
use Rattle.graph_word.proofs.Fronts.{take_front, fronts_nest}
use Rattle.graph_word.proofs.Shown.{valid_of, last_pushed}
use Rattle.graph_word.proofs.Moves.{reader_moves, publisher_stays}

module _ {P : Type 0} (content : P → List Change) (base_of : P → Base) (z : Base) where
  abbrev Held : Type 0
  Held = Me (Option P) SeatView

  pub settles : (n id : ℕ) (me : Held) → me.0.is_reader ≡ true → me.0.is_publisher ≡ false → me.0.reader.holds ≡ false → Allows (PublicationRule content base_of z) n id me 0 (λ x. x) (Settled (step n 0 0 0 none) me)
  settles n id me is alone free s r wide at _ =
      let mine = (r.each_reader id me.0 at is).1 in let k : ℕ = me.0.reader.place in let slot : k ≡ r.course.mine = mine.own_place in
      let home : get_elem? s.homes k ≡ some (some None) = ap (get_elem? s.homes) slot ∙ r.not_drawn (sym mine.slot_out ∙ free) in let e : ReaderView = record me.0.reader { holds = true } in let old = r.holds in (
        with_reader me.0 e,
        takes k None,
        home,
        record {
          course = r.course;
          lent = r.lent;
          drawn = true;
          publisher = r.publisher;
          reader = r.reader;
          words_are = set-get_or s.words 0 0 ∙ r.words_are;
          small = r.small;
          three = length-set s.homes k none ∙ r.three;
          stands = r.stands;
          valid = r.valid;
          holds = (old.0, set_else s.homes k r.course.place none (λ f. r.stands.not_mine (f ∙ slot)) ∙ old.1, old.2, old.3);
          not_lent = λ h. set_else s.homes k r.course.theirs none (λ f. r.stands.apart (f ∙ slot)) ∙ r.not_lent h;
          not_drawn = λ (h : true ≡ false). absurd (cc);
          each_publisher = publisher_stays content base_of z s r id me.0 at alone r.course e (λ p h. h);
          each_reader = reader_moves content base_of z s r id me.0 at is r.course true e record {
            same_base = mine.same_base;
            own_content = mine.own_content;
            own_place = mine.own_place;
            slot_out = refl;
            reads_low = mine.reads_low;
            same_rows = mine.same_rows;
            least_low = mine.least_low;
            behind = mine.behind;
          };
        },
        refl,
      )

  pub sees : (n id : ℕ) (me : Held) → me.0.is_reader ≡ true → me.0.is_publisher ≡ false → Allows (PublicationRule content base_of z) n id me 0 (λ x. x) (Saw (step n 0 0 0 none) me)
  sees n id me is alone s r wide at _ =
      let c : Course = r.course in let mine = (r.each_reader id me.0 at is).1 in let w : ℕ = get_or s.words 0 0 in let found : w ≡ c.number * 4 + c.place = ap (λ (ws : List ℕ). get_or ws 0 0) r.words_are in
      let low : c.place < 3 = r.stands.low_place in let number : w / 4 ≡ c.number = omega arith in let newest = r.stands.newest in let e : ReaderView = me.0.reader in
      let own : length e.held ≡ c.own = ap length mine.own_content ∙ length-take-le c.own c.all (omega arith) in let least = mine.least_low in
      let Low : ℕ → Type 0 = λ q. q ≤ length c.all in
      dite (dec_lt (length e.held) (w / 4))
      (λ more. let e' : ReaderView = ahead_after e (w / 4) in (
        with_reader me.0 e',
        keeps,
        tt,
        record {
          course = c;
          lent = r.lent;
          drawn = r.drawn;
          publisher = r.publisher;
          reader = r.reader;
          words_are = set-get_or s.words 0 0 ∙ r.words_are;
          small = r.small;
          three = r.three;
          stands = r.stands;
          valid = r.valid;
          holds = r.holds;
          not_lent = r.not_lent;
          not_drawn = r.not_drawn;
          each_publisher = publisher_stays content base_of z s r id me.0 at alone c e' (λ p h. h);
          each_reader = reader_moves content base_of z s r id me.0 at is c r.drawn e' record {
            same_base = mine.same_base;
            own_content = mine.own_content;
            own_place = mine.own_place;
            slot_out = mine.slot_out;
            reads_low = All-append Low e.reads (w / 4 ∷ []) mine.reads_low (All-cons Low (w / 4) [] (omega arith) (All-nil Low));
            same_rows = mine.same_rows;
            least_low = mine.least_low;
            behind = λ _. (omega arith, omega arith);
          };
        },
        ((λ _. refl), λ not. absurd (omega arith)),
      ))
      (λ none_newer. let e' : ReaderView = stay_after e in (
        with_reader me.0 e',
        keeps,
        tt,
        record {
          course = c;
          lent = r.lent;
          drawn = r.drawn;
          publisher = r.publisher;
          reader = r.reader;
          words_are = set-get_or s.words 0 0 ∙ r.words_are;
          small = r.small;
          three = r.three;
          stands = r.stands;
          valid = r.valid;
          holds = r.holds;
          not_lent = r.not_lent;
          not_drawn = r.not_drawn;
          each_publisher = publisher_stays content base_of z s r id me.0 at alone c e' (λ p h. h);
          each_reader = reader_moves content base_of z s r id me.0 at is c r.drawn e' record {
            same_base = mine.same_base;
            own_content = mine.own_content;
            own_place = mine.own_place;
            slot_out = mine.slot_out;
            reads_low = All-append Low e.reads (length e.held ∷ []) mine.reads_low (All-cons Low (length e.held) [] (omega arith) (All-nil Low));
            same_rows = mine.same_rows;
            least_low = omega arith;
            behind = λ up. absurd (omega arith);
          };
        },
        ((λ not. absurd (omega arith)), λ _. (omega arith, refl)),
      ))

  -- the plan y goes into the slot k, and the word becomes its number and this place
  pub swaps : (n id : ℕ) (v : SeatView) (k new : ℕ) (y : P) → v.is_reader ≡ true → v.is_publisher ≡ false → v.reader.holds ≡ true → k ≡ v.reader.place
      → content y ≡ v.reader.held → base_of y ≡ v.reader.base → new ≡ length v.reader.held * 4 + k → 0 < v.reader.ahead
      → Allows (PublicationRule content base_of z) n id (v, (k, Some y) ∷ []) 0 (λ _. new) (Swapped content base_of (step n 0 new 0 none) (v, (k, Some y) ∷ []))
  swaps n id v k new y is alone out slot same_content based now ahead s r wide at _ =
      let c : Course = r.course in let st = r.stands in let mine = (r.each_reader id v at is).1 in let w : ℕ = get_or s.words 0 0 in let found : w ≡ c.number * 4 + c.place = ap (λ (ws : List ℕ). get_or ws 0 0) r.words_are in
      let low : c.place < 3 = st.low_place in let number : w / 4 ≡ c.number = omega arith in let place : w % 4 ≡ c.place = omega arith in let newest = st.newest in let three = r.three in
      let same : k ≡ c.mine = slot ∙ mine.own_place in let inside : k < length s.homes = (let b = st.low_mine in omega arith) in let behind = mine.behind ahead in let up = behind.0 in let top = behind.1 in let least = mine.least_low in
      let own : length v.reader.held ≡ c.own = ap length mine.own_content ∙ length-take-le c.own c.all (omega arith) in
      let c' : Course = record { all = c.all; number = c.own; place = k; theirs = c.theirs; own = c.number; mine = c.place; rows = c.rows; pairs = c.pairs } in
      let old = r.holds in let x : P = old.0 in let hs : List (maybe.Option (Option P)) = set s.homes k (some (Some y)) in
      let apart : c.place ≢ k = λ e. st.not_mine (e ∙ same) in let far : c.theirs ≢ k = λ e. st.apart (e ∙ same) in
      let came : get_elem? hs (w % 4) ≡ some (some (Some x)) = ap (get_elem? hs) place ∙ (set_else s.homes k c.place (some (Some y)) apart ∙ old.1) in
      let next : ReaderView = swap_after v.reader w (content x) in let Low : ℕ → Type 0 = λ q. q ≤ length c.all in
      let stands : Stands c' = record {
        low_place = (let b = st.low_mine in omega arith);
        low_theirs = st.low_theirs;
        low_mine = low;
        not_theirs = λ e. far (sym e);
        not_mine = λ e. apart (sym e);
        apart = λ e. st.not_theirs (sym e);
        newest = omega arith;
        taken = st.taken;
        seen_low = st.seen_low;
        bounded = st.bounded;
      } in (
        with_reader v next,
        chain gives (takes (w % 4) (Some x)),
        (tt, came),
        record {
          course = c';
          lent = r.lent;
          drawn = r.drawn;
          publisher = r.publisher;
          reader = r.reader;
          words_are = ap (λ (ws : List ℕ). set ws 0 new) r.words_are ∙ ap (λ (q : ℕ). q ∷ last_row c.rows ∷ []) (let g : new ≡ c.own * 4 + k = omega arith in g);
          small = r.small;
          three = length-set hs (w % 4) none ∙ (length-set s.homes k (some (Some y)) ∙ three);
          stands = stands;
          valid = valid_of c' stands;
          holds = (y, set_else hs (w % 4) k none (λ e. apart (sym (e ∙ place))) ∙ set_here s.homes k (some (Some y)) inside, same_content ∙ mine.own_content, based ∙ mine.same_base);
          not_lent = λ e. set_else hs (w % 4) c.theirs none (λ f. st.not_theirs (sym (f ∙ place))) ∙ (set_else s.homes k c.theirs (some (Some y)) far ∙ r.not_lent e);
          not_drawn = λ e. let no : true ≡ false = sym out ∙ (mine.slot_out ∙ e) in absurd (cc);
          each_publisher = publisher_stays content base_of z s r id v at alone c' next
              (λ p h. record { same_base = h.same_base; all_published = h.all_published; own_place = h.own_place; slot_out = h.slot_out; same_pairs = h.same_pairs; least_low = h.least_low });
          each_reader = reader_moves content base_of z s r id v at is c' r.drawn next record {
            same_base = mine.same_base;
            own_content = old.2;
            own_place = place;
            slot_out = mine.slot_out;
            reads_low = All-append Low v.reader.reads (w / 4 ∷ []) mine.reads_low (All-cons Low (w / 4) [] (omega arith) (All-nil Low));
            same_rows = mine.same_rows;
            least_low = omega arith;
            behind = λ h. absurd (omega arith);
          };
        },
        (
          omega arith,
          omega arith,
          omega arith,
          (
            x,
            old.3 ∙ sym mine.same_base,
            subst (λ (u : List Change × List Change). IsFront u.0 u.1) (λ j. (sym mine.own_content j, sym old.2 j)) (fronts_nest c.own c.number c.all (omega arith) (omega arith)),
            ap length old.2 ∙ (length-take-le c.number c.all (omega arith) ∙ sym number),
            refl,
          ),
        ),
      )

  pub begins : (n id : ℕ) (me : Held) (new : ℕ) → me.0.is_reader ≡ true → me.0.is_publisher ≡ false → last_row me.0.reader.rows < new → new < 2 ^ 32
      → Allows (PublicationRule content base_of z) n id me 1 (λ _. new) (λ _. Begun (step n 1 new 0 none) me new)
  begins n id me new is alone later small s r wide at _ =
      let c : Course = r.course in let st = r.stands in let mine = (r.each_reader id me.0 at is).1 in let e : ReaderView = me.0.reader in let row : TakenRow = record { cycle = new; changes = e.held } in
      let above : last_row c.rows < new = subst (λ (l : List TakenRow). last_row l < new) mine.same_rows later in let c' : Course = record c { rows = c.rows ++ row ∷ [] } in let last : last_row (c.rows ++ row ∷ []) ≡ new = last_pushed c.rows row in
      let newest = st.newest in let Fits : TakenRow → Type 0 = λ q. IsFront q.changes c.all in
      let fits : Fits row = subst (λ (l : List Change). IsFront l c.all) (sym mine.own_content) (take_front c.own c.all (omega arith)) in
      let stands : Stands c' = record {
        low_place = st.low_place;
        low_theirs = st.low_theirs;
        low_mine = st.low_mine;
        not_theirs = st.not_theirs;
        not_mine = st.not_mine;
        apart = st.apart;
        newest = st.newest;
        taken = All-append Fits c.rows (row ∷ []) st.taken (All-cons Fits row [] fits (All-nil Fits));
        seen_low = λ i d lt. let seen = st.seen_low i d lt in omega arith;
        bounded = λ i d lt. let pair : SeenPair = get_or c.pairs i d in let seen : pair.cycle ≤ last_row c.rows = st.seen_low i d lt in let Under : TakenRow → Type 0 = λ q. q.cycle ≤ pair.cycle → length q.changes ≤ pair.number in
            All-append Under c.rows (row ∷ []) (st.bounded i d lt) (All-cons Under row [] (λ early. absurd (omega arith)) (All-nil Under));
      } in (
        with_reader me.0 (begin_after e new),
        keeps,
        tt,
        record {
          course = c';
          lent = r.lent;
          drawn = r.drawn;
          publisher = r.publisher;
          reader = r.reader;
          words_are = ap (λ (ws : List ℕ). set ws 1 new) r.words_are ∙ ap (λ (q : ℕ). (c.number * 4 + c.place) ∷ q ∷ []) (sym last);
          small = omega arith;
          three = r.three;
          stands = stands;
          valid = valid_of c' stands;
          holds = r.holds;
          not_lent = r.not_lent;
          not_drawn = r.not_drawn;
          each_publisher = publisher_stays content base_of z s r id me.0 at alone c' (begin_after e new)
              (λ p h. record { same_base = h.same_base; all_published = h.all_published; own_place = h.own_place; slot_out = h.slot_out; same_pairs = h.same_pairs; least_low = (let under = h.least_low in omega arith) });
          each_reader = reader_moves content base_of z s r id me.0 at is c' r.drawn (begin_after e new) record {
            same_base = mine.same_base;
            own_content = mine.own_content;
            own_place = mine.own_place;
            slot_out = mine.slot_out;
            reads_low = mine.reads_low;
            same_rows = ap (λ (l : List TakenRow). l ++ row ∷ []) mine.same_rows;
            least_low = mine.least_low;
            behind = mine.behind;
          };
        },
        refl,
      )

-- a load that found a newer plan and an exchange that brought it are one take
pub took : (t : TableId) (e : ReaderView) (w f n : ℕ) (new : List Change) → length e.held < w → n ≡ length new → length new ≡ f / 4 → e.least ≤ f / 4 → IsFront e.held new → Takes (reading_of t e) n (reading_of t (swap_after (ahead_after e w) f new))
took t e w f n new above same long least front = let is : f / 4 ≡ n = sym long ∙ sym same in record {
  earlier = w ∷ [];
  one_more = omega arith;
  newer = All-cons (λ q. length e.held < q) w [] above (All-nil (λ q. length e.held < q));
  stays = λ none. absurd (cc);
  reads = append_assoc e.reads (w ∷ []) (f / 4 ∷ []) ∙ ap (λ (q : ℕ). e.reads ++ (w ∷ q ∷ [])) is;
  number = same;
  least = subst (λ (q : ℕ). e.least ≤ q) is least;
  front = front;
  same = ap (λ (q : ℕ). record (reading_of t e) { held = new; reads = (e.reads ++ w ∷ []) ++ f / 4 ∷ []; least = q }) is;
}
