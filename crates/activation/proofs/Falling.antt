-- The decrement of a node's counter, for its start and for a link, keeps the rule.
use Rattle.std.proofs.Common.{◌≡◌, ◌≢◌, ℕ, ◌+◌, ◌-◌, ◌%◌, ◌^◌, ◌<◌, ◌≤◌, ◌⊎◌, Bool, true, false, cond, ◌==◌, List, [], ◌∷◌, ◌++◌, length, get_or, set, slice_index, refl, sym, ◌∙◌, ap, subst, ⊎_elim, inl, inr, arith, true≢false, eq-eqb, ne_eqb, length-set, get_or-set_same, get_or-set_other}
use Rattle.std.proofs.lemmas.List.{set-append_left, get_or_append_left}
use mathlib.Core.Logic.{dite}
use mathlib.Core.Option.{Option, none, some}
use native.Mathlib.Decide.{ℕ_discrete}
use lib.ListN.{get_elem?}
use Rattle.atomic_table.specs.Table.{State, keeps, gives, step, stepped, Allows}
use Rattle.atomic_table.proofs.Lists.{set_here, set_else}
use Rattle.session_laws.specs.jack_types.specs.declared.ports.Link.{Link}
use Rattle.session_laws.specs.session_model.specs.Activation.{Place, Waiting, Held, Machine, StartNode, ReleaseLink, no_link, link_at, is_started, is_released, place_of, IsConsistent, IsDone}
use Rattle.session_laws.proofs.ActivationLemmas.{IsConsistent-moved}
use Rattle.activation.specs.declared.views.View.{View}
use Rattle.activation.specs.Rule.{has, IsUsual, left_word, node_of, Knows, Lies, AreTold, Cycle, Rule}
use Rattle.activation.specs.Plays.{mark_after, hold_after, start_after, release_after, started_by, released_by, IsNew}
use Rattle.activation.proofs.Machines.{start_counts, open_counts}
use Rattle.activation.proofs.Courses.{fell}
use Rattle.activation.proofs.Keeping.{same_seat, held_waiting, in_cycle, mine, renew, slot_stays, slot_own, others_know, told_start, told_release, left_stays}
use Rattle.activation.proofs.Testing.{has_here, has_skip, has_there, off_or_on}

module _ {S B : Type 0} (full done : List Link → List B → ℕ → S → Type 0) where
  abbrev pub St : Type 0
  St = State S (View S B)

  module _ (s : St) (id : ℕ) (v : View S B) (at : get_elem? s.views id ≡ some v) (live : v.is_live ≡ true) (off : v.is_still ≡ false) (r : Cycle full done v.duty.links v.duty.before v.duty.seats s)
      (a t : ℕ) (shares : v.duty.shares ≡ a ∷ []) (few : a < v.duty.seats) (near : t < length v.duty.before) where
    abbrev pub links : List Link
    links = v.duty.links

    abbrev pub N : ℕ
    N = length v.duty.before

    abbrev pub m : Machine
    m = r.machine

    knows : Knows links v.duty.before v.duty.seats m v.duty
    knows = mine full done links v.duty.before v.duty.seats s r id v at live

    here : has v.duty.shares a ≡ true
    here = ap (λ (xs : List ℕ). has xs a) shares ∙ has_here a []

    abbrev pub c : ℕ
    c = slice_index m.counters t

    in_places : t < length m.places
    in_places = omega (arith, near, r.size)

    in_counters : t < length m.counters
    in_counters = omega (arith, in_places, r.consistent.counters)

    pub found : get_or s.words t 0 ≡ c
    found = ap (λ (ws : List ℕ). get_or ws t 0) r.words_are ∙ get_or_append_left m.counters r.others 0 t in_counters

    words_after : (y : ℕ) → set s.words t y ≡ set m.counters t y ++ r.others
    words_after y = ap (λ (ws : List ℕ). set ws t y) r.words_are ∙ set-append_left m.counters r.others t y in_counters

    -- the machine with the step marked, and its counter lowered
    lowered : List ℕ → List Bool → List Bool → List Place → Machine
    lowered counters started released places = record { counters = counters; started = started; places = places; released = released }

    far : (y k : ℕ) → N + 513 ≤ k → get_elem? (set s.words t y) k ≡ get_elem? s.words k
    far y k h = set_else s.words t k y (λ e. absurd (omega (arith, h, e, near)))

    -- what the step marks, and what becomes of the slots
    pub record Marks (started released : List Bool) (starts frees : List ℕ) (hs : List (Option S)) : Type 0 where
      pub more : 0 < c
      pub consistent : IsConsistent links record { counters = set m.counters t (c - 1); started = started; places = cond (c == 1) (set m.places t (Held a true)) m.places; released = released }
      pub homes_long : length hs ≡ length s.homes
      pub same_spare : (q : ℕ) → N + length links ≤ q → get_elem? hs q ≡ get_elem? s.homes q
      pub own_started : (n : ℕ) → n < N → has v.duty.shares (n % v.duty.seats) ≡ true → get_or started n false ≡ has starts n
      pub own_released : (l : ℕ) → l < length links → (has v.duty.held (link_at links l).from ≡ true) ⊎ (place_of m (link_at links l).from ≡ Waiting) → get_or released l false ≡ has frees l
      pub all_started : (n : ℕ) → has starts n ≡ true → get_or started n false ≡ true
      pub all_released : (l : ℕ) → has frees l ≡ true → get_or released l false ≡ true
      pub idle_released : (l : ℕ) → l < length links → place_of m (link_at links l).from ≡ Waiting → has frees l ≡ false
      pub far_started : (n : ℕ) → n % v.duty.seats ≢ a → get_or started n false ≡ is_started m n
      pub far_released : (l : ℕ) → place_of m (link_at links l).from ≢ Held a true → get_or released l false ≡ is_released m l
      pub more_started : (n : ℕ) → is_started m n ≡ true → get_or started n false ≡ true
      pub more_released : (l : ℕ) → is_released m l ≡ true → get_or released l false ≡ true
      pub told : (w : View S B) → w.duty.shares ≡ v.duty.shares → w.is_live ≡ true → w.is_still ≡ false → w.duty.started ≡ starts → w.duty.released ≡ frees → (places : List Place)
          → AreTold links N record { counters = set m.counters t (c - 1); started = started; places = places; released = released } (set s.views id w)
      pub slots : (q : ℕ) (b : Bool) (n : ℕ) → ((q < N) × (n ≡ q) × (b ≡ true)) ⊎ ((l : ℕ) × (l < length links) × (q ≡ N + l) × (b ≡ get_or released l false) × (n ≡ node_of links (get_or released l false) l))
          → (Lies full done links v.duty.before s (place_of m n) b n q × (get_elem? hs q ≡ get_elem? s.homes q) × (has v.hand.out q ≡ false)) ⊎ ((b ≡ true) × (n ≡ t) × ((x : S) × full links v.duty.before q x × (get_elem? hs q ≡ some (some x))))

    module _ (started released : List Bool) (starts frees : List ℕ) (hs : List (Option S)) (marks : Marks started released starts frees hs) where
      idle : place_of m t ≡ Waiting
      idle = (r.consistent.nodes t in_places).waits.1 marks.more

      w : View S B
      w = mark_after v starts frees

      abbrev after : List Place → Machine
      after places = record { counters = set m.counters t (c - 1); started = started; places = places; released = released }

      -- above zero, the node goes on waiting
      pub misses : c ≢ 1 → Cycle full done links v.duty.before v.duty.seats record { words = set s.words t (c - 1); homes = hs; views = set s.views id (mark_after v starts frees) }
      misses ne =
          let valid : IsConsistent links (after m.places) = subst (λ b. IsConsistent links (after (cond b (set m.places t (Held a true)) m.places))) (ne_eqb c 1 ne) marks.consistent in
          renew full done links v.duty.before v.duty.seats s r id v at live (mark_after v starts frees) refl live off (after m.places) (set s.words t (c - 1)) r.others hs r.size valid r.usual
          (words_after (c - 1)) marks.homes_long marks.same_spare
          record {
            same_links = refl;
            same_before = refl;
            same_seats = refl;
            within = knows.within;
            some_share = knows.some_share;
            holds = knows.holds;
            all_held = knows.all_held;
            own_started = marks.own_started;
            own_released = λ l i h. marks.own_released l i (inl h);
            all_started = marks.all_started;
            all_released = marks.all_released;
          }
          (others_know full done links v.duty.before v.duty.seats s r id v at live (mark_after v starts frees) refl live off (after m.places) a here (λ n seat ne' e. e) (λ n seat ne' e. e) marks.far_started marks.far_released marks.more_started marks.more_released)
          (λ q b n goes. ⊎_elim
          (λ (x : Lies full done links v.duty.before s (place_of m n) b n q × (get_elem? hs q ≡ get_elem? s.homes q) × (has v.hand.out q ≡ false)).
          slot_stays full done links v.duty.before v.duty.seats s r id v at live (mark_after v starts frees) refl live off (set s.words t (c - 1)) hs (place_of m n) b n q x.1 (λ _. x.2) (λ y h. h) x.0)
          (λ (x : (b ≡ true) × (n ≡ t) × ((y : S) × full links v.duty.before q y × (get_elem? hs q ≡ some (some y)))).
          let st : St = record { words = set s.words t (c - 1); homes = hs; views = set s.views id (mark_after v starts frees) } in
          let there : Lies full done links v.duty.before st Waiting true n q = x.2 in
          subst (λ (k : Bool × Place). Lies full done links v.duty.before st k.1 k.0 n q) (λ i. (sym x.0 i, (sym idle ∙ ap (place_of m) (sym x.1)) i)) there)
          (marks.slots q b n goes))
          (marks.told (mark_after v starts frees) refl live off refl refl m.places)
          (left_stays full done links v.duty.before v.duty.seats s r id v at live (mark_after v starts frees) refl live off (after m.places) (set s.words t (c - 1)) hs (far (c - 1)) refl (λ n. inl refl))

      -- the node was not held, and none of its links was released
      pub is_new : IsNew v (hold_after (mark_after v starts frees) t) t
      is_new = (
        off_or_on (has v.duty.held t) (λ h. let x = knows.holds t h in held_waiting x.0 true (sym x.2 ∙ idle)),
        (λ l h e. marks.idle_released l h (ap (place_of m) e ∙ idle)),
      )

      placed : get_or (set m.places t (Held a true)) t Waiting ≡ Held a true
      placed = get_or-set_same m.places t (Held a true) Waiting in_places

      elsewhere : (n : ℕ) → n ≢ t → get_or (set m.places t (Held a true)) n Waiting ≡ place_of m n
      elsewhere n ne = get_or-set_other m.places t n (Held a true) Waiting ne

      -- a slot of the node, as it came
      came : (b : Bool) (n q : ℕ) → Lies full done links v.duty.before s Waiting b n q → (x : S) × (b ≡ true → full links v.duty.before q x) × (get_elem? s.homes q ≡ some (some x))
      came true n q h = (h.0, (λ _. h.1), h.2)
      came false n q h = (h.0, (λ e. absurd (true≢false (sym e))), h.2)

      -- at zero, the seat holds the node
      pub hits : c ≡ 1 → Cycle full done links v.duty.before v.duty.seats record { words = set s.words t (c - 1); homes = hs; views = set s.views id (hold_after (mark_after v starts frees) t) }
      hits one =
          let places : List Place = set m.places t (Held a true) in
          let held : View S B = hold_after (mark_after v starts frees) t in
          let st : St = record { words = set s.words t (c - 1); homes = hs; views = set s.views id held } in
          let valid : IsConsistent links (after places) = subst (λ b. IsConsistent links (after (cond b places m.places))) (eq-eqb c 1 one) marks.consistent in
          let waits : (n seat : ℕ) → place_of m n ≡ Held seat true → n ≢ t = λ n seat e is. held_waiting seat true (sym e ∙ (ap (place_of m) is ∙ idle)) in
          renew full done links v.duty.before v.duty.seats s r id v at live held refl live off (after places) (set s.words t (c - 1)) r.others hs (length-set m.places t (Held a true) ∙ r.size) valid
          (λ n. dite (ℕ_discrete n t)
          (λ is. subst (IsUsual v.duty.seats) (sym (ap (λ k. get_or places k Waiting) is ∙ placed)) (few, refl))
          (λ ne. subst (IsUsual v.duty.seats) (sym (elsewhere n ne)) (r.usual n)))
          (words_after (c - 1)) marks.homes_long marks.same_spare
          record {
            same_links = refl;
            same_before = refl;
            same_seats = refl;
            within = knows.within;
            some_share = knows.some_share;
            holds = λ n h. dite (ℕ_discrete t n)
                (λ is. (a, here, ap (λ k. get_or places k Waiting) (sym is) ∙ placed))
                (λ ne. let k = knows.holds n (sym (has_skip t v.duty.held n ne) ∙ h) in (k.0, k.1, elsewhere n (λ e. ne (sym e)) ∙ k.2));
            all_held = λ n seat sh e. dite (ℕ_discrete t n)
                (λ is. ap (has (t ∷ v.duty.held)) (sym is) ∙ has_here t v.duty.held)
                (λ ne. has_there t v.duty.held n (knows.all_held n seat sh (sym (elsewhere n (λ e'. ne (sym e'))) ∙ e)));
            own_started = marks.own_started;
            own_released = λ l i h. dite (ℕ_discrete t (link_at links l).from)
                (λ is. marks.own_released l i (inr (ap (place_of m) (sym is) ∙ idle)))
                (λ ne. marks.own_released l i (inl (sym (has_skip t v.duty.held (link_at links l).from ne) ∙ h)));
            all_started = marks.all_started;
            all_released = marks.all_released;
          }
          (others_know full done links v.duty.before v.duty.seats s r id v at live held refl live off (after places) a here
          (λ n seat ne e. dite (ℕ_discrete n t)
          (λ is. absurd (ne (sym (same_seat a seat true true (sym placed ∙ (ap (λ k. get_or places k Waiting) (sym is) ∙ e))))))
          (λ apart. sym (elsewhere n apart) ∙ e))
          (λ n seat ne e. elsewhere n (waits n seat e) ∙ e)
          marks.far_started marks.far_released marks.more_started marks.more_released)
          (λ q b n goes. dite (ℕ_discrete n t)
          (λ is. subst (λ p. Lies full done links v.duty.before st p b n q) (sym (ap (λ k. get_or places k Waiting) is ∙ placed))
          (slot_own full done links v.duty.before v.duty.seats s r id v at live held refl live off (set s.words t (c - 1)) hs a true b n q here
          (λ _. ⊎_elim
          (λ (x : Lies full done links v.duty.before s (place_of m n) b n q × (get_elem? hs q ≡ get_elem? s.homes q) × (has v.hand.out q ≡ false)).
          let y = came b n q (subst (λ p. Lies full done links v.duty.before s p b n q) (ap (place_of m) is ∙ idle) x.0) in
          (y.0, ((λ on _ _. y.1 on), (λ _ h. absurd (true≢false (sym h))), (λ _ h. absurd (true≢false (sym h)))), x.1 ∙ y.2))
          (λ (x : (b ≡ true) × (n ≡ t) × ((y : S) × full links v.duty.before q y × (get_elem? hs q ≡ some (some y)))).
          (x.2.0, ((λ _ _ _. x.2.1), (λ _ h. absurd (true≢false (sym h))), (λ _ h. absurd (true≢false (sym h)))), x.2.2))
          (marks.slots q b n goes))))
          (λ ne. subst (λ p. Lies full done links v.duty.before st p b n q) (sym (elsewhere n ne)) (⊎_elim
          (λ (x : Lies full done links v.duty.before s (place_of m n) b n q × (get_elem? hs q ≡ get_elem? s.homes q) × (has v.hand.out q ≡ false)).
          slot_stays full done links v.duty.before v.duty.seats s r id v at live held refl live off (set s.words t (c - 1)) hs (place_of m n) b n q x.1 (λ _. x.2)
          (λ y h. ((λ on node _. absurd (ne (sym node))), (λ _ h'. absurd (true≢false (sym h'))), (λ _ h'. absurd (true≢false (sym h'))))) x.0)
          (λ (x : (b ≡ true) × (n ≡ t) × ((y : S) × full links v.duty.before q y × (get_elem? hs q ≡ some (some y)))). absurd (ne x.1))
          (marks.slots q b n goes))))
          (marks.told held refl live off refl refl places)
          (left_stays full done links v.duty.before v.duty.seats s r id v at live held refl live off (after places) (set s.words t (c - 1)) hs (far (c - 1)) refl
          (λ n. dite (ℕ_discrete n t)
          (λ is. inr (ap left_word (ap (λ k. get_or places k Waiting) is ∙ placed), ap left_word (ap (place_of m) is ∙ idle)))
          (λ ne. inl (elsewhere n ne))))

  pub starts_node : (n id : ℕ) (v : View S B) (t a : ℕ) (tail : List (ℕ × S)) → v.is_live ≡ true → v.is_still ≡ false → v.duty.shares ≡ a ∷ [] → a < v.duty.seats → t % v.duty.seats ≡ a → t < length v.duty.before
      → has v.duty.started t ≡ false → v.hand.out ≡ []
      → Allows (Rule full done) n id (v, tail) t (λ x. (x + (2 ^ 64 - 1)) % 2 ^ 64) (started_by (step n t 1 0 none) (v, tail))
  starts_node n id v t a tail live off shares few shared near unstarted empty s rule wide at small =
      let r = in_cycle full done s id v rule at live off in
      let m : Machine = r.machine in
      let k = mine full done v.duty.links v.duty.before v.duty.seats s r id v at live in
      let here : has v.duty.shares (t % v.duty.seats) ≡ true = ap (λ (xs : List ℕ). has xs (t % v.duty.seats)) shares ∙ (ap (has (a ∷ [])) shared ∙ has_here a []) in
      let not_yet : is_started m t ≡ false = k.own_started t near here ∙ unstarted in
      let low : t < length m.places = omega (arith, near, r.size) in
      let c : ℕ = slice_index m.counters t in
      let more : 0 < c = start_counts v.duty.links m r.consistent t low not_yet in
      let is : get_or s.words t 0 ≡ c = found s id v at live off r a t shares few near in
      let tiny : get_or s.words t 0 < 18446744073709551616 = small in
      let less : (get_or s.words t 0 + 18446744073709551615) % 18446744073709551616 ≡ c - 1 = omega (arith, is, tiny, more) in
      let marks : Marks s id v at live off r a t shares few near (set m.started t true) m.released (t ∷ v.duty.started) v.duty.released s.homes = record {
        more = more;
        consistent = fell v.duty.links (length v.duty.before) r.are v.duty.seats a t (record m { started = set m.started t true }) low r.size
            (IsConsistent-moved v.duty.links (length v.duty.before) r.are v.duty.seats m (StartNode a t) r.size r.consistent (low, few, shared, not_yet)) more;
        homes_long = refl;
        same_spare = λ q h. refl;
        own_started = λ q i sh. dite (ℕ_discrete t q)
            (λ e. ap (λ j. get_or (set m.started t true) j false) (sym e) ∙ (get_or-set_same m.started t true false (omega (arith, low, r.consistent.started)) ∙ sym (ap (has (t ∷ v.duty.started)) (sym e) ∙ has_here t v.duty.started)))
            (λ ne. get_or-set_other m.started t q true false (λ e. ne (sym e)) ∙ (k.own_started q i sh ∙ sym (has_skip t v.duty.started q ne)));
        own_released = λ l i h. ⊎_elim (k.own_released l i)
            (λ (w : place_of m (link_at v.duty.links l).from ≡ Waiting).
            let no : is_released m l ≡ true → ⊥ = λ on. subst IsDone w (r.consistent.sources l i on) in
            off_or_on (is_released m l) no ∙ sym (off_or_on (has v.duty.released l) (λ on. no (k.all_released l on)))) h;
        all_started = λ q h. dite (ℕ_discrete t q)
            (λ e. ap (λ j. get_or (set m.started t true) j false) (sym e) ∙ get_or-set_same m.started t true false (omega (arith, low, r.consistent.started)))
            (λ ne. get_or-set_other m.started t q true false (λ e. ne (sym e)) ∙ k.all_started q (sym (has_skip t v.duty.started q ne) ∙ h));
        all_released = k.all_released;
        idle_released = λ l i w. off_or_on (has v.duty.released l) (λ on. subst IsDone w (r.consistent.sources l i (k.all_released l on)));
        far_started = λ q ne. get_or-set_other m.started t q true false (λ e. ne (ap (λ j. j % v.duty.seats) e ∙ shared));
        far_released = λ l ne. refl;
        more_started = λ q h. dite (ℕ_discrete q t)
            (λ e. ap (λ j. get_or (set m.started t true) j false) e ∙ get_or-set_same m.started t true false (omega (arith, low, r.consistent.started)))
            (λ ne. get_or-set_other m.started t q true false ne ∙ h);
        more_released = λ l h. h;
        told = λ w same stays on starts frees places. told_start full done v.duty.links v.duty.before v.duty.seats s r id v at live w same stays on t (set m.started t true) starts frees not_yet (λ j ne h. sym (get_or-set_other m.started t j true false ne) ∙ h);
        slots = λ q b j goes. inl (r.slots q b j goes, refl, ap (λ (xs : List ℕ). has xs q) empty);
      } in
      dite (ℕ_discrete c 1)
      (λ hit. (
        hold_after (start_after v t) t,
        keeps,
        tt,
        subst (λ f. Rule full done (stepped s t f id tail (hold_after (start_after v t) t) keeps)) (sym less)
            (inl (v.duty.links, v.duty.before, v.duty.seats, hits s id v at live off r a t shares few near (set m.started t true) m.released (t ∷ v.duty.started) v.duty.released s.homes marks hit)),
        ((λ not. absurd (not (is ∙ hit))), (λ _. (refl, is_new s id v at live off r a t shares few near (set m.started t true) m.released (t ∷ v.duty.started) v.duty.released s.homes marks))),
      ))
      (λ miss. (
        start_after v t,
        keeps,
        tt,
        subst (λ f. Rule full done (stepped s t f id tail (start_after v t) keeps)) (sym less)
            (inl (v.duty.links, v.duty.before, v.duty.seats, misses s id v at live off r a t shares few near (set m.started t true) m.released (t ∷ v.duty.started) v.duty.released s.homes marks miss)),
        ((λ _. refl), (λ one. absurd (miss (sym is ∙ one)))),
      ))

  pub releases_link : (n id : ℕ) (v : View S B) (t a l : ℕ) (x : S) (tail : List (ℕ × S)) → v.is_live ≡ true → v.is_still ≡ false → v.duty.shares ≡ a ∷ [] → a < v.duty.seats → l < length v.duty.links
      → (link_at v.duty.links l).to ≡ t → has v.duty.held (link_at v.duty.links l).from ≡ true → has v.duty.released l ≡ false → v.hand.out ≡ (length v.duty.before + l) ∷ []
      → full v.duty.links v.duty.before (length v.duty.before + l) x
      → Allows (Rule full done) n id (v, (length v.duty.before + l, x) ∷ tail) t (λ y. (y + (2 ^ 64 - 1)) % 2 ^ 64) (released_by (step n t 1 0 none) (v, (length v.duty.before + l, x) ∷ tail))
  releases_link n id v t a l x tail live off shares few within to holds unreleased out filled s rule wide at small =
      let r = in_cycle full done s id v rule at live off in
      let m : Machine = r.machine in
      let N : ℕ = length v.duty.before in
      let q0 : ℕ = N + l in
      let k = mine full done v.duty.links v.duty.before v.duty.seats s r id v at live in
      let near : t < length v.duty.before = subst (λ j. j < length v.duty.before) to (r.are.within l no_link within) in
      let low : t < length m.places = omega (arith, near, r.size) in
      let not_yet : is_released m l ≡ false = k.own_released l within holds ∙ unreleased in
      let c : ℕ = slice_index m.counters t in
      let more : 0 < c = open_counts v.duty.links m r.consistent t l low within to not_yet in
      let is : get_or s.words t 0 ≡ c = found s id v at live off r a t shares few near in
      let tiny : get_or s.words t 0 < 18446744073709551616 = small in
      let less : (get_or s.words t 0 + 18446744073709551615) % 18446744073709551616 ≡ c - 1 = omega (arith, is, tiny, more) in
      let source = k.holds (link_at v.duty.links l).from holds in
      let mine_is : source.0 ≡ a = only v a source.0 shares source.1 in
      let held : place_of m (link_at v.duty.links l).from ≡ Held a true = source.2 ∙ ap (λ j. Held j true) mine_is in
      let rs : List Bool = set m.released l true in
      let hs : List (Option S) = set s.homes q0 (some x) in
      let on : get_or rs l false ≡ true = get_or-set_same m.released l true false (omega (arith, within, r.consistent.released)) in
      let other : (j : ℕ) → j ≢ l → get_or rs j false ≡ is_released m j = λ j ne. get_or-set_other m.released l j true false ne in
      let marks : Marks s id v at live off r a t shares few near m.started rs v.duty.started (l ∷ v.duty.released) hs = record {
        more = more;
        consistent = subst (λ j. IsConsistent v.duty.links record { counters = set m.counters j (slice_index m.counters j - 1); started = m.started; places = cond (slice_index m.counters j == 1) (set m.places j (Held a true)) m.places; released = rs }) to
            (fell v.duty.links (length v.duty.before) r.are v.duty.seats a (link_at v.duty.links l).to (record m { released = rs }) (subst (λ j. j < length m.places) (sym to) low) r.size
            (IsConsistent-moved v.duty.links (length v.duty.before) r.are v.duty.seats m (ReleaseLink a l) r.size r.consistent (within, held, not_yet)) (subst (λ j. 0 < slice_index m.counters j) (sym to) more));
        homes_long = length-set s.homes q0 (some x);
        same_spare = λ q h. set_else s.homes q0 q (some x) (λ e. absurd (omega (arith, h, e, within)));
        own_started = k.own_started;
        own_released = λ j i h. dite (ℕ_discrete l j)
            (λ e. ap (λ z. get_or rs z false) (sym e) ∙ (on ∙ sym (ap (has (l ∷ v.duty.released)) (sym e) ∙ has_here l v.duty.released)))
            (λ ne. other j (λ e. ne (sym e)) ∙ (⊎_elim (k.own_released j i)
            (λ (w : place_of m (link_at v.duty.links j).from ≡ Waiting).
            let no : is_released m j ≡ true → ⊥ = λ on'. subst IsDone w (r.consistent.sources j i on') in
            off_or_on (is_released m j) no ∙ sym (off_or_on (has v.duty.released j) (λ on'. no (k.all_released j on')))) h ∙ sym (has_skip l v.duty.released j ne)));
        all_started = k.all_started;
        all_released = λ j h. dite (ℕ_discrete l j)
            (λ e. ap (λ z. get_or rs z false) (sym e) ∙ on)
            (λ ne. other j (λ e. ne (sym e)) ∙ k.all_released j (sym (has_skip l v.duty.released j ne) ∙ h));
        idle_released = λ j i w. dite (ℕ_discrete l j)
            (λ e. absurd (held_waiting a true (sym held ∙ (ap (λ z. place_of m (link_at v.duty.links z).from) e ∙ w))))
            (λ ne. has_skip l v.duty.released j ne ∙ off_or_on (has v.duty.released j) (λ on'. subst IsDone w (r.consistent.sources j i (k.all_released j on'))));
        far_started = λ q ne. refl;
        far_released = λ j ne. other j (λ e. ne (ap (λ z. place_of m (link_at v.duty.links z).from) e ∙ held));
        more_started = λ q h. h;
        more_released = λ j h. dite (ℕ_discrete j l) (λ e. ap (λ z. get_or rs z false) e ∙ on) (λ ne. other j ne ∙ h);
        told = λ w same stays on' starts frees places. told_release full done v.duty.links v.duty.before v.duty.seats s r id v at live w same stays on' l rs starts frees not_yet (λ j ne h. sym (other j ne) ∙ h);
        slots = λ q b j goes. dite (ℕ_discrete q q0)
            (λ e. ⊎_elim
            (λ (g : (q < N) × (j ≡ q) × (b ≡ true)). absurd (omega (arith, g.0, e)))
            (λ (g : (z : ℕ) × (z < length v.duty.links) × (q ≡ N + z) × (b ≡ get_or rs z false) × (j ≡ node_of v.duty.links (get_or rs z false) z)).
            let one : g.0 ≡ l = omega (arith, e, g.2) in
            let lit : get_or rs g.0 false ≡ true = ap (λ z. get_or rs z false) one ∙ on in
            inr (
              g.3 ∙ lit,
              g.4 ∙ (ap (λ z. node_of v.duty.links z g.0) lit ∙ (ap (λ z. (link_at v.duty.links z).to) one ∙ to)),
              (x, subst (λ z. full v.duty.links v.duty.before z x) (sym e) filled, ap (get_elem? hs) e ∙ set_here s.homes q0 (some x) (omega (arith, within, r.homes_long))),
            ))
            goes)
            (λ ne. inl (
              r.slots q b j (⊎_elim
                  (λ (g : (q < N) × (j ≡ q) × (b ≡ true)). inl g)
                  (λ (g : (z : ℕ) × (z < length v.duty.links) × (q ≡ N + z) × (b ≡ get_or rs z false) × (j ≡ node_of v.duty.links (get_or rs z false) z)).
                  let same = other g.0 (λ e. ne (g.2 ∙ ap (λ z. N + z) e)) in
                  inr (g.0, g.1, g.2, g.3 ∙ same, g.4 ∙ ap (λ z. node_of v.duty.links z g.0) same))
                  goes),
              set_else s.homes q0 q (some x) ne,
              ap (λ (xs : List ℕ). has xs q) out ∙ has_skip q0 [] q (λ e. ne (sym e)),
            ));
      } in
      let back : N + l - N ≡ l = omega arith in
      dite (ℕ_discrete c 1)
      (λ hit. (
        hold_after (release_after v (N + l - N)) t,
        gives,
        tt,
        subst (λ f. Rule full done (stepped s t f id ((q0, x) ∷ tail) (hold_after (release_after v (N + l - N)) t) gives)) (sym less)
            (subst (λ z. Rule full done record { words = set s.words t (c - 1); homes = hs; views = set s.views id (hold_after (release_after v z) t) }) (sym back)
            (inl (v.duty.links, v.duty.before, v.duty.seats, hits s id v at live off r a t shares few near m.started rs v.duty.started (l ∷ v.duty.released) hs marks hit))),
        ((λ not. absurd (not (is ∙ hit))), (λ _. (refl, subst (λ z. IsNew v (hold_after (release_after v z) t) t) (sym back) (is_new s id v at live off r a t shares few near m.started rs v.duty.started (l ∷ v.duty.released) hs marks)))),
      ))
      (λ miss. (
        release_after v (N + l - N),
        gives,
        tt,
        subst (λ f. Rule full done (stepped s t f id ((q0, x) ∷ tail) (release_after v (N + l - N)) gives)) (sym less)
            (subst (λ z. Rule full done record { words = set s.words t (c - 1); homes = hs; views = set s.views id (release_after v z) }) (sym back)
            (inl (v.duty.links, v.duty.before, v.duty.seats, misses s id v at live off r a t shares few near m.started rs v.duty.started (l ∷ v.duty.released) hs marks miss))),
        ((λ _. refl), (λ one. absurd (miss (sym is ∙ one)))),
      ))
    where
      only : (v : View S B) (a b : ℕ) → v.duty.shares ≡ a ∷ [] → has v.duty.shares b ≡ true → b ≡ a
      only v a b is h = dite (ℕ_discrete a b) (λ e. sym e) (λ ne. absurd (true≢false (sym h ∙ (ap (λ (xs : List ℕ). has xs b) is ∙ has_skip a [] b ne))))
