-- One seat comes to know the whole table.
use Rattle.std.proofs.Common.{◌≡◌, ℕ, ◌+◌, ◌-◌, ◌%◌, ◌<◌, Bool, true, false, not, ◌==◌, List, [], ◌++◌, length, map, set, get_or, slice_index, refl, sym, ◌∙◌, ap, subst, inl, inr, arith, true≢false, eq-eqb, mod-lt, length-append}
use Rattle.std.proofs.lemmas.List.{set-get_or, ext_get_or, get_or_append_left}
use mathlib.Core.Logic.{dite}
use mathlib.Core.Option.{none, some, some-injective}
use native.Mathlib.Decide.{ℕ_discrete, dec_lt}
use lib.ListN.{get_elem?}
use Rattle.atomic_table.specs.Table.{State, keeps, step, Allows}
use Rattle.session_laws.specs.jack_types.specs.declared.ports.Link.{Link}
use Rattle.session_laws.specs.session_model.specs.Activation.{Place, Waiting, Held, Left, AtHome, no_link, link_at, is_started, is_released, place_of, fresh, open_links, incoming, outgoing, IsQuiet, IsDone}
use Rattle.session_laws.specs.session_model.specs.Samples.{below}
use Rattle.session_laws.proofs.ActivationLemmas.{AllHome-quiet, AllReleased-quiet, length-map_below, get_or-map_below, below-contains}
use Rattle.session_laws.proofs.ListLemmas.{Contains-kept, Each-weaker}
use Rattle.std.proofs.lemmas.List.Elements.{All-contains}
use Rattle.activation.specs.declared.views.View.{View}
use Rattle.activation.specs.Rule.{has, IsUsual, node_of, Goes, Knows, Lies, Cycle, Rule}
use Rattle.activation.specs.Plays.{still_after, AllStarted, AreClear, entered}
use Rattle.activation.proofs.Keeping.{in_cycle, mine, inside}
use Rattle.activation.proofs.Picking.{unleft}
use Rattle.activation.proofs.Testing.{off_or_on}
use Rattle.activation.proofs.Machines.{count_all}
use Rattle.activation.proofs.Listed.{incoming-facts}
use Rattle.activation.proofs.Stilling.{homes_list, unmap, length-some, goes_on}

module _ {S B : Type 0} (full done : List Link → List B → ℕ → S → Type 0) where
  abbrev St : Type 0
  St = State S (View S B)

  module _ (s : St) (id : ℕ) (v : View S B) (at : get_elem? s.views id ≡ some v) (live : v.is_live ≡ true) (r : Cycle full done v.duty.links v.duty.before v.duty.seats s)
      (whole : (seat : ℕ) → seat < v.duty.seats → has v.duty.shares seat ≡ true) (empty : v.duty.held ≡ []) (looked : v.duty.left ≡ []) where
    abbrev N : ℕ
    N = length v.duty.before

    knows : Knows v.duty.links v.duty.before v.duty.seats r.machine v.duty
    knows = mine full done v.duty.links v.duty.before v.duty.seats s r id v at live

    not_held : (n seat : ℕ) (b : Bool) → place_of r.machine n ≡ Held seat b → ⊥
    not_held n seat b e =
        let u = subst (IsUsual v.duty.seats) e (r.usual n) in
        true≢false (sym (knows.all_held n seat (whole seat u.0) (e ∙ ap (Held seat) u.1)) ∙ ap (λ (xs : List ℕ). has xs n) empty)

    -- the seat is the only one
    only : (j : ℕ) (u : View S B) → get_elem? s.views j ≡ some u → u.is_live ≡ true → j ≡ id
    only j u e l =
        let k = (r.each_seat j u e l).1 in
        r.alone j id u v k.some_share.0 e at l live k.some_share.1 (whole k.some_share.0 (k.within k.some_share.0 k.some_share.1))

    not_left : (n : ℕ) → place_of r.machine n ≡ Left → ⊥
    not_left n e =
        let k = r.left.by_some n e in
        let is : k.1 ≡ v = some-injective k.1 v (sym k.2 ∙ (ap (get_elem? s.views) (only k.0 k.1 k.2 k.3) ∙ at)) in
        true≢false (sym k.4 ∙ (ap (λ (u : View S B). has u.duty.left n) is ∙ ap (λ (xs : List ℕ). has xs n) looked))

    -- no left word is on
    clear : AreClear N s.words
    clear n low = r.left.words_are n low ∙ ap some (unleft (place_of r.machine n) (not_left n))

    started : (n : ℕ) → n < N → is_started r.machine n ≡ has v.duty.started n
    started n h = knows.own_started n h (whole (n % v.duty.seats) (mod-lt n r.some_seat))

    abbrev NotBare : Bool → Place → Type 0
    NotBare b p = b ≡ false → p ≡ AtHome → ⊥

    -- where nothing is held, each slot of a node lies at home
    lies_home : (p : Place) (b : Bool) (n q : ℕ) → place_of r.machine n ≡ p → NotBare b p → Lies full done v.duty.links v.duty.before s p b n q → (x : S) × (get_elem? s.homes q ≡ some (some x))
    lies_home Waiting true n q e bare h = (h.0, h.2)
    lies_home Waiting false n q e bare h = (h.0, h.2)
    lies_home (Held seat c) b n q e bare h = absurd (not_held n seat c e)
    lies_home Left b n q e bare h = absurd (not_left n e)
    lies_home AtHome true n q e bare h = (h.0, h.2)
    lies_home AtHome false n q e bare h = absurd (bare refl refl)

    -- a node at home has released its links
    bare_home : (l : ℕ) → l < length v.duty.links → is_released r.machine l ≡ false → place_of r.machine (link_at v.duty.links l).from ≡ AtHome → ⊥
    bare_home l h off home =
        let n : ℕ = (link_at v.duty.links l).from in
        let low : n < length r.machine.places = omega (arith, inside full done v.duty.links v.duty.before v.duty.seats s r id v at live n (λ e. home_waiting (sym home ∙ e)), r.size) in
        let there = Contains-kept (λ k. (link_at v.duty.links k).from == n) (below (length v.duty.links)) l (eq-eqb n n refl) (below-contains (length v.duty.links) l h) in
        true≢false (sym (All-contains (λ k. is_released r.machine k ≡ true) (outgoing v.duty.links n) l ((r.consistent.nodes n low).home home) there) ∙ off)
      where
        home_waiting : AtHome ≡ Waiting → ⊥
        home_waiting e = cc

    home_slot : (q : ℕ) (b : Bool) (n : ℕ) → Goes v.duty.links N r.machine q b n → (x : S) × (get_elem? s.homes q ≡ some (some x))
    home_slot q b n (inl g) = lies_home (place_of r.machine n) b n q refl (λ f _. absurd (true≢false (sym g.2 ∙ f))) (r.slots q b n (inl g))
    home_slot q b n (inr g) = lies_home (place_of r.machine n) b n q refl (λ f home. bare_home g.0 g.1 (sym g.3 ∙ f) (ap (place_of r.machine) (sym (g.4 ∙ ap (λ c. node_of v.duty.links c g.0) (sym g.3 ∙ f))) ∙ home)) (r.slots q b n (inr g))

    every_slot : (q : ℕ) → q < length s.homes → (x : S) × (get_elem? s.homes q ≡ some (some x))
    every_slot q h = dite (dec_lt q N)
        (λ low. home_slot q true q (inl (low, refl, refl)))
        (λ not. dite (dec_lt q (N + length v.duty.links))
        (λ low. let l : ℕ = q - N in home_slot q (is_released r.machine l) (node_of v.duty.links (is_released r.machine l) l) (inr (l, omega (arith, low, not), omega (arith, not), refl, refl)))
        (λ high. let x = r.spare q (omega (arith, high)) h in (x.0, x.2)))

    quiet : AllStarted v true → IsQuiet r.machine
    quiet all = record { started = λ j h. started j (omega (arith, h, r.size)) ∙ all j (omega (arith, h, r.size)); none_held = λ j seat b h e. not_held j seat b e; none_left = λ j h e. not_left j e }

    -- where every node was started, each is home
    all_home : AllStarted v true → (n : ℕ) → n < N → place_of r.machine n ≡ AtHome
    all_home all n low = AllHome-quiet v.duty.links N r.are v.duty.seats r.machine r.size r.consistent (quiet all) n low

    all_done : AllStarted v true → (q : ℕ) (n : ℕ) → Goes v.duty.links N r.machine q true n → n < N → (x : S) × done v.duty.links v.duty.before q x × (get_elem? s.homes q ≡ some (some x))
    all_done all q n goes low = subst (λ p. Lies full done v.duty.links v.duty.before s p true n q) (all_home all n low) (r.slots q true n goes)

    released_all : AllStarted v true → (l : ℕ) → l < length v.duty.links → is_released r.machine l ≡ true
    released_all all l h = AllReleased-quiet v.duty.links N r.are v.duty.seats r.machine r.size r.consistent (quiet all) l h

    in_places : (n : ℕ) → n < N → n < length r.machine.places
    in_places n low = omega (arith, low, r.size)

    in_counters : (n : ℕ) → n < N → n < length r.machine.counters
    in_counters n low = omega (arith, in_places n low, r.consistent.counters)

    word_is : (n : ℕ) → n < N → get_or s.words n 0 ≡ slice_index r.machine.counters n
    word_is n low = ap (λ (ws : List ℕ). get_or ws n 0) r.words_are ∙ get_or_append_left r.machine.counters r.others 0 n (in_counters n low)

    spent : AllStarted v true → (n : ℕ) → n < N → slice_index r.machine.counters n ≡ 0
    spent all n low = dite (ℕ_discrete (slice_index r.machine.counters n) 0) (λ e. e)
        (λ ne. absurd (home_waiting (sym (all_home all n low) ∙ (r.consistent.nodes n (in_places n low)).waits.1 (omega (arith, ne)))))
      where
        home_waiting : AtHome ≡ Waiting → ⊥
        home_waiting e = cc

    -- where none was started, each waits
    unstarted : AllStarted v false → (n : ℕ) → n < N → is_started r.machine n ≡ false
    unstarted ahead n low = started n low ∙ ahead n low

    counts_up : AllStarted v false → (n : ℕ) → n < N → slice_index r.machine.counters n ≡ open_links v.duty.links r.machine n + 1
    counts_up ahead n low = let off = unstarted ahead n low in let count = (r.consistent.nodes n (in_places n low)).counter in omega (arith, rw off at count)

    all_wait : AllStarted v false → (n : ℕ) → n < N → place_of r.machine n ≡ Waiting
    all_wait ahead n low = (r.consistent.nodes n (in_places n low)).waits.1 (omega (arith, counts_up ahead n low))

    all_full : AllStarted v false → (n : ℕ) → n < N → (x : S) × full v.duty.links v.duty.before n x × (get_elem? s.homes n ≡ some (some x))
    all_full ahead n low = subst (λ p. Lies full done v.duty.links v.duty.before s p true n n) (all_wait ahead n low) (r.slots n true n (inl (low, refl, refl)))

    unreleased : AllStarted v false → (l : ℕ) → l < length v.duty.links → is_released r.machine l ≡ false
    unreleased ahead l low =
        let up : (link_at v.duty.links l).from < (link_at v.duty.links l).to = r.are.upward l no_link low in
        let within : (link_at v.duty.links l).to < N = r.are.within l no_link low in
        off_or_on (is_released r.machine l) (λ on. subst IsDone (all_wait ahead (link_at v.duty.links l).from (omega (arith, up, within))) (r.consistent.sources l low on))

    counts_new : AllStarted v false → (n : ℕ) → n < N → slice_index r.machine.counters n ≡ length (incoming v.duty.links n) + 1
    counts_new ahead n low =
        let open_all : open_links v.duty.links r.machine n ≡ length (incoming v.duty.links n) =
        count_all (λ l. not (is_released r.machine l)) (incoming v.duty.links n) (Each-weaker (λ l. (l < length v.duty.links) × ((link_at v.duty.links l).to ≡ n)) (λ l. not (is_released r.machine l) ≡ true) (λ l h. ap not (unreleased ahead l h.0)) (incoming v.duty.links n) (incoming-facts v.duty.links n)) in
        omega (arith, open_all, counts_up ahead n low)

    counters_new : AllStarted v false → r.machine.counters ≡ (fresh N v.duty.links).counters
    counters_new ahead =
        let f : ℕ → ℕ = λ n. length (incoming v.duty.links n) + 1 in
        let size : length r.machine.counters ≡ N = omega (arith, r.size, r.consistent.counters) in
        ext_get_or 0 r.machine.counters (map f (below N)) (size ∙ sym (length-map_below f N)) (λ n h. let low : n < N = omega (arith, h, size) in counts_new ahead n low ∙ sym (get_or-map_below f N n 0 low))

  pub enters : (n id : ℕ) (v : View S B) (i : ℕ) (tail : List (ℕ × S)) → v.is_live ≡ true → v.is_still ≡ false → ((seat : ℕ) → seat < v.duty.seats → has v.duty.shares seat ≡ true) → v.duty.held ≡ [] → v.duty.left ≡ []
      → Allows (Rule full done) n id (v, tail) i (λ c. c) (entered full done (step n i 0 0 none) (v, tail))
  enters n id v i tail live off whole empty looked s rule wide at small =
      let r = in_cycle full done s id v rule at live off in
      let all = homes_list s.homes (every_slot s id v at live r whole empty looked) in
      let w : View S B = still_after v s.words all.0 in
      let one = only s id v at live r whole empty looked in
      let item : (q : ℕ) (x : S) → get_elem? s.homes q ≡ some (some x) → get_elem? all.0 q ≡ some x = λ q x e. unmap all.0 q x (ap (λ hs. get_elem? hs q) (sym all.1) ∙ e) in (
        w,
        keeps,
        tt,
        goes_on full done s id v w (set s.words i (get_or s.words i 0)) s.homes at live one refl (set-get_or s.words i 0) all.1,
        (
          s.words,
          all.0,
          refl,
          sym (length-some all.0) ∙ (ap length (sym all.1) ∙ wide),
          (λ all'. (
            (
              (λ q low. let x = all_done s id v at live r whole empty looked all' q q (inl (low, refl, refl)) low in (x.0, x.1, item q x.0 x.2)),
              (λ l low.
                  let on = released_all s id v at live r whole empty looked all' l low in
                  let x = all_done s id v at live r whole empty looked all' (length v.duty.before + l) (link_at v.duty.links l).to (inr (l, low, refl, sym on, ap (λ c. node_of v.duty.links c l) (sym on))) (r.are.within l no_link low) in
                  (x.0, x.1, item (length v.duty.before + l) x.0 x.2)),
              (λ l low.
                  let t = r.told.1.by_some l low (released_all s id v at live r whole empty looked all' l low) in
                  ap (λ (u : View S B). has u.duty.released l) (sym (some-injective t.1 v (sym t.2 ∙ (ap (get_elem? s.views) (one t.0 t.1 t.2 t.3) ∙ at)))) ∙ t.4),
            ),
            (λ low. word_is s id v at live r whole empty looked i low ∙ spent s id v at live r whole empty looked all' i low),
          )),
          (λ none'. (
            (
              (λ q low. let x = all_full s id v at live r whole empty looked none' q low in (x.0, x.1, item q x.0 x.2)),
              (r.others, r.words_are ∙ ap (λ (ws : List ℕ). ws ++ r.others) (counters_new s id v at live r whole empty looked none')),
            ),
            (λ low. let is = word_is s id v at live r whole empty looked i low in omega (arith, is, counts_up s id v at live r whole empty looked none' i low)),
          )),
          r.told.1.once id v at live,
          (let same = length-some all.0 in omega (arith, r.homes_long, same, ap length all.1)),
          omega (arith, r.size, r.consistent.counters, ap length r.words_are, length-append r.machine.counters r.others),
          clear s id v at live r whole empty looked,
        ),
      )
