-- The steps on a turn's word keep its rule.
--     takes      a pass asks for the thing
--     gives      and gives it back
--     seizes, claims      the one seat that has all passes takes the slot of a turn that is shut, or open
--     opens, shuts      and opens it with a thing, or shuts it
use Rattle.std.proofs.Common.{◌≡◌, ℕ, ◌<◌, true, false, List, [], ◌∷◌, All, get_or, set, sym, refl, ap, ◌∙◌, subst, arith, length-set}
use Rattle.std.specs.Prelude.{Option, Some, None}
use Rattle.std.proofs.lemmas.List.Elements.{All-nil, All-cons, All-weaker}
use mathlib.Core.Logic.{dite}
use mathlib.Core.Option.{none, some, some-injective}
use native.Mathlib.Decide.{ℕ_discrete}
use lib.ListN.{get_elem?}
use Rattle.atomic_table.specs.Table.{State, step, keeps, takes as out_of, gives as back, Allows}
use Rattle.atomic_table.proofs.Lists.{set_here, set_again}
use Rattle.table_lemmas.proofs.Views.{each_set}
use Rattle.table_lemmas.proofs.Readings.{inside}
use Rattle.turn_word.specs.declared.view.Known.{Known}
use Rattle.turn_word.specs.Rule.{KnowsTurn, TurnRule}
use Rattle.turn_word.specs.Steps.{Sat, saw, seize, lay, Took, Claimed, Seized, Gave, Laid}
use Rattle.turn_word.specs.Turns.{newest}
use Rattle.turn_word.proofs.Alone.{IsWhole, alone, not_out}
use Rattle.turn_word.proofs.Places.{none_Some, same_Some}

module _ {T : Type 0} where
  some-none : (x : T) (o : Option T) → o ≡ Some x → o ≡ None → ⊥
  some-none x o is not = let no : Some x ≡ None = sym is ∙ not in cc

  -- what holds of a thing holds of the same one
  of_same : (P : T → Type 0) (x y : T) → Some x ≡ Some y → P x → P y
  of_same P x y e p = subst P (same_Some x y e) p

module _ {T : Type 0} (goes_on : T → T → Type 0) (same : (a : T) → goes_on a a) (later : (a b c : T) → goes_on a b → goes_on b c → goes_on a c) (z : ℕ) where
  abbrev Rule : State (Option T) (Known T) → Type 0
  Rule = TurnRule goes_on z

  -- all of these are earlier
  abbrev AreBefore : List T → T → Type 0
  AreBefore seen d = All (λ x. goes_on x d) seen

  -- what goes on from these goes on still
  still : (seen : List T) (d e : T) → goes_on d e → AreBefore seen d → AreBefore seen e
  still seen d e goes before = All-weaker (λ x. goes_on x d) (λ x. goes_on x e) (λ x p. later x d e p goes) seen before

  -- a thing is seen
  sees : (seen : List T) (d e : T) → Some d ≡ Some e → AreBefore seen d → AreBefore (d ∷ seen) e
  sees seen d e is before = of_same (AreBefore (d ∷ seen)) d e is (All-cons (λ x. goes_on x d) d seen (same d) before)

  pub takes : (n id : ℕ) (me : Sat T) (o : T) → me.0.opened ≡ Some o → me.0.from < me.0.to → me.0.holds ≡ false → Allows Rule n id me 0 (λ _. 2) (Took goes_on (step n 0 2 0 none) me)
  takes n id me o is_open live free s r wide at _ =
      let mine = r.each id me.0 at in let is : get_or s.words 0 0 ≡ r.word = ap (λ (ws : List ℕ). get_or ws 0 0) r.words_are in
      let now : set s.words 0 2 ≡ 2 ∷ r.off ∷ [] = ap (λ (ws : List ℕ). set ws 0 2) r.words_are in
      let known = mine.known live in let low = r.low in
      dite (ℕ_discrete r.word 1)
      (λ home. let h = r.home home in let w : Known T = saw true (Some h.1) me.0 in (
        w,
        out_of 0 (Some h.1),
        h.3,
        record {
          word = 2;
          off = r.off;
          opened = r.opened;
          now = r.now;
          owner = r.owner;
          holder = id;
          words_are = now;
          low = omega arith;
          one = length-set s.homes 0 none ∙ r.one;
          shut = λ (e : 2 ≡ 0). absurd (omega arith);
          later = r.later;
          home = λ (e : 2 ≡ 1). absurd (omega arith);
          out = λ _. (w, set_here s.views id w (inside s.views id me.0 at), refl, h.4);
          each = each_set (λ j u. KnowsTurn goes_on z 2 r.off r.opened r.now r.owner id j u) s.views id w
              (record { within = mine.within; owns = mine.owns; size = mine.size; known = mine.known; saw = λ _ d e. sees me.0.seen h.1 d (sym h.4 ∙ e) (mine.saw live h.1 h.4); held = λ _. (live, refl, refl); told = mine.told; quiet = mine.quiet })
              (λ j u other e. let k = r.each j u e in record { within = k.within; owns = k.owns; size = k.size; known = k.known; saw = k.saw; held = λ holds. let two = (k.held holds).2 in absurd (omega arith); told = k.told; quiet = k.quiet });
        },
        ((λ _. (h.0, h.1, known ∙ h.2, r.later h.0 h.1 h.2 h.4, mine.saw live h.1 h.4, refl)), λ not. absurd (not (is ∙ home))),
      ))
      (λ away. let two : r.word ≡ 2 = dite (ℕ_discrete r.word 0)
      (λ zero. absurd (some-none o r.opened (sym known ∙ is_open) (r.shut zero).0)) (λ high. omega arith) in (
        me.0,
        keeps,
        tt,
        record {
          word = 2;
          off = r.off;
          opened = r.opened;
          now = r.now;
          owner = r.owner;
          holder = r.holder;
          words_are = now;
          low = omega arith;
          one = r.one;
          shut = λ (e : 2 ≡ 0). absurd (omega arith);
          later = r.later;
          home = λ (e : 2 ≡ 1). absurd (omega arith);
          out = λ _. let h = r.out two in (h.0, ap (λ (vs : List (Known T)). get_elem? vs r.holder) (set_again s.views id me.0 at) ∙ h.1, h.2, h.3);
          each = each_set (λ j u. KnowsTurn goes_on z 2 r.off r.opened r.now r.owner r.holder j u) s.views id me.0
              (subst (λ (k : ℕ). KnowsTurn goes_on z k r.off r.opened r.now r.owner r.holder id me.0) two mine)
              (λ j u other e. subst (λ (k : ℕ). KnowsTurn goes_on z k r.off r.opened r.now r.owner r.holder j u) two (r.each j u e));
        },
        ((λ one. absurd (away (sym is ∙ one))), λ _. (is ∙ two, refl)),
      ))

  pub gives : (n id : ℕ) (v : Known T) (o t d : T) (new : ℕ) → v.opened ≡ Some o → newest v.seen ≡ Some t → goes_on t d → v.holds ≡ true → new ≡ 1
      → Allows Rule n id (v, (0, Some d) ∷ []) 0 (λ _. new) (λ _. Gave (step n 0 new 0 none) (v, (0, Some d) ∷ []) new)
  gives n id v o t d new is_open is_taken goes holds now s r wide at _ =
      let mine = r.each id v at in let held = mine.held holds in let h = r.out held.2 in
      let was : r.now ≡ Some t = h.3 ∙ ap (λ (u : Known T). newest u.seen) (some-injective h.0 v (sym h.1 ∙ ap (get_elem? s.views) (sym held.1) ∙ at)) ∙ is_taken in
      let w : Known T = saw false (Some d) v in let one = r.one in (
        w,
        back,
        tt,
        record {
          word = 1;
          off = r.off;
          opened = r.opened;
          now = Some d;
          owner = r.owner;
          holder = r.holder;
          words_are = ap (λ (ws : List ℕ). set ws 0 new) r.words_are ∙ ap (λ (k : ℕ). k ∷ r.off ∷ []) now;
          low = omega arith;
          one = length-set s.homes 0 (some (Some d)) ∙ r.one;
          shut = λ (e : 1 ≡ 0). absurd (omega arith);
          later = λ p e is same_one. of_same (λ (y : T). goes_on p y) d e same_one (later p t d (r.later p t is was) goes);
          home = λ _. (o, d, sym (mine.known held.0) ∙ is_open, set_here s.homes 0 (some (Some d)) (omega arith), refl);
          out = λ (e : 1 ≡ 2). absurd (omega arith);
          each = each_set (λ j u. KnowsTurn goes_on z 1 r.off r.opened (Some d) r.owner r.holder j u) s.views id w
              (record { within = mine.within; owns = mine.owns; size = mine.size; known = mine.known; saw = λ live e is. sees v.seen d e is (still v.seen t d goes (mine.saw live t was)); held = λ (e : false ≡ true). absurd (cc); told = mine.told; quiet = mine.quiet })
              (λ j u other e. let k = r.each j u e in record { within = k.within; owns = k.owns; size = k.size; known = k.known; saw = λ live e is. of_same (AreBefore u.seen) d e is (still u.seen t d goes (k.saw live t was)); held = λ holds'. absurd (other ((k.held holds').1 ∙ sym held.1)); told = k.told; quiet = k.quiet });
        },
        refl,
      )

  pub seizes : (n id : ℕ) (me : Sat T) → IsWhole goes_on z me.0 → me.0.opened ≡ None → me.0.holds ≡ false → Allows Rule n id me 0 (λ _. 2) (Seized (step n 0 2 0 none) me)
  seizes n id me whole closed free s r wide at _ =
      let mine = r.each id me.0 at in let low = r.low in let first = whole.0 in let last = whole.1 in let some = whole.2 in
      let live : me.0.from < me.0.to = omega arith in
      let zero : r.word ≡ 0 = dite (ℕ_discrete r.word 1) (λ home. let h = r.home home in absurd (some-none h.0 r.opened h.2 (sym (mine.known live) ∙ closed)))
      (λ away. dite (ℕ_discrete r.word 2) (λ two. absurd (not_out goes_on z s r id me.0 at whole free two)) (λ not. omega arith)) in
      let w : Known T = seize me.0 in (
        w,
        out_of 0 None,
        (r.shut zero).1,
        record {
          word = 2;
          off = r.off;
          opened = r.opened;
          now = None;
          owner = r.owner;
          holder = id;
          words_are = ap (λ (ws : List ℕ). set ws 0 2) r.words_are;
          low = omega arith;
          one = length-set s.homes 0 none ∙ r.one;
          shut = λ (e : 2 ≡ 0). absurd (omega arith);
          later = λ p d is e. absurd (none_Some d e);
          home = λ (e : 2 ≡ 1). absurd (omega arith);
          out = λ _. (w, set_here s.views id w (inside s.views id me.0 at), refl, refl);
          each = each_set (λ j u. KnowsTurn goes_on z 2 r.off r.opened None r.owner id j u) s.views id w
              (record { within = mine.within; owns = mine.owns; size = mine.size; known = mine.known; saw = λ _ d e. absurd (none_Some d e); held = λ _. (live, refl, refl); told = mine.told; quiet = mine.quiet })
              (λ j u other e. let k = r.each j u e in record { within = k.within; owns = k.owns; size = k.size; known = k.known; saw = λ _ d e. absurd (none_Some d e); held = λ holds. let two = (k.held holds).2 in absurd (omega arith); told = k.told; quiet = k.quiet });
        },
        refl,
      )

  pub claims : (n id : ℕ) (me : Sat T) (o : T) → IsWhole goes_on z me.0 → me.0.opened ≡ Some o → me.0.holds ≡ false → Allows Rule n id me 0 (λ _. 2) (Claimed goes_on (step n 0 2 0 none) me)
  claims n id me o whole is_open free s r wide at _ =
      let mine = r.each id me.0 at in let low = r.low in let first = whole.0 in let last = whole.1 in let some = whole.2 in
      let live : me.0.from < me.0.to = omega arith in let known = mine.known live in
      let home : r.word ≡ 1 = dite (ℕ_discrete r.word 0) (λ zero. absurd (some-none o r.opened (sym known ∙ is_open) (r.shut zero).0))
      (λ high. dite (ℕ_discrete r.word 2) (λ two. absurd (not_out goes_on z s r id me.0 at whole free two)) (λ not. omega arith)) in
      let h = r.home home in let w : Known T = saw true (Some h.1) me.0 in (
        w,
        out_of 0 (Some h.1),
        h.3,
        record {
          word = 2;
          off = r.off;
          opened = r.opened;
          now = r.now;
          owner = r.owner;
          holder = id;
          words_are = ap (λ (ws : List ℕ). set ws 0 2) r.words_are;
          low = omega arith;
          one = length-set s.homes 0 none ∙ r.one;
          shut = λ (e : 2 ≡ 0). absurd (omega arith);
          later = r.later;
          home = λ (e : 2 ≡ 1). absurd (omega arith);
          out = λ _. (w, set_here s.views id w (inside s.views id me.0 at), refl, h.4);
          each = each_set (λ j u. KnowsTurn goes_on z 2 r.off r.opened r.now r.owner id j u) s.views id w
              (record { within = mine.within; owns = mine.owns; size = mine.size; known = mine.known; saw = λ _ d e. sees me.0.seen h.1 d (sym h.4 ∙ e) (mine.saw live h.1 h.4); held = λ _. (live, refl, refl); told = mine.told; quiet = mine.quiet })
              (λ j u other e. let k = r.each j u e in record { within = k.within; owns = k.owns; size = k.size; known = k.known; saw = k.saw; held = λ holds. let two = (k.held holds).2 in absurd (omega arith); told = k.told; quiet = k.quiet });
        },
        (h.0, h.1, known ∙ h.2, r.later h.0 h.1 h.2 h.4, mine.saw live h.1 h.4, refl),
      )

  pub opens : (n id : ℕ) (v : Known T) (d : T) (new : ℕ) → IsWhole goes_on z v → v.passes ≡ z → v.holds ≡ true → new ≡ 1
      → Allows Rule n id (v, (0, Some d) ∷ []) 0 (λ _. new) (λ _. Laid (step n 0 new 0 none) (v, (0, Some d) ∷ []) new)
  opens n id v d new whole size holds now s r wide at _ =
      let mine = r.each id v at in let w : Known T = lay (Some d) v in let one = r.one in (
        w,
        back,
        tt,
        record {
          word = 1;
          off = r.off;
          opened = Some d;
          now = Some d;
          owner = r.owner;
          holder = r.holder;
          words_are = ap (λ (ws : List ℕ). set ws 0 new) r.words_are ∙ ap (λ (k : ℕ). k ∷ r.off ∷ []) now;
          low = omega arith;
          one = length-set s.homes 0 (some (Some d)) ∙ r.one;
          shut = λ (e : 1 ≡ 0). absurd (omega arith);
          later = λ p e is same_one. of_same (λ (y : T). goes_on p y) d e same_one (of_same (λ (y : T). goes_on y d) d p is (same d));
          home = λ _. (d, d, refl, set_here s.homes 0 (some (Some d)) (omega arith), refl);
          out = λ (e : 1 ≡ 2). absurd (omega arith);
          each = each_set (λ j u. KnowsTurn goes_on z 1 r.off (Some d) (Some d) r.owner r.holder j u) s.views id w
              (record { within = mine.within; owns = mine.owns; size = mine.size; known = λ _. refl; saw = λ _ e _. All-nil (λ x. goes_on x e); held = λ (e : false ≡ true). absurd (cc); told = mine.told; quiet = mine.quiet })
              (λ j u other e. let k = r.each j u e in record {
                within = k.within;
                owns = k.owns;
                size = k.size;
                known = λ live. absurd (alone goes_on z s r id v at whole j u other e live);
                saw = λ live. absurd (alone goes_on z s r id v at whole j u other e live);
                held = λ holds'. absurd (alone goes_on z s r id v at whole j u other e (k.held holds').0);
                told = k.told;
                quiet = k.quiet;
              });
        },
        refl,
      )

  pub shuts : (n id : ℕ) (v : Known T) (new : ℕ) → IsWhole goes_on z v → v.holds ≡ true → new ≡ 0
      → Allows Rule n id (v, (0, None) ∷ []) 0 (λ _. new) (λ _. Laid (step n 0 new 0 none) (v, (0, None) ∷ []) new)
  shuts n id v new whole holds now s r wide at _ =
      let mine = r.each id v at in let w : Known T = lay None v in let one = r.one in (
        w,
        back,
        tt,
        record {
          word = 0;
          off = r.off;
          opened = None;
          now = None;
          owner = r.owner;
          holder = r.holder;
          words_are = ap (λ (ws : List ℕ). set ws 0 new) r.words_are ∙ ap (λ (k : ℕ). k ∷ r.off ∷ []) now;
          low = omega arith;
          one = length-set s.homes 0 (some None) ∙ r.one;
          shut = λ _. (refl, set_here s.homes 0 (some None) (omega arith));
          later = λ p d is e. absurd (none_Some d e);
          home = λ (e : 0 ≡ 1). absurd (omega arith);
          out = λ (e : 0 ≡ 2). absurd (omega arith);
          each = each_set (λ j u. KnowsTurn goes_on z 0 r.off None None r.owner r.holder j u) s.views id w
              (record { within = mine.within; owns = mine.owns; size = mine.size; known = λ _. refl; saw = λ _ d e. absurd (none_Some d e); held = λ (e : false ≡ true). absurd (cc); told = mine.told; quiet = mine.quiet })
              (λ j u other e. let k = r.each j u e in record {
                within = k.within;
                owns = k.owns;
                size = k.size;
                known = λ live. absurd (alone goes_on z s r id v at whole j u other e live);
                saw = λ live. absurd (alone goes_on z s r id v at whole j u other e live);
                held = λ holds'. absurd (alone goes_on z s r id v at whole j u other e (k.held holds').0);
                told = k.told;
                quiet = k.quiet;
              });
        },
        refl,
      )
