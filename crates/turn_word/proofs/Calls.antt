-- The steps on the word that tells whether the work was called off.
--     asks      a pass asks
--     calls      the caller calls it off
--     clears      the one seat that has all passes lets it go again
use Rattle.std.proofs.Common.{◌≡◌, ℕ, ◌<◌, ◌-◌, true, false, List, [], ◌∷◌, get_or, set, sym, refl, ap, ◌∙◌, arith}
use Rattle.std.specs.Prelude.{Option}
use mathlib.Core.Logic.{dite}
use mathlib.Core.Option.{none, some}
use native.Mathlib.Decide.{ℕ_discrete}
use lib.ListN.{get_elem?}
use Rattle.atomic_table.specs.Table.{State, step, keeps, Allows}
use Rattle.atomic_table.proofs.Lists.{set_else}
use Rattle.table_lemmas.proofs.Views.{each_set}
use Rattle.turn_word.specs.declared.view.Known.{Known}
use Rattle.turn_word.specs.Rule.{KnowsTurn, TurnRule}
use Rattle.turn_word.specs.Steps.{Sat, Asked, Called, Cleared, hears, calling, cleared}
use Rattle.turn_word.proofs.Alone.{IsWhole, alone, not_holder}
use Rattle.turn_word.proofs.Places.{if_not_false}

module _ {T : Type 0} (goes_on : T → T → Type 0) (z : ℕ) where
  abbrev Rule : State (Option T) (Known T) → Type 0
  Rule = TurnRule goes_on z

  -- a seat that does not hold the thing knows something new of the work, and each other seat knows what it knew
  knows_more : (s : State (Option T) (Known T)) (r : Rule s) (id : ℕ) (v w : Known T) (off : ℕ) (words : List ℕ) → get_elem? s.views id ≡ some v → v.holds ≡ false → words ≡ r.word ∷ off ∷ []
      → KnowsTurn goes_on z r.word off r.opened r.now r.owner r.holder id w
      → ((j : ℕ) (u : Known T) → (j ≡ id → ⊥) → get_elem? s.views j ≡ some u → KnowsTurn goes_on z r.word off r.opened r.now r.owner r.holder j u)
      → Rule (record { words = words; homes = s.homes; views = set s.views id w })
  knows_more s r id v w off words at free are mine others = record {
    word = r.word;
    off = off;
    opened = r.opened;
    now = r.now;
    owner = r.owner;
    holder = r.holder;
    words_are = are;
    low = r.low;
    one = r.one;
    shut = r.shut;
    later = r.later;
    home = r.home;
    out = λ two. let h = r.out two in (h.0, set_else s.views id r.holder w (not_holder goes_on z s r id v at free two) ∙ h.1, h.2, h.3);
    each = each_set (λ j u. KnowsTurn goes_on z r.word off r.opened r.now r.owner r.holder j u) s.views id w mine others;
  }

  pub asks : (n id : ℕ) (me : Sat T) → me.0.holds ≡ false → Allows Rule n id me 1 (λ k. k) (Asked (step n 1 0 0 none) me)
  asks n id me free s r wide at _ =
      let mine = r.each id me.0 at in let is : get_or s.words 1 0 ≡ r.off = ap (λ (ws : List ℕ). get_or ws 1 0) r.words_are in
      let same : set s.words 1 (get_or s.words 1 0) ≡ r.word ∷ r.off ∷ [] = ap (λ (ws : List ℕ). set ws 1 (get_or ws 1 0)) r.words_are in
      dite (ℕ_discrete r.off 1)
      (λ one. (
        hears me.0,
        keeps,
        tt,
        knows_more s r id me.0 (hears me.0) r.off _ at free same
            (record { within = mine.within; owns = mine.owns; size = mine.size; known = mine.known; saw = mine.saw; held = mine.held; told = λ _ _. one; quiet = mine.quiet })
            (λ j u other e. r.each j u e),
        ((λ _. refl), λ not. absurd (not (is ∙ one))),
      ))
      (λ other. (me.0, keeps, tt, knows_more s r id me.0 me.0 r.off _ at free same mine (λ j u away e. r.each j u e), ((λ one. absurd (other (sym is ∙ one))), λ _. refl)))

  pub calls : (n id : ℕ) (me : Sat T) (new : ℕ) → me.0.from < me.0.to → me.0.to ≡ z → me.0.holds ≡ false → new ≡ 1
      → Allows Rule n id me 1 (λ _. new) (λ _. Called (step n 1 new 0 none) me new)
  calls n id me new live last free now s r wide at _ =
      let mine = r.each id me.0 at in (
        calling me.0,
        keeps,
        tt,
        knows_more s r id me.0 (calling me.0) new _ at free (ap (λ (ws : List ℕ). set ws 1 new) r.words_are)
            (record { within = mine.within; owns = mine.owns; size = mine.size; known = mine.known; saw = mine.saw; held = mine.held; told = λ _ _. now; quiet = λ _ _ (e : true ≡ false). absurd (cc) })
            (λ j u other e. let k = r.each j u e in record {
              within = k.within;
              owns = k.owns;
              size = k.size;
              known = k.known;
              saw = k.saw;
              held = k.held;
              told = λ _ _. now;
              quiet = λ alive too _. absurd (other (k.owns (z - 1) (omega arith) (omega arith) ∙ sym (mine.owns (z - 1) (omega arith) (omega arith))));
            }),
        refl,
      )

  pub clears : (n id : ℕ) (me : Sat T) (new : ℕ) → IsWhole goes_on z me.0 → me.0.holds ≡ false → new ≡ 0
      → Allows Rule n id me 1 (λ _. new) (λ _. Cleared (step n 1 new 0 none) me new)
  clears n id me new whole free now s r wide at _ =
      let mine = r.each id me.0 at in let first = whole.0 in let last = whole.1 in let some = whole.2 in
      let live : me.0.from < me.0.to = omega arith in (
        cleared me.0,
        keeps,
        tt,
        knows_more s r id me.0 (cleared me.0) new _ at free (ap (λ (ws : List ℕ). set ws 1 new) r.words_are)
            (record { within = mine.within; owns = mine.owns; size = mine.size; known = mine.known; saw = mine.saw; held = mine.held; told = λ _ (e : false ≡ true). absurd (cc); quiet = λ _ _ _. now })
            (λ j u other e. let k = r.each j u e in record {
              within = k.within;
              owns = k.owns;
              size = k.size;
              known = k.known;
              saw = k.saw;
              held = k.held;
              told = λ alive. absurd (alone goes_on z s r id me.0 at whole j u other e alive);
              quiet = λ alive. absurd (alone goes_on z s r id me.0 at whole j u other e alive);
            }),
        ((λ told. if_not_false me.0.called (λ uncalled. let zero = mine.quiet live last uncalled in let one = mine.told live told in omega arith)), refl),
      )
