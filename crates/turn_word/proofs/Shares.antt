-- Passes that go from seat to seat keep the rule of a turn.
--     parts      the passes from a number on go to a new seat
--     joins      a seat takes in the passes behind its own
use Rattle.std.proofs.Common.{◌≡◌, ◌≢◌, ℕ, ◌<◌, ◌≤◌, Bool, true, false, ◌||◌, List, [], ◌∷◌, length, set, sym, refl, ◌∙◌, arith}
use Rattle.std.specs.Prelude.{Option, nat_le, nat_lt, ◌&&◌, if◌then◌else◌}
use Rattle.std.proofs.lemmas.Bool.Decides.{nat_tests}
use Rattle.std.proofs.lemmas.List.Elements.{All-append}
use mathlib.Core.Logic.{dite}
use mathlib.Core.Option.{some}
use native.Mathlib.Decide.{dec_lt}
use lib.ListN.{get_elem?}
use Rattle.atomic_table.specs.Table.{State, Splits, Joins}
use Rattle.atomic_table.proofs.Lists.{set_else, at_longer}
use Rattle.table_lemmas.proofs.Views.{each_set, each_snoc}
use Rattle.turn_word.specs.declared.view.Known.{Known}
use Rattle.turn_word.specs.Rule.{KnowsTurn, TurnRule}
use Rattle.turn_word.specs.Steps.{joined, nobody}
use Rattle.turn_word.proofs.Alone.{not_holder}

-- the numbers from one up to another have a new owner
abbrev handed : ℕ → ℕ → ℕ → (ℕ → ℕ) → ℕ → ℕ
handed low high new owner i = if nat_le low i && nat_lt i high then new else owner i

handed-in : (low high new : ℕ) (owner : ℕ → ℕ) (i : ℕ) → low ≤ i → i < high → handed low high new owner i ≡ new
handed-in low high new owner i a b = grind (arith, nat_tests)

handed-low : (low high new : ℕ) (owner : ℕ → ℕ) (i : ℕ) → i < low → handed low high new owner i ≡ owner i
handed-low low high new owner i a = grind (arith, nat_tests)

handed-high : (low high new : ℕ) (owner : ℕ → ℕ) (i : ℕ) → high ≤ i → handed low high new owner i ≡ owner i
handed-high low high new owner i a = grind (arith, nat_tests)

-- what another owns it owns still
handed-else : (low high new : ℕ) (owner : ℕ → ℕ) (i j : ℕ) → j ≡ owner i → (low ≤ i → i < high → ⊥) → j ≡ handed low high new owner i
handed-else low high new owner i j is not =
    dite (dec_lt i low) (λ a. is ∙ sym (handed-low low high new owner i a))
    (λ a. dite (dec_lt i high) (λ b. absurd (not (omega arith) b)) (λ b. is ∙ sym (handed-high low high new owner i (omega arith))))

pub or_true : (b : Bool) → (b || true) ≡ true
or_true true = refl
or_true false = refl

of_either : {P : Type 0} (a b : Bool) → (a ≡ true → P) → (b ≡ true → P) → (a || b) ≡ true → P
of_either true b first second e = first refl
of_either false b first second e = second e

module _ {T : Type 0} (goes_on : T → T → Type 0) (z : ℕ) where
  abbrev Rule : State (Option T) (Known T) → Type 0
  Rule = TurnRule goes_on z

  pub parts : (id : ℕ) (v : Known T) (c : ℕ) → v.from ≤ c → c ≤ v.to → v.holds ≡ false → Splits Rule id v (record v { to = c }) (record v { from = c })
  parts id v c low high free s r at =
      let mine = r.each id v at in let left : Known T = record v { to = c } in let right : Known T = record v { from = c } in
      let vs : List (Known T) = set s.views id left in let new : ℕ = length vs in let owner : ℕ → ℕ = handed c v.to new r.owner in let within = mine.within in
      record {
        word = r.word;
        off = r.off;
        opened = r.opened;
        now = r.now;
        owner = owner;
        holder = r.holder;
        words_are = r.words_are;
        low = r.low;
        one = r.one;
        shut = r.shut;
        later = r.later;
        home = r.home;
        out = λ two. let h = r.out two in (h.0, at_longer vs (right ∷ []) r.holder h.0 (set_else s.views id r.holder left (not_holder goes_on z s r id v at free two) ∙ h.1), h.2, h.3);
        each = each_snoc (λ j u. KnowsTurn goes_on z r.word r.off r.opened r.now owner r.holder j u) vs right
            (each_set (λ j u. KnowsTurn goes_on z r.word r.off r.opened r.now owner r.holder j u) s.views id left
            (record {
              within = omega arith;
              owns = λ i a b. mine.owns i a (omega arith) ∙ sym (handed-low c v.to new r.owner i b);
              size = λ live. mine.size (omega arith);
              known = λ live. mine.known (omega arith);
              saw = λ live. mine.saw (omega arith);
              held = λ holds. absurd (cc);
              told = λ live. mine.told (omega arith);
              quiet = λ live last. mine.quiet (omega arith) (omega arith);
            })
            (λ j u other e. let k = r.each j u e in record {
              within = k.within;
              owns = λ i a b. handed-else c v.to new r.owner i j (k.owns i a b) (λ under over. other (k.owns i a b ∙ sym (mine.owns i (omega arith) over)));
              size = k.size;
              known = k.known;
              saw = k.saw;
              held = k.held;
              told = k.told;
              quiet = k.quiet;
            }))
            (record {
              within = mine.within;
              owns = λ i a b. sym (handed-in c v.to new r.owner i a b);
              size = λ live. mine.size (omega arith);
              known = λ live. mine.known (omega arith);
              saw = λ live. mine.saw (omega arith);
              held = λ holds. absurd (cc);
              told = λ live. mine.told (omega arith);
              quiet = λ live last. mine.quiet (omega arith) last;
            });
      }

  pub joins : (id : ℕ) (v : Known T) (other : ℕ) (w : Known T) → v.from < v.to → w.from < w.to → w.from ≡ v.to → v.holds ≡ false → w.holds ≡ false → Joins Rule id v other w (joined v w) nobody
  joins id v other w live alive next free idle s r at two at' =
      let both : Known T = joined v w in let first : List (Known T) = set s.views id both in
      let was : get_elem? s.views other ≡ some w = sym (set_else s.views id other both two) ∙ at' in
      let mine = r.each id v at in let theirs = r.each other w was in let owner : ℕ → ℕ = handed w.from w.to id r.owner in
      record {
        word = r.word;
        off = r.off;
        opened = r.opened;
        now = r.now;
        owner = owner;
        holder = r.holder;
        words_are = r.words_are;
        low = r.low;
        one = r.one;
        shut = r.shut;
        later = r.later;
        home = r.home;
        out = λ is. let h = r.out is in (
          h.0,
          set_else first other r.holder nobody (not_holder goes_on z s r other w was idle is) ∙ (set_else s.views id r.holder both (not_holder goes_on z s r id v at free is) ∙ h.1),
          h.2,
          h.3,
        );
        each = each_set (λ j u. KnowsTurn goes_on z r.word r.off r.opened r.now owner r.holder j u) first other nobody
            (record { within = omega arith; owns = λ i a b. absurd (omega arith); size = λ none. absurd (omega arith); known = λ none. absurd (omega arith); saw = λ none. absurd (omega arith); held = λ (e : false ≡ true). absurd (cc); told = λ none. absurd (omega arith); quiet = λ none. absurd (omega arith) })
            (λ j u apart e. each_set (λ i x. i ≢ other → KnowsTurn goes_on z r.word r.off r.opened r.now owner r.holder i x) s.views id both
            (λ _. record {
              within = theirs.within;
              owns = λ i a b. dite (dec_lt i w.from) (λ low. mine.owns i a (omega arith) ∙ sym (handed-low w.from w.to id r.owner i low)) (λ high. sym (handed-in w.from w.to id r.owner i (omega arith) b));
              size = λ _. mine.size live;
              known = λ _. mine.known live;
              saw = λ _ d e. All-append (λ x. goes_on x d) v.seen w.seen (mine.saw live d e) (theirs.saw alive d e);
              held = λ holds. absurd (cc);
              told = λ _. of_either v.told w.told (mine.told live) (theirs.told alive);
              quiet = λ _. theirs.quiet alive;
            })
            (λ i x far e' not. let k = r.each i x e' in record {
              within = k.within;
              owns = λ q a b. handed-else w.from w.to id r.owner q i (k.owns q a b) (λ under over. not (k.owns q a b ∙ sym (theirs.owns q under over)));
              size = k.size;
              known = k.known;
              saw = k.saw;
              held = k.held;
              told = k.told;
              quiet = k.quiet;
            })
            j u e apart);
      }
