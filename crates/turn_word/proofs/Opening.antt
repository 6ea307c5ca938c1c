-- A new table meets the rule of a turn.
use Rattle.std.proofs.Common.{◌≡◌, ℕ, true, false, [], ◌∷◌, sym, refl, arith}
use Rattle.std.specs.Prelude.{None}
use mathlib.Core.Option.{some-ne-none}
use Rattle.atomic_table.specs.Table.{opening}
use Rattle.table_lemmas.proofs.Views.{each_snoc}
use Rattle.turn_word.specs.Rule.{KnowsTurn, TurnRule, first_view}
use Rattle.turn_word.proofs.Places.{none_Some}

pub begins : {T : Type 0} (goes_on : T → T → Type 0) (z : ℕ) → TurnRule goes_on z (opening (0 ∷ 0 ∷ []) (None ∷ []) (first_view z))
begins {T} goes_on z = record {
  word = 0;
  off = 0;
  opened = None;
  now = None;
  owner = λ _. 0;
  holder = 0;
  words_are = refl;
  low = omega arith;
  one = refl;
  shut = λ _. (refl, refl);
  later = λ o d is e. absurd (none_Some d e);
  home = λ (e : 0 ≡ 1). absurd (omega arith);
  out = λ (e : 0 ≡ 2). absurd (omega arith);
  each = each_snoc (λ j v. KnowsTurn goes_on z 0 0 None None (λ _. 0) 0 j v) [] (first_view z) (λ j v e. absurd (some-ne-none v (sym e)))
      (record { within = omega arith; owns = λ i a b. refl; size = λ _. refl; known = λ _. refl; saw = λ _ d e. absurd (none_Some d e); held = λ (e : false ≡ true). absurd (cc); told = λ live (e : false ≡ true). absurd (cc); quiet = λ _ _ _. refl });
}
