-- Tables of a turn that meet its rule, and tables that do not. The thing is a number, which goes on to no lesser one. The second seat has the last pass, which is the caller's.
use Rattle.std.proofs.Common.{◌≡◌, ℕ, suc, ◌<◌, ◌≤◌, Bool, true, false, List, [], ◌∷◌, get_or, refl, sym, ap, ◌∙◌, arith, lit≤, true≢false}
use Rattle.std.specs.Prelude.{Option, Some, None}
use Rattle.std.proofs.lemmas.List.Elements.{All-nil}
use mathlib.Core.Option.{none, some, some-injective, some-ne-none}
use Rattle.atomic_table.specs.Table.{State}
use Rattle.turn_word.specs.declared.view.Known.{Known}
use Rattle.turn_word.specs.Rule.{KnowsTurn, TurnRule}
use Rattle.model_rows.proofs.Pairs.{each_of_two}

abbrev GoesOn : ℕ → ℕ → Type 0
GoesOn a b = a ≤ b

abbrev Rule : State (Option ℕ) (Known ℕ) → Type 0
Rule = TurnRule GoesOn 2

-- the seat that has the pass of this number alone
abbrev seat : ℕ → Option ℕ → Bool → Known ℕ
seat number opened holds = record { from = number; to = suc number; passes = 2; opened = opened; seen = []; holds = holds; told = false; called = false }

-- two seats, by what was opened and by which of them holds the thing
abbrev seats : Option ℕ → Bool → Bool → List (Known ℕ)
seats opened first second = seat 0 opened first ∷ seat 1 opened second ∷ []

same_thing : (a b : ℕ) → Some a ≡ Some b → a ≡ b
same_thing a b e = cc

none-thing : (a : ℕ) → None ≡ Some a → ⊥
none-thing a e = cc

-- ---- tables that meet it

-- a seat that does not hold the thing knows what is so, whatever the word says
idle : (word : ℕ) (opened now : Option ℕ) (holder number : ℕ) → number < 2 → KnowsTurn GoesOn 2 word 0 opened now (λ i. i) holder number (seat number opened false)
idle word opened now holder number low = record {
  within = low;
  owns = λ i a b. omega (arith, a, b);
  size = λ _. refl;
  known = λ _. refl;
  saw = λ _ d _. All-nil (λ x. x ≤ d);
  held = λ holds. absurd (true≢false (sym holds));
  told = λ _ told. absurd (true≢false (sym told));
  quiet = λ _ _ _. refl;
}

-- shut: nothing was opened, and nothing is in the slot
shut_turn : Rule (record { words = 0 ∷ 0 ∷ []; homes = some None ∷ []; views = seats None false false })
shut_turn = record {
  word = 0;
  off = 0;
  opened = None;
  now = None;
  owner = λ i. i;
  holder = 0;
  words_are = refl;
  low = lit≤ tt;
  one = refl;
  shut = λ _. (refl, refl);
  later = λ o d is e. absurd (none-thing d e);
  home = λ (e : 0 ≡ 1). absurd (omega (arith, e));
  out = λ (e : 0 ≡ 2). absurd (omega (arith, e));
  each = each_of_two (KnowsTurn GoesOn 2 0 0 None None (λ i. i) 0) (seat 0 None false) (seat 1 None false) (idle 0 None None 0 0 (omega arith)) (idle 0 None None 0 1 (omega arith));
}

-- opened with 3, which went on to 5 and is at home
thing_at_home : Rule (record { words = 1 ∷ 0 ∷ []; homes = some (Some 5) ∷ []; views = seats (Some 3) false false })
thing_at_home = record {
  word = 1;
  off = 0;
  opened = Some 3;
  now = Some 5;
  owner = λ i. i;
  holder = 0;
  words_are = refl;
  low = lit≤ tt;
  one = refl;
  shut = λ (e : 1 ≡ 0). absurd (omega (arith, e));
  later = λ o d is e. omega (arith, same_thing 3 o is, same_thing 5 d e);
  home = λ _. (3, 5, refl, refl, refl);
  out = λ (e : 1 ≡ 2). absurd (omega (arith, e));
  each = each_of_two (KnowsTurn GoesOn 2 1 0 (Some 3) (Some 5) (λ i. i) 0) (seat 0 (Some 3) false) (seat 1 (Some 3) false) (idle 1 (Some 3) (Some 5) 0 0 (omega arith)) (idle 1 (Some 3) (Some 5) 0 1 (omega arith));
}

-- the second seat, which holds it
holding : KnowsTurn GoesOn 2 2 0 (Some 3) None (λ i. i) 1 1 (seat 1 (Some 3) true)
holding = record {
  within = lit≤ tt;
  owns = λ i a b. omega (arith, a, b);
  size = λ _. refl;
  known = λ _. refl;
  saw = λ _ d _. All-nil (λ x. x ≤ d);
  held = λ _. (omega arith, refl, refl);
  told = λ _ told. absurd (true≢false (sym told));
  quiet = λ _ _ _. refl;
}

-- opened with 3, and out with the second seat
thing_out : Rule (record { words = 2 ∷ 0 ∷ []; homes = none ∷ []; views = seats (Some 3) false true })
thing_out = record {
  word = 2;
  off = 0;
  opened = Some 3;
  now = None;
  owner = λ i. i;
  holder = 1;
  words_are = refl;
  low = lit≤ tt;
  one = refl;
  shut = λ (e : 2 ≡ 0). absurd (omega (arith, e));
  later = λ o d is e. absurd (none-thing d e);
  home = λ (e : 2 ≡ 1). absurd (omega (arith, e));
  out = λ _. (seat 1 (Some 3) true, refl, refl, refl);
  each = each_of_two (KnowsTurn GoesOn 2 2 0 (Some 3) None (λ i. i) 1) (seat 0 (Some 3) false) (seat 1 (Some 3) true) (idle 2 (Some 3) None 1 0 (omega arith)) holding;
}

-- ---- tables that do not

same_head : (a b c d : ℕ) → a ∷ c ∷ [] ≡ b ∷ d ∷ [] → b ≡ a
same_head a b c d e = sym (ap (λ (words : List ℕ). get_or words 0 0) e)

-- the word says that the thing is out, and no seat holds it
out_with_nobody : Rule (record { words = 2 ∷ 0 ∷ []; homes = none ∷ []; views = seats (Some 3) false false }) → ⊥
out_with_nobody r =
    let out = r.out (same_head 2 r.word 0 r.off r.words_are) in
    let idles = each_of_two (λ j (v : Known ℕ). v.holds ≡ false) (seat 0 (Some 3) false) (seat 1 (Some 3) false) refl refl in
    true≢false (sym out.2 ∙ idles r.holder out.0 out.1)

-- the word says that the thing is at home, and the slot is out
home_with_slot_out : Rule (record { words = 1 ∷ 0 ∷ []; homes = none ∷ []; views = seats (Some 3) false false }) → ⊥
home_with_slot_out r =
    let home = r.home (same_head 1 r.word 0 r.off r.words_are) in
    some-ne-none (Some home.1) (sym (some-injective none (some (Some home.1)) home.3))

-- the word says that the thing is at home, and nothing is in the slot
home_with_nothing : Rule (record { words = 1 ∷ 0 ∷ []; homes = some None ∷ []; views = seats (Some 3) false false }) → ⊥
home_with_nothing r =
    let home = r.home (same_head 1 r.word 0 r.off r.words_are) in
    none-thing home.1 (some-injective None (Some home.1) (some-injective (some None) (some (Some home.1)) home.3))

-- the word says that the turn is shut, and a thing is in the slot
shut_with_thing : Rule (record { words = 0 ∷ 0 ∷ []; homes = some (Some 5) ∷ []; views = seats None false false }) → ⊥
shut_with_thing r =
    let slot = (r.shut (same_head 0 r.word 0 r.off r.words_are)).1 in
    none-thing 5 (sym (some-injective (Some 5) None (some-injective (some (Some 5)) (some None) slot)))

-- both seats hold the thing
out_with_two : Rule (record { words = 2 ∷ 0 ∷ []; homes = none ∷ []; views = seats (Some 3) true true }) → ⊥
out_with_two r =
    let first = ((r.each 0 (seat 0 (Some 3) true) refl).held refl).1 in
    let second = ((r.each 1 (seat 1 (Some 3) true) refl).held refl).1 in
    omega (arith, first, second)

-- the thing is at home, and the second seat holds it
home_and_held : Rule (record { words = 1 ∷ 0 ∷ []; homes = some (Some 5) ∷ []; views = seats (Some 3) false true }) → ⊥
home_and_held r =
    let two = ((r.each 1 (seat 1 (Some 3) true) refl).held refl).2 in
    omega (arith, two, same_head 1 r.word 0 r.off r.words_are)

-- both seats have the first pass
one_pass_twice : Rule (record { words = 0 ∷ 0 ∷ []; homes = some None ∷ []; views = seat 0 None false ∷ seat 0 None false ∷ [] }) → ⊥
one_pass_twice r =
    let first = (r.each 0 (seat 0 None false) refl).owns 0 (omega arith) (omega arith) in
    let second = (r.each 1 (seat 0 None false) refl).owns 0 (omega arith) (omega arith) in
    omega (arith, first, second)

-- opened with 5, and 3 is at home
home_but_earlier : Rule (record { words = 1 ∷ 0 ∷ []; homes = some (Some 3) ∷ []; views = seats (Some 5) false false }) → ⊥
home_but_earlier r =
    let home = r.home (same_head 1 r.word 0 r.off r.words_are) in
    let known = (r.each 0 (seat 0 (Some 5) false) refl).known (omega arith) in
    let opened = same_thing 5 home.0 (known ∙ home.2) in
    let lies = same_thing 3 home.1 (some-injective (Some 3) (Some home.1) (some-injective (some (Some 3)) (some (Some home.1)) home.3)) in
    omega (arith, r.later home.0 home.1 home.2 home.4, opened, lies)

-- the first seat saw 7, and 5 is at home
home_but_seen_later : Rule (record { words = 1 ∷ 0 ∷ []; homes = some (Some 5) ∷ []; views = record (seat 0 (Some 3) false) { seen = 7 ∷ [] } ∷ seat 1 (Some 3) false ∷ [] }) → ⊥
home_but_seen_later r =
    let home = r.home (same_head 1 r.word 0 r.off r.words_are) in
    let lies = same_thing 5 home.1 (some-injective (Some 5) (Some home.1) (some-injective (some (Some 5)) (some (Some home.1)) home.3)) in
    let saw = (r.each 0 (record (seat 0 (Some 3) false) { seen = 7 ∷ [] }) refl).saw (omega arith) home.1 home.4 0 0 (omega arith) in
    omega (arith, saw, lies)

-- the first seat was told that the work is off, and the caller did not call it off
told_without_call : Rule (record { words = 1 ∷ 0 ∷ []; homes = some (Some 5) ∷ []; views = record (seat 0 (Some 3) false) { told = true } ∷ seat 1 (Some 3) false ∷ [] }) → ⊥
told_without_call r =
    let off = (r.each 0 (record (seat 0 (Some 3) false) { told = true }) refl).told (omega arith) refl in
    let quiet = (r.each 1 (seat 1 (Some 3) false) refl).quiet (omega arith) refl refl in
    omega (arith, off, quiet)
