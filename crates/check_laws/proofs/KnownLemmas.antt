-- The history that a report's calls stand for.
--     calls-back      calls that the script has are the printed ones of their history
--     keyed lists      lists of lists whose items tell their place
use Rattle.std.proofs.Common.{◌≡◌, ℕ, zero, suc, ◌+◌, ◌-◌, ◌<◌, ◌≤◌, true, false, ◌&&◌, ◌==◌, List, [], ◌∷◌, ◌++◌, length, map, filter, filter_map, flat_map, slice_get, Option, Some, None, option_map, refl, sym, ◌∙◌, ap, ap₂, arith, eqb-true, eq-eqb, ne_eqb}
use Rattle.std.specs.List.{cons_option}
use Rattle.std.proofs.lemmas.List.Elements.{filter-append}
use Rattle.jack_types.specs.declared.replies.Entry.{Entry}
use Rattle.session_model.specs.Histories.{plan_of}
use Rattle.session_model.specs.Reports.{PrintedCall, printed_call}
use Rattle.session_model.specs.Scripts.{Script, Planned, planned}
use Rattle.grammar_laws.specs.session_laws.proofs.CycleLemmas.{find-passes}
use Rattle.grammar_laws.specs.session_laws.proofs.ListLemmas.{Each, Each-weaker, filter-all, filter-none}
use Rattle.grammar_laws.specs.session_laws.proofs.LoopLemmas.{and_parts}
use Rattle.check_model.specs.Checking.{SameAt, entry_of, history_of, no_command}
use Rattle.check_laws.proofs.PlaceLists.{none-some, some-same, slice-ext}
use Rattle.report_texts.proofs.SameReportLemmas.{filter_map-shorter}

known-back : {X Y : Type 0} (f : X → Option Y) (g : Y → X) → ((x : X) (y : Y) → f x ≡ Some y → g y ≡ x) → (xs : List X) → length (filter_map f xs) ≡ length xs → map g (filter_map f xs) ≡ xs
known-back f g tell [] h = refl
known-back {X = X} {Y = Y} f g tell (x ∷ xs) h = go (f x) refl h (λ k. known-back f g tell xs k)
  where
    go : (o : Option Y) → f x ≡ o → length (cons_option o (filter_map f xs)) ≡ length (x ∷ xs) → (length (filter_map f xs) ≡ length xs → map g (filter_map f xs) ≡ xs) → map g (cons_option o (filter_map f xs)) ≡ x ∷ xs
    go None e k rest = absurd (omega (arith, k, filter_map-shorter f xs))
    go (Some y) e k rest = ap₂ (λ z zs. z ∷ zs) (tell x y e) (rest (omega (arith, k)))

entry-back : (script : Script) (call : PrintedCall) (entry : Entry) → entry_of script call ≡ Some entry → printed_call entry ≡ call
entry-back script call entry h = go (plan_of script (record { lane = call.lane; index = call.index; command = no_command })) refl h
  where
    go : (o : Option Planned) → plan_of script (record { lane = call.lane; index = call.index; command = no_command }) ≡ o → option_map (λ (plan : Planned). record { call = plan.call; reply = call.reply }) o ≡ Some entry → printed_call entry ≡ call
    go None e k = absurd (none-some entry k)
    go (Some plan) e k =
        let test : (plan.call.lane == call.lane && plan.call.index == call.index) ≡ true =
        find-passes (λ (p : Planned). p.call.lane == call.lane && p.call.index == call.index) (planned script) plan e in
        let parts = and_parts (plan.call.lane == call.lane) (plan.call.index == call.index) test in
        let lane : plan.call.lane ≡ call.lane = eqb-true plan.call.lane call.lane parts.0 in
        let index : plan.call.index ≡ call.index = eqb-true plan.call.index call.index parts.1 in
        ap printed_call (sym (some-same (record { call = plan.call; reply = call.reply }) entry k)) ∙ (λ i. record { lane = lane i; index = index i; reply = call.reply })

pub calls-back : (script : Script) (calls : List PrintedCall) → length (history_of script calls) ≡ length calls → map printed_call (history_of script calls) ≡ calls
calls-back script calls h = known-back (entry_of script) printed_call (entry-back script) calls h

pub same-all : {X : Type 0} (xs ys : List X) → ((n : ℕ) → 1 ≤ n → SameAt xs ys n) → xs ≡ ys
same-all xs ys h =
    slice-ext xs ys
    (λ i. let e : suc i - 1 ≡ i = omega arith in sym (ap (slice_get xs) e) ∙ h (suc i) (omega arith) ∙ ap (slice_get ys) e)

-- ---- lists of lists whose items tell their place

module _ {X Y : Type 0} (f : X → List Y) (key : Y → ℕ) where
  abbrev pub Keyed : ℕ → List X → Type 0
  Keyed base [] = Unit {0}
  Keyed base (x ∷ xs) = Each (λ y. key y ≡ base) (f x) × Keyed (suc base) xs

  pub Keyed-from : (base : ℕ) (xs : List X) → ((i : ℕ) (x : X) → slice_get xs i ≡ Some x → Each (λ y. key y ≡ base + i) (f x)) → Keyed base xs
  Keyed-from base [] h = tt
  Keyed-from base (x ∷ xs) h = (
    Each-weaker (λ y. key y ≡ base + 0) (λ y. key y ≡ base) (λ y e. omega (arith, e)) (f x) (h 0 x refl),
    Keyed-from (suc base) xs (λ i z e. Each-weaker (λ y. key y ≡ base + suc i) (λ y. key y ≡ suc base + i) (λ y q. omega (arith, q)) (f z) (h (suc i) z e)),
  )

  keyed-none : (base k : ℕ) (xs : List X) → k < base → Keyed base xs → filter (λ y. key y == k) (flat_map f xs) ≡ []
  keyed-none base k [] h keyed = refl
  keyed-none base k (x ∷ xs) h keyed =
      filter-append (λ y. key y == k) (f x) (flat_map f xs)
      ∙ ap₂ (λ a b. a ++ b) (filter-none (λ y. key y == k) (f x) (Each-weaker (λ y. key y ≡ base) (λ y. (key y == k) ≡ false) (λ y e. ne_eqb (key y) k (λ q. omega (arith, q, e, h))) (f x) keyed.0))
      (keyed-none (suc base) k xs (omega (arith, h)) keyed.1)

  append-none : (ys : List Y) → ys ++ [] ≡ ys
  append-none [] = refl
  append-none (y ∷ ys) = ap (λ zs. y ∷ zs) (append-none ys)

  pub keyed-part : (base k r : ℕ) (xs : List X) (x : X) → k ≡ base + r → Keyed base xs → slice_get xs r ≡ Some x → filter (λ y. key y == k) (flat_map f xs) ≡ f x
  keyed-part base k r [] x h keyed e = absurd (none-some x e)
  keyed-part base k zero (z ∷ xs) x h keyed e =
      filter-append (λ y. key y == k) (f z) (flat_map f xs)
      ∙ ap₂ (λ a b. a ++ b) (filter-all (λ y. key y == k) (f z) (Each-weaker (λ y. key y ≡ base) (λ y. (key y == k) ≡ true) (λ y q. eq-eqb (key y) k (omega (arith, q, h))) (f z) keyed.0))
      (keyed-none (suc base) k xs (omega (arith, h)) keyed.1)
      ∙ append-none (f z) ∙ ap f (some-same z x e)
  keyed-part base k (suc r) (z ∷ xs) x h keyed e =
      filter-append (λ y. key y == k) (f z) (flat_map f xs)
      ∙ ap₂ (λ a b. a ++ b) (filter-none (λ y. key y == k) (f z) (Each-weaker (λ y. key y ≡ base) (λ y. (key y == k) ≡ false) (λ y q. ne_eqb (key y) k (λ s. omega (arith, q, h, s))) (f z) keyed.0))
      (keyed-part (suc base) k r xs x (omega (arith, h)) keyed.1 e)
