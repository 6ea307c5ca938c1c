-- How many lines the meters and logs of a legal history may have.
--     calls-few      of the commands made, no more pass a test than of those planned
use Rattle.std.proofs.Common.{◌≡◌, ℕ, zero, suc, ◌+◌, ◌<◌, ◌≤◌, Bool, true, false, cond, not, ◌&&◌, ◌==◌, List, [], ◌∷◌, map, filter, take, count_by, refl, sym, ◌∙◌, ap, arith}
use Rattle.std.specs.List.{cons_option}
use Rattle.std.proofs.lemmas.Bool.Decides.{nat_tests}
use Rattle.std.proofs.lemmas.List.Sums.{sum_by-cons}
use Rattle.jack_types.specs.declared.commands.Call.{Call}
use Rattle.jack_types.specs.declared.commands.Change.{Change}
use Rattle.jack_types.specs.declared.commands.Command.{Command}
use Rattle.jack_types.specs.declared.replies.Entry.{Entry}
use Rattle.jack_types.specs.declared.replies.Reply.{Reply}
use Rattle.jack_types.specs.declared.replies.Reply.TheVariants.{Accepted, Refused, Latency}
use Rattle.session_model.specs.Histories.{LegalSoFar, accepted, change_of, calls_of}
use Rattle.session_model.specs.Scripts.{Script, Planned, planned, planned_of}
use Rattle.grammar_laws.specs.session_laws.proofs.ListLemmas.{Each, Each-weaker, Each-all, Each-map, Each-filter, Each-filter_kept, Each-both, filter-twice, filter-same}
use Rattle.check_model.specs.Checking.{calls_that}
use Rattle.check_laws.proofs.SameLemmas.{Each-from_all}

module _ {X : Type 0} (f : X → Bool) where
  pub count-cons : (x : X) (xs : List X) → count_by f (x ∷ xs) ≡ cond (f x) 1 0 + count_by f xs
  count-cons x xs = sum_by-cons (λ y. cond (f y) 1 0) x xs

  count-split : (p : X → Bool) (xs : List X) → count_by f xs ≡ count_by f (filter p xs) + count_by f (filter (λ x. not (p x)) xs)
  count-split p [] = refl
  count-split p (x ∷ xs) = count-cons x xs ∙ go (p x) (count-split p xs)
    where
      go : (b : Bool) → count_by f xs ≡ count_by f (filter p xs) + count_by f (filter (λ y. not (p y)) xs)
          → cond (f x) 1 0 + count_by f xs ≡ count_by f (cond b (x ∷ filter p xs) (filter p xs)) + count_by f (cond (not b) (x ∷ filter (λ y. not (p y)) xs) (filter (λ y. not (p y)) xs))
      go true e = omega (arith, e, count-cons x (filter p xs))
      go false e = omega (arith, e, count-cons x (filter (λ y. not (p y)) xs))

  pub count-take : (m : ℕ) (xs : List X) → count_by f (take m xs) ≤ count_by f xs
  count-take zero xs = omega arith
  count-take (suc m) [] = omega arith
  count-take (suc m) (x ∷ xs) = omega (arith, count-take m xs, count-cons x xs, count-cons x (take m xs))

  count-classes : (key : X → ℕ) (n : ℕ) (xs ys : List X) → Each (λ x. key x < n) xs → ((c : ℕ) → c < n → count_by f (filter (λ x. key x == c) xs) ≤ count_by f (filter (λ x. key x == c) ys)) → count_by f xs ≤ count_by f ys
  count-classes key zero [] ys h e = omega arith
  count-classes key zero (x ∷ xs) ys h e = absurd (none (key x) h.0)
    where
      none : (n : ℕ) → n < 0 → ⊥
      none n q = omega arith
  count-classes key (suc n) xs ys h e =
      let others : X → Bool = λ x. not (key x == n) in
      let below_n : (x : X) → others x ≡ true → key x < suc n → key x < n = λ x t q. grind (arith, nat_tests) in
      let fewer : Each (λ x. key x < n) (filter others xs) =
      Each-both (λ x. others x ≡ true) (λ x. key x < suc n) (λ x. key x < n) below_n (filter others xs)
      (Each-filter (λ x. others x ≡ true) others xs (λ x t. t)) (Each-filter_kept (λ x. key x < suc n) others xs h) in
      let same : (c : ℕ) → c < n → (zs : List X) → filter (λ x. key x == c) (filter others zs) ≡ filter (λ x. key x == c) zs = λ c q zs.
      filter-twice (λ x. key x == c) others zs
      ∙ filter-same (λ x. others x && key x == c) (λ x. key x == c) zs (Each-all (λ x. (others x && key x == c) ≡ (key x == c)) (λ x. grind (arith, nat_tests)) zs) in
      let rest : count_by f (filter others xs) ≤ count_by f (filter others ys) =
      count-classes key n (filter others xs) (filter others ys) fewer (λ c q. omega (arith, e c (omega (arith, q)), ap (count_by f) (same c q xs), ap (count_by f) (same c q ys))) in
      let here : count_by f (filter (λ x. key x == n) xs) ≤ count_by f (filter (λ x. key x == n) ys) = e n (omega arith) in
      omega (arith, rest, here, count-split (λ x. key x == n) xs, count-split (λ x. key x == n) ys)

pub count-map : {X Y : Type 0} (f : Y → Bool) (g : X → Y) (xs : List X) → count_by f (map g xs) ≡ count_by (λ x. f (g x)) xs
count-map f g [] = refl
count-map f g (x ∷ xs) = count-cons f (g x) (map g xs) ∙ ap (λ n. cond (f (g x)) 1 0 + n) (count-map f g xs) ∙ sym (count-cons (λ y. f (g y)) x xs)

filter-map : {X Y : Type 0} (p : Y → Bool) (g : X → Y) (xs : List X) → filter p (map g xs) ≡ map g (filter (λ x. p (g x)) xs)
filter-map p g [] = refl
filter-map p g (x ∷ xs) = go (p (g x)) (filter-map p g xs)
  where
    go : (b : Bool) → filter p (map g xs) ≡ map g (filter (λ y. p (g y)) xs) → cond b (g x ∷ filter p (map g xs)) (filter p (map g xs)) ≡ map g (cond b (x ∷ filter (λ y. p (g y)) xs) (filter (λ y. p (g y)) xs))
    go true e = ap (λ zs. g x ∷ zs) e
    go false e = e

accepted-few : (f : Command → Bool) (history : List Entry) → count_by (λ (change : Change). f change.command) (accepted history) ≤ count_by (λ (entry : Entry). f entry.call.command) history
accepted-few f [] = omega arith
accepted-few f (entry ∷ history) = omega (arith, go entry.reply (accepted-few f history), count-cons (λ (e : Entry). f e.call.command) entry history)
  where
    go : (r : Reply) → count_by (λ (change : Change). f change.command) (accepted history) ≤ count_by (λ (e : Entry). f e.call.command) history
        → count_by (λ (change : Change). f change.command) (cons_option (change_of (record { call = entry.call; reply = r })) (accepted history)) ≤ cond (f entry.call.command) 1 0 + count_by (λ (e : Entry). f e.call.command) history
    go (Accepted number) h = omega (arith, h, count-cons (λ (change : Change). f change.command) (record { number = number; command = entry.call.command }) (accepted history))
    go (Refused refusal) h = omega (arith, h)
    go (Latency range) h = omega (arith, h)

pub calls-few : (f : Command → Bool) (script : Script) (history : List Entry) → LegalSoFar script history → count_by (λ (change : Change). f change.command) (accepted history) ≤ calls_that f script
calls-few f script history legal =
    let test : Call → Bool = λ (call : Call). f call.command in
    let calls : List Call = calls_of history in
    let plans : List Call = map (λ (plan : Planned). plan.call) (planned script) in
    let lanes : Each (λ (call : Call). call.lane < 5) calls =
    Each-map (λ (call : Call). call.lane < 5) (λ (entry : Entry). entry.call) history
    (Each-weaker (λ (entry : Entry). entry.call.lane ≤ 4) (λ (entry : Entry). entry.call.lane < 5) (λ entry h. omega (arith, h)) history (Each-from_all (λ (entry : Entry). entry.call.lane ≤ 4) history legal.lanes)) in
    let in_lane : (lane : ℕ) → lane < 5 → count_by test (filter (λ (call : Call). call.lane == lane) calls) ≤ count_by test (filter (λ (call : Call). call.lane == lane) plans) = λ lane low.
    let keeps = legal.lane_order lane (omega (arith, low)) in
    omega (
      arith,
      ap (count_by test) keeps.1,
      count-take test keeps.0 (map (λ (plan : Planned). plan.call) (planned_of script lane)),
      ap (count_by test) (filter-map (λ (call : Call). call.lane == lane) (λ (plan : Planned). plan.call) (planned script)),
    ) in
    let all : count_by test calls ≤ count_by test plans = count-classes test (λ (call : Call). call.lane) 5 calls plans lanes in_lane in
    omega (arith, all, accepted-few f history, count-map test (λ (entry : Entry). entry.call) history, count-map test (λ (plan : Planned). plan.call) (planned script))
