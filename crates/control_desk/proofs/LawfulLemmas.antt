-- What is accepted in a legal history is lawful, and all of it is of the phases begun.
use Rattle.std.proofs.Common.{◌≡◌, ℕ, zero, suc, ◌+◌, ◌*◌, ◌<◌, ◌≤◌, Bool, true, false, cond, nat_lt, List, [], ◌∷◌, ◌++◌, length, take, filter, slice_get, All, IsTrue, Option, Some, None, refl, sym, ◌∙◌, ap, arith, true≢false, append-nil}
use Rattle.std.specs.Option.{option_map_or}
use Rattle.std.proofs.lemmas.Bool.Decides.{nat_tests}
use Rattle.std.proofs.lemmas.List.Elements.{All-head, All-tail, filter-append}
use Rattle.std.proofs.lemmas.List.{length-take-le}
use Rattle.jack_types.specs.declared.commands.Change.{Change}
use Rattle.jack_types.specs.declared.commands.Command.{Command}
use Rattle.jack_types.specs.declared.commands.Command.TheVariants.{Latency as Measure}
use Rattle.jack_types.specs.declared.ports.Range.{Range}
use Rattle.jack_types.specs.declared.replies.Entry.{Entry}
use Rattle.jack_types.specs.declared.replies.Refusal.{Refusal}
use Rattle.jack_types.specs.declared.replies.Reply.{Reply}
use Rattle.jack_types.specs.declared.replies.Reply.TheVariants.{Accepted, Refused, Latency}
use Rattle.session_model.specs.Commands.{refusal, replay}
use Rattle.session_model.specs.Histories.{accepted, change_of, plan_of, stage_of}
use Rattle.session_model.specs.Replies.{reply, reply_by, granted, is_change}
use Rattle.session_model.specs.Latencies.{latency}
use Rattle.session_model.specs.Scripts.{Script, Planned}
use Rattle.session_model.specs.State.{State, opening}
use Rattle.call_laws.proofs.ItemLemmas.{none-some, some-same}
use Rattle.control_desk.specs.Desks.{IsOfPhases}
use Rattle.control_desk.specs.Laws.{AcceptedLater, AcceptedAll, AcceptedUpTo, LawfulAccepted}

all_kept : (script : Script) (phase : ℕ) → 1 ≤ phase → (history : List Entry) → All (IsOfPhases script phase) history
    → filter (λ (entry : Entry). nat_lt (stage_of script entry.call) (2 * phase)) history ≡ history
all_kept script phase some [] h = refl
all_kept script phase some (entry ∷ history) h = go (nat_lt (stage_of script entry.call) (2 * phase)) (inside (plan_of script entry.call) refl) (all_kept script phase some history (All-tail (IsOfPhases script phase) entry history h))
  where
    inside : (o : Option Planned) → plan_of script entry.call ≡ o → nat_lt (option_map_or (λ (plan : Planned). plan.stage) o 0) (2 * phase) ≡ true
    inside None e = grind (arith, nat_tests)
    inside (Some plan) e = let low : plan.stage < 2 * phase = All-head (IsOfPhases script phase) entry history h plan e in grind (arith, nat_tests)

    go : (b : Bool) → b ≡ true → filter (λ (e : Entry). nat_lt (stage_of script e.call) (2 * phase)) history ≡ history
        → cond b (entry ∷ filter (λ (e : Entry). nat_lt (stage_of script e.call) (2 * phase)) history) (filter (λ (e : Entry). nat_lt (stage_of script e.call) (2 * phase)) history) ≡ entry ∷ history
    go true e rest = ap (λ es. entry ∷ es) rest
    go false e rest = absurd (true≢false (sym e))

pub accepted_up_to : AcceptedUpTo
accepted_up_to script history phase some all = ap (λ (es : List Entry). length (accepted es)) (all_kept script phase some history all)

-- where an accepted change stands in the history
pub accepted_at : (es : List Entry) (i : ℕ) (change : Change) → slice_get (accepted es) i ≡ Some change
    → (j : ℕ) × (entry : Entry) × (slice_get es j ≡ Some entry) × (change_of entry ≡ Some change) × (accepted (take j es) ≡ take i (accepted es))
accepted_at [] i change h = absurd (none-some change h)
accepted_at (e ∷ es) i change h = go (change_of e) i refl h (λ k q. accepted_at es k change q)
  where
    with_one : Option Change → List Change → List Change
    with_one None cs = cs
    with_one (Some c) cs = c ∷ cs

    Found : ℕ → Type 0
    Found i = (j : ℕ) × (entry : Entry) × (slice_get (e ∷ es) j ≡ Some entry) × (change_of entry ≡ Some change) × (accepted (take j (e ∷ es)) ≡ take i (accepted (e ∷ es)))

    Within : ℕ → Type 0
    Within k = (j : ℕ) × (entry : Entry) × (slice_get es j ≡ Some entry) × (change_of entry ≡ Some change) × (accepted (take j es) ≡ take k (accepted es))

    longer : (o : Option Change) → change_of e ≡ o → (xs : List Entry) → accepted (e ∷ xs) ≡ with_one o (accepted xs)
    longer None is xs = rw is refl
    longer (Some c) is xs = rw is refl

    go : (o : Option Change) (i : ℕ) → change_of e ≡ o → slice_get (accepted (e ∷ es)) i ≡ Some change → ((k : ℕ) → slice_get (accepted es) k ≡ Some change → Within k) → Found i
    go None i is h rest =
        let w = rest i (sym (ap (λ cs. slice_get cs i) (longer None is es)) ∙ h) in
        (suc w.0, w.1, w.2, w.3, longer None is (take w.0 es) ∙ w.4 ∙ ap (take i) (sym (longer None is es)))
    go (Some c) zero is h rest =
        (0, e, refl, is ∙ (sym (ap (λ cs. slice_get cs 0) (longer (Some c) is es)) ∙ h), refl)
    go (Some c) (suc i) is h rest =
        let w = rest i (sym (ap (λ cs. slice_get cs (suc i)) (longer (Some c) is es)) ∙ h) in
        (suc w.0, w.1, w.2, w.3, longer (Some c) is (take w.0 es) ∙ ap (λ cs. c ∷ cs) w.4 ∙ ap (take (suc i)) (sym (longer (Some c) is es)))

-- a reply that accepts
by_refusal : (state : State) (number m : ℕ) (command : Command) (o : Option Refusal) → refusal state command ≡ o → reply_by state number command o ≡ Accepted m
    → (refusal state command ≡ None) × IsTrue (is_change command) × (m ≡ number)
by_refusal state number m command (Some r) e h = absurd (clash r h)
  where
    clash : (r : Refusal) → Refused r ≡ Accepted m → ⊥
    clash r q = cc
by_refusal state number m command None e h = (e, (grants command h).0, (grants command h).1)
  where
    told : (a : Range) → Latency a ≡ Accepted m → ⊥
    told a q = cc

    same : Accepted number ≡ Accepted m → m ≡ number
    same q = cc

    grants : (c : Command) → granted state number c ≡ Accepted m → IsTrue (is_change c) × (m ≡ number)
    grants (Measure mode port) q = absurd (told (latency state mode port) q)
    grants _ q = (refl, same q)

-- what an entry's change says of its reply
pub change_is : (entry : Entry) (change : Change) → change_of entry ≡ Some change → (entry.reply ≡ Accepted change.number) × (entry.call.command ≡ change.command)
change_is entry change h = go entry.reply refl
  where
    none : (r : Refusal) → entry.reply ≡ Refused r → ⊥
    none r e = absurd (none-some change (sym (refused e) ∙ h))
      where
        refused : entry.reply ≡ Refused r → change_of entry ≡ None
        refused e = rw e refl

    told : (a : Range) → entry.reply ≡ Latency a → ⊥
    told a e = absurd (none-some change (sym (measured e) ∙ h))
      where
        measured : entry.reply ≡ Latency a → change_of entry ≡ None
        measured e = rw e refl

    go : (r : Reply) → entry.reply ≡ r → (entry.reply ≡ Accepted change.number) × (entry.call.command ≡ change.command)
    go (Accepted m) e =
        let made : Change = record { number = m; command = entry.call.command } in
        let is : change_of entry ≡ Some made = rw e refl in
        let same : made ≡ change = some-same made change (sym is ∙ h) in
        (e ∙ ap (λ (c : Change). Accepted c.number) same, ap (λ (c : Change). c.command) same)
    go (Refused r) e = absurd (none r e)
    go (Latency a) e = absurd (told a e)

inside : {X : Type 0} (xs : List X) (i : ℕ) (x : X) → slice_get xs i ≡ Some x → i < length xs
inside [] i x h = absurd (none-some x h)
inside (y ∷ xs) zero x h = omega arith
inside (y ∷ xs) (suc i) x h = let p = inside xs i x h in omega (arith, p)

pub lawful_accepted : LawfulAccepted
lawful_accepted script history legal i change here =
    let start : State = opening script.header.capture script.header.playback in
    let w = accepted_at history i change here in
    let entry : Entry = w.1 in
    let is = change_is entry change w.3 in
    let size : length (take i (accepted history)) ≡ i = length-take-le i (accepted history) (omega (arith, inside (accepted history) i change here)) in
    let replied : entry.reply ≡ reply (replay start (accepted (take w.0 history))) (length (accepted (take w.0 history)) + 1) entry.call.command = legal.replies w.0 entry w.2 in
    let at : State = replay start (take i (accepted history)) in
    let told : reply at (length (take i (accepted history)) + 1) change.command ≡ Accepted change.number =
    sym (replied
    ∙ ap (λ cs. reply (replay start cs) (length cs + 1) entry.call.command) w.4
    ∙ ap (λ command. reply at (length (take i (accepted history)) + 1) command) is.1) ∙ is.0 in
    let three = by_refusal at (length (take i (accepted history)) + 1) change.number change.command (refusal at change.command) refl told in
    record { numbered = three.2 ∙ ap (λ n. n + 1) size; changes = three.1; accepted = three.0 }

module _ (script : Script) (stage : ℕ) where
  none_below : (more : List Entry) → All (λ (entry : Entry). stage ≤ stage_of script entry.call) more → filter (λ (entry : Entry). nat_lt (stage_of script entry.call) stage) more ≡ []
  none_below [] h = refl
  none_below (e ∷ more) h = go (nat_lt (stage_of script e.call) stage) refl (All-head (λ (entry : Entry). stage ≤ stage_of script entry.call) e more h) (none_below more (All-tail (λ (entry : Entry). stage ≤ stage_of script entry.call) e more h))
    where
      kept : List Entry
      kept = filter (λ (entry : Entry). nat_lt (stage_of script entry.call) stage) more

      go : (b : Bool) → nat_lt (stage_of script e.call) stage ≡ b → stage ≤ stage_of script e.call → kept ≡ [] → cond b (e ∷ kept) kept ≡ []
      go true t low r = absurd (clash t low)
        where
          clash : nat_lt (stage_of script e.call) stage ≡ true → stage ≤ stage_of script e.call → ⊥
          clash t low = grind (arith, nat_tests)
      go false t low r = r

  all_below : (front : List Entry) → All (λ (entry : Entry). stage_of script entry.call < stage) front → filter (λ (entry : Entry). nat_lt (stage_of script entry.call) stage) front ≡ front
  all_below [] h = refl
  all_below (e ∷ front) h = go (nat_lt (stage_of script e.call) stage) refl (All-head (λ (entry : Entry). stage_of script entry.call < stage) e front h) (all_below front (All-tail (λ (entry : Entry). stage_of script entry.call < stage) e front h))
    where
      kept : List Entry
      kept = filter (λ (entry : Entry). nat_lt (stage_of script entry.call) stage) front

      go : (b : Bool) → nat_lt (stage_of script e.call) stage ≡ b → stage_of script e.call < stage → kept ≡ front → cond b (e ∷ kept) kept ≡ e ∷ front
      go true t low r = ap (λ es. e ∷ es) r
      go false t low r = absurd (clash t low)
        where
          clash : nat_lt (stage_of script e.call) stage ≡ false → stage_of script e.call < stage → ⊥
          clash t low = grind (arith, nat_tests)

pub accepted_later : AcceptedLater
accepted_later script front more stage high =
    let test : Entry → Bool = λ entry. nat_lt (stage_of script entry.call) stage in
    ap (λ (es : List Entry). length (accepted es)) (filter-append test front more ∙ ap (λ rest. filter test front ++ rest) (none_below script stage more high) ∙ append-nil (filter test front))

pub accepted_all : AcceptedAll
accepted_all script front stage low = ap (λ (es : List Entry). length (accepted es)) (all_below script stage front low)
