-- What is accepted in a legal history are commands of calls of the script, each call once.
use Rattle.std.proofs.Common.{◌≡◌, ℕ, zero, suc, ◌<◌, ◌≤◌, Bool, true, false, cond, ◌==◌, List, [], ◌∷◌, length, map, take, filter, get_or, All, Contains, Option, Some, None, refl, sym, ◌∙◌, ap, ap₂, subst, arith, eq-eqb, ◌⊎◌, inl, inr}
use Rattle.std.proofs.lemmas.List.Elements.{All-head, All-tail}
use Rattle.jack_types.specs.declared.commands.Call.{Call}
use Rattle.jack_types.specs.declared.commands.Change.{Change}
use Rattle.jack_types.specs.declared.commands.Command.{Command}
use Rattle.jack_types.specs.declared.replies.Entry.{Entry}
use Rattle.session_model.specs.Histories.{LegalSoFar, accepted, change_of, calls_of}
use Rattle.session_model.specs.Scripts.{Script, Planned, phases, planned, planned_of, uncounted}
use Rattle.session_laws.proofs.ListLemmas.{Each, Ordered, Each-contains, Each-from_contains, Ordered-filter, Ordered-map, Contains-kept, Contains-filtered, Contains-map, Each-map}
use Rattle.session_laws.proofs.LoopLemmas.{Contains-first, Contains-later, Contains-cases}
use Rattle.call_laws.proofs.LaneLemmas.{Rises, counted_rises, lanes_all}
use Rattle.control_desk.proofs.LawfulLemmas.{change_is}
use Rattle.control_desk.specs.Laws.{AreApart, OfCallsAccepted}

take_ordered : {X : Type 0} (R : X → X → Type 0) (n : ℕ) (xs : List X) → Ordered R xs → Ordered R (take n xs)
take_ordered R zero xs h = tt
take_ordered R (suc n) [] h = tt
take_ordered R (suc n) (x ∷ xs) h = (fewer n xs h.0, take_ordered R n xs h.1)
  where
    fewer : (n : ℕ) (ys : List _) → Each (R x) ys → Each (R x) (take n ys)
    fewer zero ys k = tt
    fewer (suc n) [] k = tt
    fewer (suc n) (y ∷ ys) k = (k.0, fewer n ys k.1)

-- a list whose lanes rise one by one rises
rises_from : (calls : List Call) → All (λ (call : Call). call.lane ≤ 4) calls → ((lane : ℕ) → lane ≤ 4 → Ordered Rises (filter (λ (call : Call). call.lane == lane) calls)) → Ordered Rises calls
rises_from [] lanes each = tt
rises_from (x ∷ calls) lanes each = (
  Each-from_contains (Rises x) calls (λ y there same. first y there same (each x.lane (All-head (λ (call : Call). call.lane ≤ 4) x calls lanes))),
  rises_from calls (All-tail (λ (call : Call). call.lane ≤ 4) x calls lanes) (λ lane low. rest lane (x.lane == lane) (each lane low)),
)
  where
    rest : (lane : ℕ) (b : Bool) → Ordered Rises (cond b (x ∷ filter (λ (call : Call). call.lane == lane) calls) (filter (λ (call : Call). call.lane == lane) calls)) → Ordered Rises (filter (λ (call : Call). call.lane == lane) calls)
    rest lane true h = h.1
    rest lane false h = h

    first : (y : Call) → Contains calls y → x.lane ≡ y.lane → Ordered Rises (cond (x.lane == x.lane) (x ∷ filter (λ (call : Call). call.lane == x.lane) calls) (filter (λ (call : Call). call.lane == x.lane) calls)) → x.index < y.index
    first y there same h =
        let kept : List Call = filter (λ (call : Call). call.lane == x.lane) calls in
        let both : Ordered Rises (x ∷ kept) = subst (λ b. Ordered Rises (cond b (x ∷ kept) kept)) (eq-eqb x.lane x.lane refl) h in
        Each-contains (Rises x) kept y both.0 (Contains-kept (λ (call : Call). call.lane == x.lane) calls y (eq-eqb y.lane x.lane (sym same)) there) same

-- the calls that were accepted
abbrev with_call : Option Change → Call → List Call → List Call
with_call None call calls = calls
with_call (Some change) call calls = call ∷ calls

abbrev taken_calls : List Entry → List Call
taken_calls [] = []
taken_calls (e ∷ es) = with_call (change_of e) e.call (taken_calls es)

abbrev with_change : Option Change → List Change → List Change
with_change None changes = changes
with_change (Some change) changes = change ∷ changes

accepted_more : (e : Entry) (es : List Entry) → accepted (e ∷ es) ≡ with_change (change_of e) (accepted es)
accepted_more e es = go (change_of e) refl
  where
    go : (o : Option Change) → change_of e ≡ o → accepted (e ∷ es) ≡ with_change (change_of e) (accepted es)
    go None is = rw is refl
    go (Some c) is = rw is refl

commands_same : (es : List Entry) → map (λ (call : Call). call.command) (taken_calls es) ≡ map (λ (change : Change). change.command) (accepted es)
commands_same [] = refl
commands_same (e ∷ es) = go (change_of e) refl (commands_same es) ∙ ap (map (λ (change : Change). change.command)) (sym (accepted_more e es))
  where
    go : (o : Option Change) → change_of e ≡ o → map (λ (call : Call). call.command) (taken_calls es) ≡ map (λ (change : Change). change.command) (accepted es)
        → map (λ (call : Call). call.command) (with_call o e.call (taken_calls es)) ≡ map (λ (change : Change). change.command) (with_change o (accepted es))
    go None is h = h
    go (Some c) is h = ap₂ (λ (command : Command) rest. command ∷ rest) (change_is e c is).1 h

taken_among : (es : List Entry) (call : Call) → Contains (taken_calls es) call → Contains (calls_of es) call
taken_among [] call c = c
taken_among (e ∷ es) call c = go (change_of e) c (λ d. taken_among es call d)
  where
    go : (o : Option Change) → Contains (with_call o e.call (taken_calls es)) call → (Contains (taken_calls es) call → Contains (calls_of es) call) → Contains (e.call ∷ calls_of es) call
    go None c f = Contains-later e.call call (calls_of es) (f c)
    go (Some change) c f = pick (Contains-cases e.call call (taken_calls es) c)
      where
        pick : (e.call ≡ call) ⊎ Contains (taken_calls es) call → Contains (e.call ∷ calls_of es) call
        pick (inl same) = subst (λ (x : Call). Contains (e.call ∷ calls_of es) x) same (Contains-first e.call (calls_of es))
        pick (inr later) = Contains-later e.call call (calls_of es) (f later)

apart_from : (es : List Entry) → Ordered Rises (calls_of es) → AreApart (taken_calls es)
apart_from [] h = tt
apart_from (e ∷ es) h = go (change_of e) (apart_from es h.1)
  where
    go : (o : Option Change) → AreApart (taken_calls es) → AreApart (with_call o e.call (taken_calls es))
    go None a = a
    go (Some change) a = (λ c. again (Each-contains (Rises e.call) (calls_of es) e.call h.0 (taken_among es e.call c)), a)
      where
        again : (e.call.lane ≡ e.call.lane → e.call.index < e.call.index) → ⊥
        again f = let p = f refl in omega (arith, p)

each_taken : {X : Type 0} (P : X → Type 0) (n : ℕ) (xs : List X) → Each P xs → Each P (take n xs)
each_taken P zero xs h = tt
each_taken P (suc n) [] h = tt
each_taken P (suc n) (x ∷ xs) h = (h.0, each_taken P n xs h.1)

pub planned_call : (script : Script) (history : List Entry) → LegalSoFar script history → (call : Call) → Contains (calls_of history) call → Contains (map (λ (plan : Planned). plan.call) (planned script)) call
planned_call script history legal call there =
    let Known : Call → Type 0 = λ c. Contains (map (λ (plan : Planned). plan.call) (planned script)) c in
    let low : call.lane ≤ 4 = subst (λ (c : Call). c.lane ≤ 4) there.2 (lanes_all history legal.lanes there.0 call there.1) in
    let order = legal.lane_order call.lane low in
    let each : Each Known (map (λ (plan : Planned). plan.call) (planned_of script call.lane)) =
    Each-map Known (λ (plan : Planned). plan.call) (planned_of script call.lane)
    (Each-from_contains (λ (plan : Planned). Known plan.call) (planned_of script call.lane)
    (λ plan c. Contains-map (λ (p : Planned). p.call) (planned script) plan (Contains-filtered (λ (p : Planned). p.call.lane == call.lane) (planned script) plan c))) in
    let fewer : Each Known (filter (λ (c : Call). c.lane == call.lane) (calls_of history)) = subst (Each Known) (sym order.1) (each_taken Known order.0 (map (λ (plan : Planned). plan.call) (planned_of script call.lane)) each) in
    Each-contains Known (filter (λ (c : Call). c.lane == call.lane) (calls_of history)) call fewer (Contains-kept (λ (c : Call). c.lane == call.lane) (calls_of history) call (eq-eqb call.lane call.lane refl) there)

-- an item inside a list is the same with any default
inner : (es : List Entry) (k : ℕ) (d : Call) → k < length (taken_calls es) → get_or (taken_calls es) k (get_or (taken_calls es) k d) ≡ get_or (taken_calls es) k d
inner es k d h = same (taken_calls es) k d h
  where
    same : (cs : List Call) (k : ℕ) (d : Call) → k < length cs → get_or cs k (get_or cs k d) ≡ get_or cs k d
    same [] k d h = absurd (omega (arith, h))
    same (c ∷ cs) zero d h = refl
    same (c ∷ cs) (suc k) d h = same cs k d (omega (arith, h))

pub of_calls_accepted : OfCallsAccepted
of_calls_accepted script history legal = record {
  calls = taken_calls history;
  commands = commands_same history;
  planned_ones = λ k d h. planned_call script history legal (get_or (taken_calls history) k d) (taken_among history (get_or (taken_calls history) k d) (k, h, inner history k d h));
  once = apart_from history (rises_from (calls_of history) (lanes_all history legal.lanes) (λ lane low. subst (Ordered Rises) (sym (legal.lane_order lane low).1) (take_ordered Rises (legal.lane_order lane low).0 (map (λ (plan : Planned). plan.call) (planned_of script lane)) (Ordered-map Rises (λ (plan : Planned). plan.call) (planned_of script lane) (Ordered-filter (λ (a b : Planned). Rises a.call b.call) (λ (plan : Planned). plan.call.lane == lane) (planned script) (counted_rises [] (uncounted 0 0 (phases script))))))));
}
