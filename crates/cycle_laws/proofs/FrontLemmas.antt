-- What is of a script's calls.
--     front-front      a front of a front is one of the whole
--     AreOfCalls-front      a front of changes that are of calls is of calls
--     AreOfCalls-last      so is what the cycle before took
use Rattle.std.proofs.Common.{◌≡◌, ℕ, zero, suc, List, [], ◌∷◌, length, map, take, Contains, ◌⊎◌, inl, inr, sym, ◌∙◌, ap, subst, arith}
use Rattle.std.proofs.lemmas.List.Elements.{All-take}
use Rattle.jack_types.specs.declared.commands.Call.{Call}
use Rattle.jack_types.specs.declared.commands.Change.{Change}
use Rattle.session_model.specs.Scripts.{Planned, Script, planned}
use Rattle.session_model.specs.Soundness.{Apart}
use Rattle.session_laws.proofs.ListLemmas.{map-take}
use Rattle.session_laws.proofs.LoopLemmas.{Contains-cases, Contains-first, Contains-later}
use Rattle.graph_word.specs.Publications.{IsFront}
use Rattle.graph_word.proofs.Fronts.{front_short, take_take}
use Rattle.plan_transport.specs.driver_laws.specs.Keeping.{AreOfCalls}

pub front-front : (front middle whole : List Change) → IsFront front middle → IsFront middle whole → IsFront front whole
front-front front middle whole first second = first ∙ ap (take (length front)) second ∙ take_take (length front) (length middle) whole (front_short front middle first)

contains-none : {X : Type 0} {x : X} → Contains [] x → ⊥
contains-none m = omega (arith, m.1)

contains-taken : {X : Type 0} (xs : List X) (n : ℕ) (x : X) → Contains (take n xs) x → Contains xs x
contains-taken xs zero x m = absurd (contains-none m)
contains-taken [] (suc n) x m = absurd (contains-none m)
contains-taken {X} (y ∷ xs) (suc n) x m = go (Contains-cases y x (take n xs) m) (contains-taken xs n x)
  where
    go : (y ≡ x) ⊎ Contains (take n xs) x → (Contains (take n xs) x → Contains xs x) → Contains (y ∷ xs) x
    go (inl e) rest = subst (Contains (y ∷ xs)) e (Contains-first y xs)
    go (inr k) rest = Contains-later y x xs (rest k)

Apart-taken : {X : Type 0} (xs : List X) (n : ℕ) → Apart (λ x. x) xs → Apart (λ x. x) (take n xs)
Apart-taken xs zero h = tt
Apart-taken [] (suc n) h = tt
Apart-taken (x ∷ xs) (suc n) h = (λ other m e. h.0 other (contains-taken xs n other m) e, Apart-taken xs n h.1)

pub AreOfCalls-front : (script : Script) (front whole : List Change) → IsFront front whole → AreOfCalls script whole → AreOfCalls script front
AreOfCalls-front script front whole is_front of = record {
  calls = take (length front) of.calls;
  commands =
      map-take (λ (call : Call). call.command) (length front) of.calls
      ∙ ap (take (length front)) of.commands
      ∙ sym (map-take (λ (change : Change). change.command) (length front) whole)
      ∙ ap (map (λ (change : Change). change.command)) (sym is_front);
  planned_ones = All-take (Contains (map (λ (plan : Planned). plan.call) (planned script))) (length front) of.calls of.planned_ones;
  once = Apart-taken of.calls (length front) of.once;
}

-- what the last cycle took is a front of what the place held, and that is one of what the cycle takes
pub AreOfCalls-last : (script : Script) (last held changes : List Change) → IsFront last held → IsFront held changes → AreOfCalls script changes → AreOfCalls script last
AreOfCalls-last script last held changes earlier later of = AreOfCalls-front script last changes (front-front last held changes earlier later) of
