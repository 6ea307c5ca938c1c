-- Who opened the clients of a state.
use Rattle.std.proofs.Common.{◌≡◌, ℕ, zero, suc, false, List, [], ◌∷◌, length, filter_map, take, Contains, Option, Some, None, inl, inr, ◌⊎◌, refl, sym, ◌∙◌, ap, subst, arith}
use Rattle.std.specs.List.{cons_option}
use Rattle.jack_types.specs.declared.commands.Change.{Change}
use Rattle.jack_types.specs.declared.commands.Command.{Command}
use Rattle.jack_types.specs.declared.kinds.Kind.{Kind}
use Rattle.driver_laws.specs.graph_word.specs.Publications.{IsFront}
use Rattle.driver_laws.specs.session_model.specs.Commands.{replay}
use Rattle.driver_laws.specs.session_model.specs.Scripts.{Script, Planned, planned}
use Rattle.driver_laws.specs.session_model.specs.State.{OpenClient, is_system, opening}
use Rattle.driver_laws.specs.session_laws.proofs.ListLemmas.{Each-contains, Each-from_contains}
use Rattle.driver_laws.specs.session_laws.proofs.LoopLemmas.{Contains-cases, Contains-first, Contains-later}
use Rattle.driver_laws.specs.session_laws.proofs.OpenedLemmas.{AreOpened-replay}
use Rattle.driver_laws.specs.Keeping.{AreOfCalls}
use Rattle.task_laws.specs.Calls.{AreOwners, HasOpened, kind_opened, open_kinds}
use Rattle.task_laws.proofs.CallLemmas.{changes-all}

pub client-opened : (changes : List Change) (capture playback : ℕ) (client : OpenClient) → Contains (replay (opening capture playback) changes).clients client → is_system client.name ≡ false → HasOpened changes client.birth client.kind
client-opened changes capture playback client m apart =
    let w = AreOpened-replay capture playback changes client m apart in
    (w.0, w.1, w.2, ap kind_opened w.3)

filter_map-contains : {X Y : Type 0} (f : X → Option Y) (xs : List X) (x : X) (y : Y) → Contains xs x → f x ≡ Some y → Contains (filter_map f xs) y
filter_map-contains f [] x y m e = absurd (omega (arith, m.1))
filter_map-contains {X} {Y} f (z ∷ xs) x y m e = go (f z) refl (Contains-cases z x xs m) (λ k. filter_map-contains f xs x y k e)
  where
    none : None ≡ Some y → ⊥
    none p = cc

    some : (a b : Y) → Some a ≡ Some b → a ≡ b
    some a b p = cc

    go : (o : Option Y) → f z ≡ o → (z ≡ x) ⊎ Contains xs x → (Contains xs x → Contains (filter_map f xs) y) → Contains (cons_option o (filter_map f xs)) y
    go None t (inl same) rest = absurd (none (sym t ∙ ap f same ∙ e))
    go (Some v) t (inl same) rest = subst (Contains (v ∷ filter_map f xs)) (some v y (sym t ∙ ap f same ∙ e)) (Contains-first v (filter_map f xs))
    go None t (inr k) rest = rest k
    go (Some v) t (inr k) rest = Contains-later v y (filter_map f xs) (rest k)

pub kind-of_script : (script : Script) (changes : List Change) (birth : ℕ) (kind : Kind) → AreOfCalls script changes → HasOpened changes birth kind → Contains (open_kinds script) kind
kind-of_script script changes birth kind of w =
    Each-contains (λ (change : Change). Among change.command) changes w.0
    (changes-all Among script changes of (Each-from_contains (λ (plan : Planned). Among plan.call.command) (planned script)
    (λ plan m one e. filter_map-contains (λ (p : Planned). kind_opened p.call.command) (planned script) plan one m e))) w.1 kind w.3
  where
    Among : Command → Type 0
    Among command = (one : Kind) → kind_opened command ≡ Some one → Contains (open_kinds script) one

front-contains : {X : Type 0} (n : ℕ) (xs : List X) (x : X) → Contains (take n xs) x → Contains xs x
front-contains zero xs x m = absurd (omega (arith, m.1))
front-contains (suc n) [] x m = absurd (omega (arith, m.1))
front-contains {X} (suc n) (y ∷ xs) x m = go (Contains-cases y x (take n xs) m) (front-contains n xs x)
  where
    go : (y ≡ x) ⊎ Contains (take n xs) x → (Contains (take n xs) x → Contains xs x) → Contains (y ∷ xs) x
    go (inl e) rest = subst (Contains (y ∷ xs)) e (Contains-first y xs)
    go (inr k) rest = Contains-later y x xs (rest k)

pub owners-later : (front changes : List Change) (kinds : List Kind) (owners : List (Option ℕ)) → IsFront front changes → AreOwners front kinds owners → AreOwners changes kinds owners
owners-later front changes kinds owners is are = record {
  apart = are.apart;
  opened = λ p birth kind e f. (let w = are.opened p birth kind e f in (w.0, front-contains (length front) changes w.0 (subst (λ all. Contains all w.0) is w.1), w.2, w.3));
}
