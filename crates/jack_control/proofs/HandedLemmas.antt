-- Stores that are handed back one after the other.
--     IsHanding P start now all left      where the stores that are left come to stand so, all do
--     handing-none, handing-next, handing-end      none is handed back, one more, all are
--     first-named      the name of the next is there
--     IsOwing before now all left      where a count rises for the stores that are left, it does for all
--     owing-none, owing-next, owing-end      the same
use Rattle.std.proofs.Common.{◌≡◌, ℕ, zero, suc, ◌≤◌, List, [], ◌∷◌, slice_get, Contains, Option, Some, Ok, Err, true, false, true≢false, refl, sym, ap, subst, arith}
use Rattle.std.proofs.lemmas.Option.{none-some, same_Some}
use Rattle.std.specs.Prelude.{OnErr, OnOk, Result, is_err}
use Rattle.jack_host.specs.Causes.{Adds}
use Rattle.jack_host.specs.Files.{IsNamedThere}
use Rattle.port_registry.proofs.PlaceLemmas.{slice_get-contains}
use Rattle.recorder_files.specs.Recorders.{Stored}
use Rattle.jack_control.specs.Files.{AreApart, AreOut, AreRaised, HandsOne, HasBytes, IsOut, Stand, Standing}
use Rattle.play_inputs.specs.Inputs.{Files}
use Rattle.jack_control.proofs.FileLemmas.{had-before, has-kept, out-else, out-named, touches-first, touches_none}
use Rattle.jack_control.proofs.NameLemmas.{Contains-one}

pub err_of : {T E P : Type 0} (r : Result T E) → is_err r ≡ true → OnErr r P → P
err_of (Ok x) e p = absurd (true≢false (sym e))
err_of (Err x) e p = p

pub ok_of : {T E P : Type 0} (r : Result T E) → is_err r ≡ false → OnOk r P → P
ok_of (Ok x) e p = p
ok_of (Err x) e p = absurd (true≢false e)

pub on_ok-map : {T E P Q : Type 0} (r : Result T E) → (P → Q) → OnOk r P → OnOk r Q
on_ok-map (Ok x) f p = f p
on_ok-map (Err x) f p = tt

pub on_err-map : {T E P Q : Type 0} (r : Result T E) → (P → Q) → OnErr r P → OnErr r Q
on_err-map (Ok x) f p = tt
on_err-map (Err x) f p = f p

-- the first of names that are apart is none of the others
another : (name : List ℕ) (rest : List (List ℕ)) → AreApart (name ∷ rest) → (i : ℕ) (own : List ℕ) → slice_get rest i ≡ Some own → Contains (name ∷ []) own → ⊥
another name rest apart i own there alone = apart.0 own (slice_get-contains rest i own there) (Contains-one name own alone)

-- the name of the first of the stores that are out
record HasFirst (files : Option Files) (names : List (List ℕ)) (store : Stored) (stores : List Stored) : Type 0 where
  name : List ℕ
  rest : List (List ℕ)
  names_are : names ≡ name ∷ rest
  first : IsOut files name store
  out : AreOut files rest stores

cut-off : (files : Option Files) (names : List (List ℕ)) (store : Stored) (stores : List Stored) → AreOut files names (store ∷ stores) → HasFirst files names store stores
cut-off files [] store stores are = let many = are.as_many in absurd (omega (arith, many))
cut-off files (name ∷ rest) store stores are = record {
  name = name;
  rest = rest;
  names_are = refl;
  first = are.each zero name store refl refl;
  out = record { as_many = (let many = are.as_many in omega (arith, many)); each = λ i own s n h. are.each (suc i) own s n h };
}

pub first-named : (files : Option Files) (names : List (List ℕ)) (store : Stored) (stores : List Stored) → AreOut files names (store ∷ stores) → IsNamedThere files store.name
first-named files names store stores are = let has = cut-off files names store stores are in out-named files has.name store has.first

-- the first is handed back, and then the others
stand-first : (P : Standing) (a b c : Option Files) (name : List ℕ) (rest : List (List ℕ)) (store : Stored) (stores : List Stored) → HandsOne P a b name store → AreApart (name ∷ rest)
    → Stand P b c rest stores → Stand P a c (name ∷ rest) (store ∷ stores)
stand-first P a b c name rest store stores hands apart stand = record { others = touches-first a b c name rest hands.others stand.others; each = at }
  where
    here : HasBytes P a c name store
    here = has-kept P a b c rest name store hands.has stand.others (λ m. apart.0 name m refl)

    at : (i : ℕ) (own : List ℕ) (st : Stored) → slice_get (name ∷ rest) i ≡ Some own → slice_get (store ∷ stores) i ≡ Some st → HasBytes P a c own st
    at zero own st n h = subst (λ (x : List ℕ). HasBytes P a c x st) (same_Some name own n) (subst (λ (x : Stored). HasBytes P a c name x) (same_Some store st h) here)
    at (suc i) own st n h = had-before P a b c (name ∷ []) own st hands.others (another name rest apart i own n) (stand.each i own st n h)

pub record Leads (P : Standing) (start now : Option Files) (names : List (List ℕ)) (all left : List Stored) : Type 0 where
  pub rest : List (List ℕ)
  pub out : AreOut now rest left
  pub apart : AreApart rest
  pub onward : (new : Option Files) → Stand P now new rest left → Stand P start new names all

abbrev pub IsHanding : Standing → Option Files → Option Files → List Stored → List Stored → Type 0
IsHanding P start now all left = (names : List (List ℕ)) → AreOut start names all → AreApart names → Leads P start now names all left

pub handing-none : (P : Standing) (start : Option Files) (all : List Stored) → IsHanding P start start all all
handing-none P start all names are apart = record { rest = names; out = are; apart = apart; onward = λ new stand. stand }

pub handing-next : (P : Standing) (start now next : Option Files) (all left : List Stored) (store : Stored) (behind : List Stored) → left ≡ store ∷ behind → IsHanding P start now all left
    → ((name : List ℕ) → IsOut now name store → HandsOne P now next name store) → IsHanding P start next all behind
handing-next P start now next all left store behind e handing hand names are apart =
    let before = handing names are apart in
    let has = cut-off now before.rest store behind (subst (AreOut now before.rest) e before.out) in
    let apart_rest : AreApart (has.name ∷ has.rest) = subst AreApart has.names_are before.apart in
    let hands = hand has.name has.first in
    record {
      rest = has.rest;
      out = record { as_many = has.out.as_many; each = λ i own st n h. out-else now next (has.name ∷ []) own st (has.out.each i own st n h) hands.others (another has.name has.rest apart_rest i own n) };
      apart = apart_rest.1;
      onward = λ new stand.
          before.onward new
          (subst (λ (xs : List Stored). Stand P now new before.rest xs) (sym e)
          (subst (λ (xs : List (List ℕ)). Stand P now new xs (store ∷ behind)) (sym has.names_are) (stand-first P now next new has.name has.rest store behind hands apart_rest stand)));
    }

pub handing-end : (P : Standing) (start now : Option Files) (all left : List Stored) → left ≡ [] → IsHanding P start now all left → (names : List (List ℕ)) → AreOut start names all → AreApart names → Stand P start now names all
handing-end P start now all left none handing names are apart =
    let before = handing names are apart in
    before.onward now
    (subst (λ (xs : List Stored). Stand P now now before.rest xs) (sym none) (record { others = touches_none now before.rest; each = λ i own st n h. absurd (none-some st h) }))

-- the name of the next store is there
pub handing-named : (P : Standing) (start now : Option Files) (all left : List Stored) (store : Stored) (behind : List Stored) → left ≡ store ∷ behind → IsHanding P start now all left
    → (names : List (List ℕ)) → AreOut start names all → AreApart names → IsNamedThere now store.name
handing-named P start now all left store behind e handing names are apart =
    let before = handing names are apart in first-named now before.rest store behind (subst (AreOut now before.rest) e before.out)

abbrev pub IsOwing : ℕ → ℕ → List Stored → List Stored → Type 0
IsOwing before now all left = (after : ℕ) → now ≤ after → AreRaised left now after → AreRaised all before after

pub owing-none : (before : ℕ) (all : List Stored) → IsOwing before before all all
owing-none before all after later raised = raised

pub owing-next : (before now next : ℕ) (all left : List Stored) (store : Stored) (behind : List Stored) → left ≡ store ∷ behind → IsOwing before now all left → Adds now store.faults next → IsOwing before next all behind
owing-next before now next all left store behind e owing adds after later raised =
    owing after (let low = adds.later in omega (arith, low, later)) (subst (λ (xs : List Stored). AreRaised xs now after) (sym e) at)
  where
    at : AreRaised (store ∷ behind) now after
    at zero st h some = let faults = ap (λ (s : Stored). s.faults) (same_Some store st h) in let taken = adds.taken_up in omega (arith, faults, some, taken, later)
    at (suc i) st h some = let rose = raised i st h some in let low = adds.later in omega (arith, rose, low)

pub owing-end : (before now : ℕ) (all left : List Stored) → left ≡ [] → IsOwing before now all left → AreRaised all before now
owing-end before now all left none owing = owing now (omega arith) (subst (λ (xs : List Stored). AreRaised xs now now) (sym none) (λ i st h some. absurd (none-some st h)))
