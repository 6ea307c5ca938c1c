-- What stays of a host's files, and of what is out, where one name gets other bytes.
--     touches_none, touches_same, touches-after, touches-wider      nothing is touched, what is touched by and by, more are named
--     touches-more, touches-first      one name more is touched
--     touches-made, empties-none, empties-made, empties_same      what the making of a file does to the names
--     out-made      a file that was made is out
--     out_same, out-kept, out-else      it stays out where the files are the same, a file is made, or other names are touched
--     out-named      its name is there
--     hands-whole, hands-part, part-handed      what a store that is handed back leaves under its name
--     has-kept, had-before      and leaves there where other names are touched, later or before
use Rattle.std.proofs.Common.{◌≡◌, ◌⊎◌, inl, inr, ℕ, Bool, true, false, cond, List, [], ◌∷◌, ◌++◌, Contains, Option, Some, None, Ok, Err, is_some, refl, sym, ◌∙◌, ap, subst, true≢false}
use Rattle.std.proofs.Math.Seq.{take-length}
use Rattle.std.specs.Prelude.{IsSome, OnErr, OnOk, Result}
use Rattle.std.proofs.lemmas.Option.{none-some, same_Some}
use Rattle.std.specs.Str.{bytes_eq}
use Rattle.jack_host.specs.Files.{bytes_under, IsNamedThere, Makes, Replaces, SameFiles, Stands, StandsInPart}
use Rattle.jack_host.specs.Told.{TellsAs}
use Rattle.host_memory.proofs.FilesLemmas.{bytes_eq-same}
use Rattle.recorder_files.specs.Recorders.{Stored}
use Rattle.session_laws.proofs.LoopFreeLemmas.{Contains-append_left}
use Rattle.session_laws.proofs.LoopLemmas.{Contains-first, Contains-later}
use Rattle.jack_control.specs.Files.{Empties, HandsOne, HasBytes, IsOut, IsPart, IsWhole, Standing}
use Rattle.play_inputs.specs.Inputs.{Files}
use Rattle.jack_control.specs.Plays.{TouchesOnly}
use Rattle.jack_control.proofs.NameLemmas.{Contains-last, Contains-one, differ}

-- ---- what is not touched

pub touches_none : (a : Option Files) (names : List (List ℕ)) → TouchesOnly a a names
touches_none None names = tt
touches_none (Some a) names = λ other not. refl

pub touches_same : (a b : Option Files) (names : List (List ℕ)) → SameFiles a b → TouchesOnly a b names
touches_same None None names same = tt
touches_same None (Some b) names same = absurd same
touches_same (Some a) None names same = absurd same
touches_same (Some a) (Some b) names same = λ name other. same name

pub touches-after : (a b c : Option Files) (names : List (List ℕ)) → TouchesOnly a b names → TouchesOnly b c names → TouchesOnly a c names
touches-after None None None names first second = tt
touches-after None None (Some c) names first second = absurd second
touches-after None (Some b) c names first second = absurd first
touches-after (Some a) None c names first second = absurd first
touches-after (Some a) (Some b) None names first second = absurd second
touches-after (Some a) (Some b) (Some c) names first second = λ name other. second name other ∙ first name other

pub touches-wider : (a b : Option Files) (names more : List (List ℕ)) → ((name : List ℕ) → Contains names name → Contains more name) → TouchesOnly a b names → TouchesOnly a b more
touches-wider None None names more among t = tt
touches-wider None (Some b) names more among t = absurd t
touches-wider (Some a) None names more among t = absurd t
touches-wider (Some a) (Some b) names more among t = λ other not. t other (λ m. not (among other m))

pub touches-more : (a b c : Option Files) (names : List (List ℕ)) (name : List ℕ) → TouchesOnly a b names → TouchesOnly b c (name ∷ []) → TouchesOnly a c (names ++ name ∷ [])
touches-more a b c names name first second =
    touches-after a b c (names ++ name ∷ []) (touches-wider a b names (names ++ name ∷ []) (Contains-append_left names (name ∷ [])) first)
    (touches-wider b c (name ∷ []) (names ++ name ∷ []) (λ other there. subst (Contains (names ++ name ∷ [])) (Contains-one name other there) (Contains-last names name)) second)

pub touches-first : (a b c : Option Files) (name : List ℕ) (names : List (List ℕ)) → TouchesOnly a b (name ∷ []) → TouchesOnly b c names → TouchesOnly a c (name ∷ names)
touches-first a b c name names first second =
    touches-after a b c (name ∷ names) (touches-wider a b (name ∷ []) (name ∷ names) (λ other there. subst (Contains (name ∷ names)) (Contains-one name other there) (Contains-first name names)) first)
    (touches-wider b c names (name ∷ names) (λ other. Contains-later name other names) second)

touches-replaced : (a b : Option Files) (name bytes : List ℕ) → Replaces a b name bytes → TouchesOnly a b (name ∷ [])
touches-replaced None None name bytes r = tt
touches-replaced None (Some b) name bytes r = absurd r
touches-replaced (Some a) None name bytes r = absurd r
touches-replaced (Some a) (Some b) name bytes r = λ other not.
    r other ∙ ap (λ test. cond test (Some bytes) (bytes_under a other)) (differ name other (λ same. not (subst (Contains (name ∷ [])) same (Contains-first name []))))

-- ---- a file that is made

pub touches-made : (a b : Option Files) (name : List ℕ) → Makes a b name → TouchesOnly a b (name ∷ [])
touches-made a b name (inl replaced) = touches-replaced a b name [] replaced
touches-made a b name (inr kept) = touches_same a b (name ∷ []) kept.1

pub empties-none : (a : Option Files) → Empties a a
empties-none None = tt
empties-none (Some a) = λ name. inr refl

pub empties_same : (a b c : Option Files) → Empties a b → SameFiles b c → Empties a c
empties_same None None None empties same = tt
empties_same None None (Some c) empties same = absurd same
empties_same None (Some b) c empties same = absurd empties
empties_same (Some a) None c empties same = absurd empties
empties_same (Some a) (Some b) None empties same = absurd same
empties_same (Some a) (Some b) (Some c) empties same = λ name. subst (λ now. (now ≡ Some []) ⊎ (now ≡ bytes_under a name)) (sym (same name)) (empties name)

empties-replaced : (a b c : Option Files) (name : List ℕ) → Empties a b → Replaces b c name [] → Empties a c
empties-replaced None None None name empties r = tt
empties-replaced None None (Some c) name empties r = absurd r
empties-replaced None (Some b) c name empties r = absurd empties
empties-replaced (Some a) None c name empties r = absurd empties
empties-replaced (Some a) (Some b) None name empties r = absurd r
empties-replaced (Some a) (Some b) (Some c) name empties r = λ other. subst (λ now. (now ≡ Some []) ⊎ (now ≡ bytes_under a other)) (sym (r other)) (go (bytes_eq name other) other)
  where
    go : (test : Bool) (other : List ℕ) → (cond test (Some []) (bytes_under b other) ≡ Some []) ⊎ (cond test (Some []) (bytes_under b other) ≡ bytes_under a other)
    go true other = inl refl
    go false other = empties other

pub empties-made : (a b c : Option Files) (name : List ℕ) → Empties a b → Makes b c name → Empties a c
empties-made a b c name empties (inl replaced) = empties-replaced a b c name empties replaced
empties-made a b c name empties (inr kept) = empties_same a b c empties kept.1

-- ---- what is out

still_there : (test : Bool) (bytes : List ℕ) (under : Option (List ℕ)) → is_some under ≡ true → is_some (cond test (Some bytes) under) ≡ true
still_there true bytes under h = refl
still_there false bytes under h = h

there-made : (a b : Files) (name : List ℕ) → Makes (Some a) (Some b) name → IsSome (bytes_under b name)
there-made a b name (inl replaced) = ap (λ o. is_some o) (replaced name ∙ ap (λ test. cond test (Some []) (bytes_under a name)) (bytes_eq-same name))
there-made a b name (inr kept) = ap (λ o. is_some o) (kept.1 name) ∙ kept.0

there-still : (a b : Files) (name other : List ℕ) → Makes (Some a) (Some b) name → IsSome (bytes_under a other) → IsSome (bytes_under b other)
there-still a b name other (inl replaced) there = ap (λ o. is_some o) (replaced other) ∙ still_there (bytes_eq name other) [] (bytes_under a other) there
there-still a b name other (inr kept) there = ap (λ o. is_some o) (kept.1 other) ∙ there

-- a host tells its files behind a making only where it told them before
made-untold : {P : Type 0} (b : Files) (name : List ℕ) → Makes None (Some b) name → P
made-untold b name (inl replaced) = absurd replaced
made-untold b name (inr kept) = absurd kept.1

pub out-made : (a b : Option Files) (name : List ℕ) (told content : Option (List ℕ)) (back : Stored)
    → TellsAs a told name → TellsAs a content [] → Makes a b name → back.name ≡ told → is_some back.bytes ≡ is_some content → IsOut b name back
out-made None None name told content back t e made n is = tt
out-made None (Some b) name told content back t e made n is = made-untold b name made
out-made (Some a) None name told content back t e made n is = tt
out-made (Some a) (Some b) name None content back t e made n is = cc
out-made (Some a) (Some b) name (Some told) None back t e made n is = cc
out-made (Some a) (Some b) name (Some told) (Some content) back t e made n is = record { named = n ∙ ap (λ xs. Some xs) t; there = there-made a b name made; tells = is }

pub out_same : (a b : Option Files) (name : List ℕ) (store : Stored) → IsOut a name store → SameFiles a b → IsOut b name store
out_same None None name store h s = tt
out_same None (Some b) name store h s = absurd s
out_same (Some a) None name store h s = tt
out_same (Some a) (Some b) name store h s = record { named = h.named; there = ap (λ o. is_some o) (s name) ∙ h.there; tells = h.tells }

pub out-kept : (a b : Option Files) (name : List ℕ) (store : Stored) (other : List ℕ) → IsOut a name store → Makes a b other → IsOut b name store
out-kept None None name store other h made = tt
out-kept None (Some b) name store other h made = made-untold b other made
out-kept (Some a) None name store other h made = tt
out-kept (Some a) (Some b) name store other h made = record { named = h.named; there = there-still a b other name made h.there; tells = h.tells }

pub out-else : (a b : Option Files) (names : List (List ℕ)) (name : List ℕ) (store : Stored) → IsOut a name store → TouchesOnly a b names → (Contains names name → ⊥) → IsOut b name store
out-else None None names name store h t not = tt
out-else None (Some b) names name store h t not = absurd t
out-else (Some a) None names name store h t not = tt
out-else (Some a) (Some b) names name store h t not = record { named = h.named; there = ap (λ o. is_some o) (t name not) ∙ h.there; tells = h.tells }

pub out-named : (a : Option Files) (name : List ℕ) (store : Stored) → IsOut a name store → IsNamedThere a store.name
out-named None name store h = tt
out-named (Some a) name store h = subst (λ (o : Option (List ℕ)). IsNamedThere (Some a) o) (sym h.named) h.there

-- ---- what is handed back

stands-replaced : (a b : Files) (name content : List ℕ) (named told : Option (List ℕ)) → named ≡ Some name → told ≡ Some content → Stands (Some a) (Some b) named told → Replaces (Some a) (Some b) name content
stands-replaced a b name content None told e f s = absurd (none-some name e)
stands-replaced a b name content (Some own) None e f s = absurd s
stands-replaced a b name content (Some own) (Some bytes) e f s =
    subst (λ (xs : List ℕ). Replaces (Some a) (Some b) xs content) (same_Some own name e) (subst (λ (xs : List ℕ). Replaces (Some a) (Some b) own xs) (same_Some bytes content f) s)

under-replaced : (a b : Files) (name bytes : List ℕ) → Replaces (Some a) (Some b) name bytes → bytes_under b name ≡ Some bytes
under-replaced a b name bytes r = r name ∙ ap (λ test. cond test (Some bytes) (bytes_under a name)) (bytes_eq-same name)

pub some-told : (bytes : Option (List ℕ)) → IsSome bytes → (text : List ℕ) × (bytes ≡ Some text)
some-told (Some text) is = (text, refl)
some-told None is = absurd (true≢false (sym is))

pub hands-whole : (a b : Option Files) (name : List ℕ) (store : Stored) → IsOut a name store → Stands a b store.name store.bytes → HandsOne IsWhole a b name store
hands-whole None None name store h s = record { others = tt; has = tt }
hands-whole None (Some b) name store h s = absurd s
hands-whole (Some a) None name store h s = absurd s
hands-whole (Some a) (Some b) name store h s =
    let told = some-told store.bytes h.tells in
    let replaced = stands-replaced a b name told.0 store.name store.bytes h.named told.1 s in
    record { others = touches-replaced (Some a) (Some b) name told.0 replaced; has = under-replaced a b name told.0 replaced ∙ sym told.1 }

pub hands-part : (a b : Option Files) (name : List ℕ) (store : Stored) → IsOut a name store → StandsInPart a b store.name store.bytes → HandsOne IsPart a b name store
hands-part None None name store h s = record { others = tt; has = tt }
hands-part None (Some b) name store h s = absurd s
hands-part (Some a) None name store h s = absurd s
hands-part (Some a) (Some b) name store h (inl same) = record { others = touches_same (Some a) (Some b) (name ∷ []) same; has = inl (same name) }
hands-part (Some a) (Some b) name store h (inr (left, front, s)) =
    let replaced = stands-replaced a b name left store.name (Some left) h.named refl s in
    record { others = touches-replaced (Some a) (Some b) name left replaced; has = inr (left, front, under-replaced a b name left replaced) }

-- all that a store has is the first of it
stands-part : (a b : Option Files) (name content : Option (List ℕ)) → Stands a b name content → StandsInPart a b name content
stands-part None None name content s = tt
stands-part None (Some b) name content s = absurd s
stands-part (Some a) None name content s = absurd s
stands-part (Some a) (Some b) None content s = absurd s
stands-part (Some a) (Some b) (Some name) None s = absurd s
stands-part (Some a) (Some b) (Some name) (Some content) s = inr (content, sym (take-length content), s)

pub part-handed : {T E : Type 0} (r : Result T E) (a b : Option Files) (name content : Option (List ℕ)) → OnOk r (Stands a b name content) → OnErr r (StandsInPart a b name content) → StandsInPart a b name content
part-handed (Ok x) a b name content whole part = stands-part a b name content whole
part-handed (Err e) a b name content whole part = part

pub has-kept : (P : Standing) (a b c : Option Files) (names : List (List ℕ)) (name : List ℕ) (store : Stored)
    → HasBytes P a b name store → TouchesOnly b c names → (Contains names name → ⊥) → HasBytes P a c name store
has-kept P None None None names name store has t not = tt
has-kept P None None (Some c) names name store has t not = absurd t
has-kept P None (Some b) c names name store has t not = absurd has
has-kept P (Some a) None c names name store has t not = absurd has
has-kept P (Some a) (Some b) None names name store has t not = absurd t
has-kept P (Some a) (Some b) (Some c) names name store has t not = subst (λ (now : Option (List ℕ)). P store (bytes_under a name) now) (sym (t name not)) has

pub had-before : (P : Standing) (a b c : Option Files) (names : List (List ℕ)) (name : List ℕ) (store : Stored)
    → TouchesOnly a b names → (Contains names name → ⊥) → HasBytes P b c name store → HasBytes P a c name store
had-before P None None None names name store t not has = tt
had-before P None None (Some c) names name store t not has = absurd has
had-before P None (Some b) c names name store t not has = absurd t
had-before P (Some a) None c names name store t not has = absurd t
had-before P (Some a) (Some b) None names name store t not has = absurd has
had-before P (Some a) (Some b) (Some c) names name store t not has = subst (λ (before : Option (List ℕ)). P store before (bytes_under c name)) (t name not) has
