-- Files that are made one after the other.
--     begun-fronts      each store of a session that is attaching has the header of its place
--     HaveMade files now names old parts      the files of these names were made and attached
--     made-none, made-more      none, and one more
--     made-count, made-all      how many there are
--     made-fronts, made-touches      what their stores hold, and which names were touched
--     IsUnmade ..      what stands where the next was not made, or failed when it was attached
--     left-out, left-empties, left-fronts, left-cause, left-rest      what is left then
use Rattle.std.proofs.Common.{◌≡◌, ℕ, zero, suc, ◌+◌, ◌<◌, ◌≤◌, List, [], ◌∷◌, ◌++◌, length, map, filter_map, take, slice_get, Option, Some, None, Ok, Err, inl, inr, ◌⊎◌, refl, sym, ◌∙◌, ap, subst, arith, append-nil, length-append, length-take-le, take_all}
use Rattle.std.proofs.Math.Seq.{take-length}
use Rattle.std.proofs.lemmas.Bool.{cases_lt}
use Rattle.std.proofs.lemmas.Option.{get_or_from_slice_get, none-some, same_Some, slice_get_within}
use Rattle.std.specs.Prelude.{IfSome, OnErr, OnOk, Result, slice_index_or}
use Rattle.jack_types.specs.Recorders.{no_format}
use Rattle.jack_types.specs.declared.files.Format.{Format}
use Rattle.jack_host.specs.Causes.{Rose}
use Rattle.jack_host.specs.Files.{Makes, SameFiles}
use Rattle.session_run.specs.Seen.{Gear, playback_format, Parts, stores_in}
use Rattle.recorder_files.specs.Recorders.{Recording, Stored, held_in, held_or, stored_of}
use Rattle.run_laws.proofs.PlaceLemmas.{mapped_there}
use Rattle.session_laws.proofs.ListLemmas.{slice_get-map}
use Rattle.session_model.specs.Samples.{bytes_of as sample_bytes}
use Rattle.session_model.specs.WaveFiles.{opening_text}
use Rattle.session_model.specs.Kinds.{Sound}
use Rattle.client_kinds.specs.Scores.{Score}
use Rattle.session_run.specs.Standings.{IsAttaching, IsBegun, format_at, format_next}
use Rattle.driver_words.specs.Tapes.{IsCut, Tape}
use Rattle.jack_control.specs.Files.{AreFronts, AreOut, Empties, IsOut, KeepsRest, MakesOne, OneFailed}
use Rattle.play_inputs.specs.Inputs.{Files}
use Rattle.jack_control.specs.Plays.{TouchesOnly}
use Rattle.jack_control.proofs.FileLemmas.{empties-made, empties-none, empties_same, out-kept, out_same, touches-after, touches-made, touches-more, touches-wider, touches_none, touches_same}
use Rattle.jack_control.proofs.NameLemmas.{Contains-front, last_or}

pub on_ok : {T E P : Type 0} → (r : Result T E) → P → OnOk r P
on_ok (Ok x) p = p
on_ok (Err x) p = tt

pub on_err : {T E P : Type 0} → (r : Result T E) → P → OnErr r P
on_err (Ok x) p = tt
on_err (Err x) p = p

-- ---- what a session's stores hold

-- behind a place without a store there is none
abbrev pub HasNoGap : List (Option Stored) → Type 0
HasNoGap places = (k j : ℕ) (held : Option Stored) → slice_get places k ≡ Some None → k ≤ j → slice_get places j ≡ Some held → held ≡ None

later-gap : (x : Option Stored) (places : List (Option Stored)) → HasNoGap (x ∷ places) → HasNoGap places
later-gap x places gap k j held none low there = gap (suc k) (suc j) held none (omega (arith, low)) there

at_place : (places : List (Option Stored)) → HasNoGap places → (i : ℕ) (store : Stored) → slice_get (filter_map (λ (held : Option Stored). held) places) i ≡ Some store → slice_get places i ≡ Some (Some store)
at_place [] gap i store h = absurd (none-some store h)
at_place (None ∷ places) gap i store h = absurd (none-some store (sym (gap zero (suc i) (Some store) refl (omega arith) (at_place places (later-gap None places gap) i store h))))
at_place (Some first ∷ places) gap zero store h = ap (λ s. Some (Some s)) (same_Some first store h)
at_place (Some first ∷ places) gap (suc i) store h = at_place places (later-gap (Some first) places gap) i store h

begun-cut : (format own : Format) (told : Option (List ℕ)) → own ≡ format → IfSome told (λ bytes. bytes ≡ opening_text own ++ sample_bytes own.bits []) → IfSome told (IsCut format)
begun-cut format own None e h = tt
begun-cut format own (Some bytes) e h =
    let whole : bytes ≡ opening_text format = h ∙ append-nil (opening_text own) ∙ ap opening_text e in
    subst (λ (xs : List ℕ). xs ≡ take (length xs) (opening_text format)) (sym whole) (sym (take-length (opening_text format)))

module _ (sounding : Score → Sound) (parts : Parts) (is : IsAttaching sounding parts) where
  abbrev places : List (Option Stored)
  places = held_or parts.playback parts.gear.playback ∷ map held_in parts.recorders

  abbrev Begun : ℕ → Option Stored → Type 0
  Begun k held = (tape : Tape) × (held ≡ Some (stored_of tape)) × IsBegun (format_at k parts) tape

  format-at : (i : ℕ) (r : Recording) → slice_get parts.recorders i ≡ Some r → r.format ≡ format_at (suc i) parts
  format-at i r here =
      sym (get_or_from_slice_get (map (λ (q : Recording). q.format) parts.recorders) i r.format no_format (mapped_there (λ (q : Recording). q.format) parts.recorders i r here))
      ∙ ap (λ (formats : List Format). slice_index_or formats i no_format) is.formats

  no-store : (i : ℕ) (r : Recording) → slice_get parts.recorders i ≡ Some r → r.store ≡ None
  no-store i r here = subst (λ (x : Recording). x.store ≡ None) (get_or_from_slice_get parts.recorders i r r here) (is.no_stores i r (slice_get_within parts.recorders i r here))

  begun-at : (k : ℕ) (held : Option Stored) → slice_get places k ≡ Some held → k < parts.attached → Begun k held
  begun-at zero held there low =
      let file = is.playback.begun low in
      (file.0, sym (same_Some (held_or parts.playback parts.gear.playback) held there) ∙ ap (λ (o : Option Tape). held_or parts.playback o) file.1, file.2)
  begun-at (suc i) held there low =
      let r = slice_get-map held_in parts.recorders i held there in
      let file = (is.records i r.0 r.1).begun low in
      (file.0, sym r.2 ∙ ap (λ (o : Option Tape). held_or r.0.store o) file.1, subst (λ (f : Format). IsBegun f file.0) (format-at i r.0 r.1) file.2)

  none-at : (k : ℕ) (held : Option Stored) → slice_get places k ≡ Some held → parts.attached ≤ k → held ≡ None
  none-at zero held there high =
      sym (same_Some (held_or parts.playback parts.gear.playback) held there) ∙ ap (λ (o : Option Stored). held_or o parts.gear.playback) is.no_playback ∙ ap (λ (o : Option Tape). held_or None o) (is.playback.none high)
  none-at (suc i) held there high =
      let r = slice_get-map held_in parts.recorders i held there in
      sym r.2 ∙ ap (λ (o : Option Stored). held_or o r.0.tape) (no-store i r.0 r.1) ∙ ap (λ (o : Option Tape). held_or None o) ((is.records i r.0 r.1).none high)

  no-gap : HasNoGap places
  no-gap k j held none low there = go (cases_lt k parts.attached)
    where
      go : (k < parts.attached) ⊎ (parts.attached ≤ k) → held ≡ None
      go (inl below) = absurd (none-some _ (begun-at k None none below).1)
      go (inr high) = none-at j held there (omega (arith, high, low))

  pub begun-fronts : AreFronts parts (stores_in parts)
  begun-fronts i store there = go (cases_lt i parts.attached)
    where
      here : slice_get places i ≡ Some (Some store)
      here = at_place places no-gap i store there

      go : (i < parts.attached) ⊎ (parts.attached ≤ i) → IfSome store.bytes (IsCut (format_at i parts))
      go (inl low) =
          let file = begun-at i (Some store) here low in
          subst (λ (s : Stored). IfSome s.bytes (IsCut (format_at i parts))) (sym (same_Some store (stored_of file.0) file.1)) (begun-cut (format_at i parts) file.0.format file.0.bytes file.2.format_is file.2.samples.bytes)
      go (inr high) = absurd (none-some store (sym (none-at i (Some store) here high)))

-- ---- stores that are out

pub out-more : (a b : Option Files) (names : List (List ℕ)) (name : List ℕ) (stores : List Stored) (back : Stored) → AreOut a names stores → Makes a b name → IsOut b name back
    → AreOut b (names ++ name ∷ []) (stores ++ back ∷ [])
out-more a b names name stores back are makes is = record {
  as_many = length-append stores (back ∷ []) ∙ ap (λ n. n + 1) are.as_many ∙ sym (length-append names (name ∷ []));
  each = λ i own store n s. go i own store (last_or names name i own n) (last_or stores back i store s);
}
  where
    go : (i : ℕ) (own : List ℕ) (store : Stored) → (slice_get names i ≡ Some own) ⊎ ((i ≡ length names) × (name ≡ own)) → (slice_get stores i ≡ Some store) ⊎ ((i ≡ length stores) × (back ≡ store)) → IsOut b own store
    go i own store (inl n) (inl s) = out-kept a b own store name (are.each i own store n s) makes
    go i own store (inl n) (inr s) = let low = slice_get_within names i own n in let at = s.0 in let many = are.as_many in absurd (omega (arith, low, at, many))
    go i own store (inr n) (inl s) = let low = slice_get_within stores i store s in let at = n.0 in let many = are.as_many in absurd (omega (arith, low, at, many))
    go i own store (inr n) (inr s) = subst (λ (x : List ℕ). IsOut b x store) n.1 (subst (λ (x : Stored). IsOut b name x) s.1 is)

pub all_same : (a b : Option Files) (names : List (List ℕ)) (stores : List Stored) → AreOut a names stores → SameFiles a b → AreOut b names stores
all_same a b names stores are same = record { as_many = are.as_many; each = λ i name store n s. out_same a b name store (are.each i name store n s) same }

-- ---- files that were made

pub rest-then : (old parts after : Parts) → KeepsRest old parts → KeepsRest parts after → KeepsRest old after
rest-then old parts after first second = record {
  desk = second.desk ∙ first.desk;
  gear = second.gear ∙ ap (λ (g : Gear). record g { playback = after.gear.playback }) first.gear;
  as_many = second.as_many ∙ first.as_many;
  players = second.players ∙ first.players;
}

pub record HaveMade (sounding : Score → Sound) (files now : Option Files) (names : List (List ℕ)) (old parts : Parts) : Type 0 where
  pub attaching : IsAttaching sounding parts
  pub attached : parts.attached ≡ length names
  pub out : AreOut now names (stores_in parts)
  pub others : TouchesOnly files now names
  pub empties : Empties files now
  pub rest : KeepsRest old parts

pub made-none : (sounding : Score → Sound) (files : Option Files) (old : Parts) → IsAttaching sounding old → old.attached ≡ 0 → stores_in old ≡ [] → HaveMade sounding files files [] old old
made-none sounding files old is first none = record {
  attaching = is;
  attached = first;
  out = record { as_many = ap (λ stores. length stores) none; each = λ i name store n s. absurd (none-some name n) };
  others = touches_none files [];
  empties = empties-none files;
  rest = record { desk = refl; gear = refl; as_many = refl; players = refl };
}

pub made-more : (sounding : Score → Sound) (files a b : Option Files) (names : List (List ℕ)) (name : List ℕ) (old parts after : Parts) → HaveMade sounding files a names old parts
    → IsAttaching sounding after → after.attached ≡ suc parts.attached → MakesOne a b name parts after → KeepsRest parts after → HaveMade sounding files b (names ++ name ∷ []) old after
made-more sounding files a b names name old parts after made is more one rest = record {
  attaching = is;
  attached = more ∙ ap suc made.attached ∙ (let long = length-append names (name ∷ []) in omega (arith, long));
  out = subst (AreOut b (names ++ name ∷ [])) (sym one.stores) (out-more a b names name (stores_in parts) one.back made.out one.made one.out);
  others = touches-more files a b names name made.others (touches-made a b name one.made);
  empties = empties-made files a b name made.empties one.made;
  rest = rest-then old parts after made.rest rest;
}

format_same : (old parts : Parts) → KeepsRest old parts → (i : ℕ) → format_at i parts ≡ format_at i old
format_same old parts rest zero = ap (λ (g : Gear). playback_format g.script) rest.gear
format_same old parts rest (suc i) = ap (λ (g : Gear). slice_index_or g.script.header.recorders i no_format) rest.gear

pub made-fronts : (sounding : Score → Sound) (files now : Option Files) (names : List (List ℕ)) (old parts : Parts) → HaveMade sounding files now names old parts → AreFronts old (stores_in parts)
made-fronts sounding files now names old parts made i store there = subst (λ (f : Format). IfSome store.bytes (IsCut f)) (format_same old parts made.rest i) (begun-fronts sounding parts made.attaching i store there)

pub made-touches : (files now : Option Files) (n : ℕ) (names : List (List ℕ)) → TouchesOnly files now (take n names) → TouchesOnly files now names
made-touches files now n names t = touches-wider files now (take n names) names (Contains-front n names) t

pub made-count : (sounding : Score → Sound) (files now : Option Files) (n : ℕ) (names : List (List ℕ)) (old parts : Parts) → HaveMade sounding files now (take n names) old parts → n ≤ length names → parts.attached ≡ n
made-count sounding files now n names old parts made few = made.attached ∙ length-take-le n names few

pub made-all : (names : List (List ℕ)) (n : ℕ) → n ≡ length names → take n names ≡ names
made-all names n e = take_all n names (omega (arith, e))

-- ---- where the next was not made, or failed when it was attached

abbrev pub IsUnmade : Option Files → Option Files → List ℕ → Parts → Parts → ℕ → ℕ → Type 0
IsUnmade a b name parts after before faults =
    (SameFiles a b × (after ≡ parts) × Rose before faults) ⊎ ((one : MakesOne a b name parts after) × (1 ≤ one.back.faults) × IfSome one.back.bytes (IsCut (format_next parts)))

module _ (sounding : Score → Sound) (files a b : Option Files) (names : List (List ℕ)) (name : List ℕ) (old parts after : Parts) (before faults : ℕ) (made : HaveMade sounding files a names old parts) where
  -- so many of all names were made
  pub left-out : (all : List (List ℕ)) (n : ℕ) → take n all ≡ names → take (suc n) all ≡ names ++ name ∷ [] → IsUnmade a b name parts after before faults
      → (m : ℕ) × AreOut b (take m all) (stores_in after) × TouchesOnly files b (take m all)
  left-out all n are more (inl same) = (
    n,
    subst (λ (xs : List (List ℕ)). AreOut b xs (stores_in after)) (sym are) (subst (λ (p : Parts). AreOut b names (stores_in p)) (sym same.1) (all_same a b names (stores_in parts) made.out same.0)),
    subst (TouchesOnly files b) (sym are) (touches-after files a b names made.others (touches_same a b names same.0)),
  )
  left-out all n are more (inr made_one) =
      let one = made_one.0 in (
        suc n,
        subst (λ (xs : List (List ℕ)). AreOut b xs (stores_in after)) (sym more) (subst (AreOut b (names ++ name ∷ [])) (sym one.stores) (out-more a b names name (stores_in parts) one.back made.out one.made one.out)),
        subst (TouchesOnly files b) (sym more) (touches-more files a b names name made.others (touches-made a b name one.made)),
      )

  pub left-empties : IsUnmade a b name parts after before faults → Empties files b
  left-empties (inl same) = empties_same files a b made.empties same.0
  left-empties (inr made_one) = empties-made files a b name made.empties made_one.0.made

  last-front : (back : Stored) → IfSome back.bytes (IsCut (format_next parts)) → AreFronts old (stores_in parts ++ back ∷ [])
  last-front back cut i store there = go (last_or (stores_in parts) back i store there)
    where
      go : (slice_get (stores_in parts) i ≡ Some store) ⊎ ((i ≡ length (stores_in parts)) × (back ≡ store)) → IfSome store.bytes (IsCut (format_at i old))
      go (inl here) = made-fronts sounding files a names old parts made i store here
      go (inr last) =
          let place : i ≡ parts.attached = last.0 ∙ made.out.as_many ∙ sym made.attached in
          subst (λ (s : Stored). IfSome s.bytes (IsCut (format_at i old))) last.1
          (subst (λ (f : Format). IfSome back.bytes (IsCut f)) (ap (λ k. format_at k parts) (sym place) ∙ format_same old parts made.rest i) cut)

  pub left-fronts : IsUnmade a b name parts after before faults → AreFronts old (stores_in after)
  left-fronts (inl same) = subst (λ (p : Parts). AreFronts old (stores_in p)) (sym same.1) (made-fronts sounding files a names old parts made)
  left-fronts (inr made_one) = subst (AreFronts old) (sym made_one.0.stores) (last-front made_one.0.back made_one.2)

  last-there : (stores : List Stored) (back : Stored) → slice_get (stores ++ back ∷ []) (length stores) ≡ Some back
  last-there [] back = refl
  last-there (s ∷ stores) back = last-there stores back

  pub left-cause : (start : ℕ) → start ≤ before → IsUnmade a b name parts after before faults → Rose start faults ⊎ OneFailed (stores_in after)
  left-cause start low (inl same) = let rose = same.2 in inl (omega (arith, low, rose))
  left-cause start low (inr made_one) =
      let back = made_one.0.back in
      inr (length (stores_in parts), back, ap (λ (stores : List Stored). slice_get stores (length (stores_in parts))) made_one.0.stores ∙ last-there (stores_in parts) back, made_one.1)

  pub left-rest : KeepsRest parts after → KeepsRest old after
  left-rest rest = rest-then old parts after made.rest rest
