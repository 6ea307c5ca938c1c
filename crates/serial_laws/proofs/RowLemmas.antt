-- Rows and fronts of what is published.
--     last_row-counted      rows of the cycles from 1 on end with the cycle of their number
--     front-of_front      a front of a front is one of the whole
--     accepted-front      what a front of a history accepts is a front of what the whole accepts
--     HaveMet-later      what both ends know of each other rests on no bound of theirs
use Rattle.std.proofs.Common.{◌≡◌, ℕ, zero, suc, ◌+◌, List, [], ◌∷◌, ◌++◌, length, map, take, drop, refl, sym, ◌∙◌, ap, subst, arith, take-append-drop, take_at}
use Rattle.std.proofs.lemmas.List.{map-append}
use Rattle.std.proofs.lemmas.List.Elements.{filter_map-append}
use Rattle.jack_types.specs.declared.commands.Change.{Change}
use Rattle.jack_types.specs.declared.replies.Entry.{Entry}
use Rattle.session_model.specs.Histories.{accepted, change_of}
use Rattle.session_model.specs.Samples.{below}
use Rattle.graph_word.specs.declared.view.TakenRow.{TakenRow}
use Rattle.graph_word.specs.Publications.{HaveMet, IsFront, Publishing, Reading, last_row}
use Rattle.graph_word.proofs.Fronts.{front_longer}

-- the last of these numbers, 0 of none
abbrev last_of : List ℕ → ℕ
last_of [] = 0
last_of (n ∷ []) = n
last_of (n ∷ m ∷ ns) = last_of (m ∷ ns)

last-mapped : (rows : List TakenRow) → last_row rows ≡ last_of (map (λ (row : TakenRow). row.cycle) rows)
last-mapped [] = refl
last-mapped (row ∷ []) = refl
last-mapped (row ∷ next ∷ rows) = last-mapped (next ∷ rows)

last-added : (ns : List ℕ) (n : ℕ) → last_of (ns ++ n ∷ []) ≡ n
last-added [] n = refl
last-added (m ∷ []) n = refl
last-added (m ∷ k ∷ ns) n = last-added (k ∷ ns) n

last-below : (n : ℕ) → last_of (map (λ i. i + 1) (below n)) ≡ n
last-below zero = refl
last-below (suc n) =
    ap last_of (map-append (λ (i : ℕ). i + 1) (below n) (n ∷ [])) ∙ last-added (map (λ i. i + 1) (below n)) (n + 1)
    ∙ (let next : n + 1 ≡ suc n = omega arith in next)

pub last_row-counted : (rows : List TakenRow) (n : ℕ) → map (λ (row : TakenRow). row.cycle) rows ≡ map (λ i. i + 1) (below n) → last_row rows ≡ n
last_row-counted rows n cycles = last-mapped rows ∙ ap last_of cycles ∙ last-below n

-- a front of a list is one of the list and more
front-parts : (front whole : List Change) → IsFront front whole → whole ≡ front ++ drop (length front) whole
front-parts front whole is = sym (take-append-drop (length front) whole) ∙ ap (λ (cs : List Change). cs ++ drop (length front) whole) (sym is)

pub front-of_front : (front middle whole : List Change) → IsFront front middle → IsFront middle whole → IsFront front whole
front-of_front front middle whole first second =
    subst (λ (cs : List Change). IsFront front cs) (sym (front-parts middle whole second)) (front_longer front middle (drop (length middle) whole) first)

pub accepted-front : (front whole : List Entry) → front ≡ take (length front) whole → IsFront (accepted front) (accepted whole)
accepted-front front whole is =
    let more : List Entry = drop (length front) whole in
    let parts : whole ≡ front ++ more = sym (take-append-drop (length front) whole) ∙ ap (λ (es : List Entry). es ++ more) (sym is) in
    let both : accepted whole ≡ accepted front ++ accepted more = ap accepted parts ∙ filter_map-append change_of front more in
    sym (ap (take (length (accepted front))) both ∙ take_at (accepted front) (accepted more) (length (accepted front)) refl)

-- what both ends know of each other rests on no bound of theirs
pub HaveMet-later : (publisher : Publishing) (reader : Reading) (seen taken : ℕ) → HaveMet publisher reader → HaveMet (record publisher { least = seen }) (record reader { least = taken })
HaveMet-later publisher reader seen taken met = record {
  one = met.one;
  same_base = met.same_base;
  reads = met.reads;
  held = met.held;
  rows = met.rows;
  seen = met.seen;
  bounded = met.bounded;
}
