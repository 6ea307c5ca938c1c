-- Texts of which a first part was put, and the rest waits.
use Rattle.std.proofs.Common.{◌≡◌, ℕ, ◌+◌, ◌<◌, ◌≤◌, List, ◌++◌, length, flat_map, take, drop, take-append-drop, get_or, Option, sym, ◌∙◌, ap, subst, append_assoc}
use Rattle.std.specs.Prelude.{Result, Ok, Err, OnErr}
use Rattle.std.specs.Result.{IsErr}
use Rattle.std.proofs.lemmas.List.{take_all}
use Rattle.std.proofs.lemmas.List.Concat.{flat_map-append}
use Rattle.jack_host.specs.Bytes.{Puts}
use Rattle.report_lines.specs.Inside.{IsGathered}
use Rattle.report_lines.proofs.PutLemmas.{gains_more, puts_cut, puts_last, text-next}

-- a line came behind what waits
pub gathered_more : (a b c : Option (List ℕ)) (waiting left text line : List ℕ) → IsGathered a b waiting text → IsGathered b c left (waiting ++ line) → IsGathered a c left (text ++ line)
gathered_more a b c waiting left text line before now = record {
  gone = before.gone ++ now.gone;
  gained = gains_more a b c before.gone now.gone before.gained now.gained;
  whole = append_assoc before.gone now.gone left ∙ ap (λ (t : List ℕ). before.gone ++ t) now.whole ∙ sym (append_assoc before.gone waiting line) ∙ ap (λ (t : List ℕ). t ++ line) before.whole;
}

-- one item more of a list
pub item_gathered : {X : Type 0} (text : X → List ℕ) (xs : List X) (i : ℕ) (x : X) (line : List ℕ) (a b c : Option (List ℕ)) (waiting left : List ℕ) → i < length xs → x ≡ get_or xs i x → line ≡ text x
    → IsGathered a b waiting (flat_map text (take i xs)) → IsGathered b c left (waiting ++ line) → IsGathered a c left (flat_map text (take (i + 1) xs))
item_gathered {X} text xs i x line a b c waiting left lt at is before now =
    let so_far : List ℕ = flat_map text (take i xs) in
    subst (λ (t : List ℕ). IsGathered a c left t) (ap (λ (t : List ℕ). so_far ++ t) (is ∙ ap text at) ∙ sym (text-next text xs i x lt)) (gathered_more a b c waiting left so_far line before now)

-- the put of what waits failed before the list's end
pub waiting_cut : {X T E U F : Type 0} (text : X → List ℕ) (xs : List X) (i : ℕ) (whole waiting : List ℕ) (r : Result T E) (answer : Result U F) (a b c : Option (List ℕ))
    → whole ≡ flat_map text xs → IsGathered a b waiting (flat_map text (take i xs)) → OnErr r (Puts b c r waiting) → (failed : E) → r ≡ Err failed → IsErr answer → Puts a c answer whole
waiting_cut text xs i whole waiting (Err e) answer a b c is before now failed same told =
    let rest : List ℕ = flat_map text (drop i xs) in
    let parts : flat_map text xs ≡ flat_map text (take i xs) ++ rest = sym (ap (flat_map text) (take-append-drop i xs)) ∙ flat_map-append text (take i xs) (drop i xs) in
    let sides : before.gone ++ (waiting ++ rest) ≡ whole = sym (append_assoc before.gone waiting rest) ∙ ap (λ (t : List ℕ). t ++ rest) before.whole ∙ sym parts ∙ sym is in
    subst (λ (t : List ℕ). Puts a c answer t) sides (puts_cut (Err e) answer a b c before.gone waiting rest before.gained now failed same told)
waiting_cut text xs i whole waiting (Ok v) answer a b c is before now failed same told = cc

-- what waits at the list's end is put
pub waiting_put : {X T E : Type 0} (text : X → List ℕ) (xs : List X) (i : ℕ) (whole waiting piece : List ℕ) (r : Result T E) (a b c : Option (List ℕ))
    → length xs ≤ i → whole ≡ flat_map text xs → IsGathered a b waiting (flat_map text (take i xs)) → piece ≡ waiting → Puts b c r piece → Puts a c r whole
waiting_put text xs i whole waiting piece r a b c past is before same now =
    subst (λ (t : List ℕ). Puts a c r t) (ap (λ (t : List ℕ). before.gone ++ t) same ∙ before.whole ∙ ap (flat_map text) (take_all i xs past) ∙ sym is) (puts_last r a b c before.gone piece before.gained now)
