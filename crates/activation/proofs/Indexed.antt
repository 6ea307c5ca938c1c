-- Links listed by node.
--     cleared, index_empty      empty lists are the index of no links
--     index_on      the next link is added to the list of its node
--     index_short      a list is no longer than the links are many
--     index_whole      the lists in their order
--     place_is      a link's place is how many links its list has before it
use Rattle.std.proofs.Common.{arith, ◌≡◌, ◌≤◌, ◌<◌, ◌+◌, ◌==◌, ℕ, zero, suc, cond, List, [], ◌∷◌, ◌++◌, length, map, filter, get_or, set, All, vec_capacity, refl, sym, ◌∙◌, ap, eq-eqb, ne_eqb, get_or-set_same, get_or-set_other, length-set}
use Rattle.std.specs.Global.{Vec}
use Rattle.std.proofs.lemmas.List.{append-nil, length-map, map-set}
use Rattle.std.proofs.lemmas.List.Elements.{filter-append}
use Rattle.std.proofs.lemmas.List.Sums.{length-filter, count_by-le-length}
use mathlib.Core.Logic.{dite}
use native.Mathlib.Decide.{ℕ_discrete}
use Rattle.session_laws.specs.jack_types.specs.declared.ports.Link.{Link}
use Rattle.session_laws.specs.session_model.specs.Activation.{link_at, place_among}
use Rattle.session_laws.specs.session_model.specs.Samples.{below}
use Rattle.session_laws.proofs.SequentialLemmas.{length-below}
use Rattle.activation.specs.Indexes.{IsIndex}
use Rattle.activation.proofs.Listed.{all_set, get_or-map, mapped_all}

at_map : {A C : Type 0} (f : A → C) (Q : C → Type 0) (xs : List A) (n : ℕ) (e : C) → n < length xs → ((d : A) → Q (f (get_or xs n d))) → Q (get_or (map f xs) n e)
at_map f Q [] n e low each = absurd (omega (arith, low))
at_map f Q (x ∷ xs) zero e low each = each x
at_map f Q (x ∷ xs) (suc n) e low each = at_map f Q xs n e (omega (arith, low)) each

abbrev items : Vec ℕ → List ℕ
items which = which.items

pub index_empty : (end : ℕ → ℕ) (all : List (Vec ℕ)) → All (λ (which : Vec ℕ). (which.items ≡ []) × (512 ≤ vec_capacity which)) all → IsIndex end 0 all
index_empty end all none = record {
  listed = λ n low. at_map items (λ l. l ≡ []) all n [] low (λ d. (none n d low).0);
  room = λ n d low. (none n d low).1;
}

next_filter : (end : ℕ → ℕ) (n p : ℕ) → filter (λ l. end l == n) (below (p + 1)) ≡ filter (λ l. end l == n) (below p) ++ cond (end p == n) (p ∷ []) []
next_filter end n p =
    let more : p + 1 ≡ suc p = omega arith in
    ap (λ q. filter (λ l. end l == n) (below q)) more ∙ filter-append (λ l. end l == n) (below p) (p ∷ [])

pub index_on : (end : ℕ → ℕ) (p : ℕ) (all : List (Vec ℕ)) (y d : Vec ℕ) → end p < length all → y.items ≡ (get_or all (end p) d).items ++ p ∷ [] → 512 ≤ vec_capacity y → IsIndex end p all → IsIndex end (p + 1) (set all (end p) y)
index_on end p all y d low put room is = record {
  listed = λ n low'. ap (λ l. get_or l n []) (map-set items all (end p) y) ∙ dite (ℕ_discrete n (end p))
      (λ e.
      ap (λ i. get_or (set (map items all) (end p) y.items) i []) e
      ∙ (get_or-set_same (map items all) (end p) y.items [] (omega (arith, low, length-map all items))
      ∙ (put
      ∙ (ap (λ l. l ++ p ∷ []) (sym (get_or-map items all (end p) d [] low) ∙ is.listed (end p) low)
      ∙ (ap (λ b. filter (λ l. end l == end p) (below p) ++ cond b (p ∷ []) []) (sym (eq-eqb (end p) (end p) refl))
      ∙ (sym (next_filter end (end p) p) ∙ ap (λ i. filter (λ l. end l == i) (below (p + 1))) (sym e)))))))
      (λ ne.
      let old : n < length all = omega (arith, low', length-set-same) in
      get_or-set_other (map items all) (end p) n y.items [] ne
      ∙ (is.listed n old
      ∙ (sym (append-nil (filter (λ l. end l == n) (below p)))
      ∙ (ap (λ b. filter (λ l. end l == n) (below p) ++ cond b (p ∷ []) []) (sym (ne_eqb (end p) n (λ e. ne (sym e)))) ∙ sym (next_filter end n p)))));
  room = all_set (λ (which : Vec ℕ). 512 ≤ vec_capacity which) all (end p) y is.room room;
}
  where
    length-set-same : length (set all (end p) y) ≡ length all
    length-set-same = length-set all (end p) y

pub index_at : (end : ℕ → ℕ) (p : ℕ) (all : List (Vec ℕ)) (n : ℕ) (d : Vec ℕ) → IsIndex end p all → n < length all → (get_or all n d).items ≡ filter (λ l. end l == n) (below p)
index_at end p all n d is low = sym (get_or-map items all n d [] low) ∙ is.listed n low

pub index_short : (end : ℕ → ℕ) (p : ℕ) (all : List (Vec ℕ)) (n : ℕ) (d : Vec ℕ) → IsIndex end p all → n < length all → length (get_or all n d).items ≤ p
index_short end p all n d is low = omega (arith, ap length (index_at end p all n d is low), length-filter (λ l. end l == n) (below p), count_by-le-length (λ l. end l == n) (below p), length-below p)

pub index_whole : (end : ℕ → ℕ) (p : ℕ) (all : List (Vec ℕ)) (nodes : ℕ) → length all ≡ nodes → IsIndex end p all → map items all ≡ map (λ n. filter (λ l. end l == n) (below p)) (below nodes)
index_whole end p all nodes long is = mapped_all items all (λ n. filter (λ l. end l == n) (below p)) nodes long (λ k low. is.listed k (omega (arith, low, long)))

pub place_is : (links : List Link) (p : ℕ) (out : List (Vec ℕ)) (d : Vec ℕ) → IsIndex (λ k. (link_at links k).from) p out → (link_at links p).from < length out → length (get_or out (link_at links p).from d).items ≡ place_among links p
place_is links p out d is low = ap length (index_at (λ k. (link_at links k).from) p out (link_at links p).from d is low) ∙ length-filter (λ l. (link_at links l).from == (link_at links p).from) (below p)

pub cleared : (all : List (Vec ℕ)) → All (λ (which : Vec ℕ). 512 ≤ vec_capacity which) all → ((k : ℕ) → k < length all → get_or (map items all) k [] ≡ []) → All (λ (which : Vec ℕ). (which.items ≡ []) × (512 ≤ vec_capacity which)) all
cleared all room none k d low = (sym (get_or-map items all k d [] low) ∙ none k low, room k d low)
