-- One link after another is listed with the node that it goes into, and counted at its source.
--     listed-none, listed-next      no links are listed, and the next link is
--     listed-short      a list is no longer than the links are many
--     counted-none, counted-next      no links are counted, and the next link is
--     places-next, place-at      the places of the links, in their order
use Rattle.std.proofs.Common.{arith, ◌≡◌, ◌≤◌, ◌<◌, ◌+◌, ◌==◌, ℕ, suc, cond, List, [], ◌∷◌, ◌++◌, length, map, filter, count_by, get_or, set, All, vec_capacity, refl, sym, ◌∙◌, ap, eq-eqb, ne_eqb, get_or-set_same, get_or-set_other, length-set, length-append}
use Rattle.std.specs.Global.{Vec}
use Rattle.std.proofs.lemmas.List.{append-nil}
use Rattle.std.proofs.lemmas.List.Elements.{filter-append}
use Rattle.std.proofs.lemmas.List.Sums.{length-filter, count_by-le-length}
use mathlib.Core.Logic.{dite}
use native.Mathlib.Decide.{ℕ_discrete}
use Rattle.jack_types.specs.declared.ports.Link.{Link}
use Rattle.session_model.specs.Activation.{link_at, place_among}
use Rattle.session_model.specs.Samples.{below}
use Rattle.steal_workers.specs.session_laws.proofs.SequentialLemmas.{length-below}
use Rattle.steal_workers.specs.session_laws.proofs.ActivationLemmas.{length-map_below, get_or-map_below}
use Rattle.client_benches.specs.activation.proofs.Listed.{all_set}
use Rattle.bench_crew.specs.Listings.{AreListed, AreCounted}

pub listed-none : (links : List Link) (into : List (Vec ℕ)) → All (λ (which : Vec ℕ). (which.items ≡ []) × (512 ≤ vec_capacity which)) into → AreListed links 0 into
listed-none links into none = record { listed = λ n d low. (none n d low).0; room = λ n d low. (none n d low).1 }

next_filter : (end : ℕ → ℕ) (n p : ℕ) → filter (λ l. end l == n) (below (p + 1)) ≡ filter (λ l. end l == n) (below p) ++ cond (end p == n) (p ∷ []) []
next_filter end n p =
    let more : p + 1 ≡ suc p = omega arith in
    ap (λ q. filter (λ l. end l == n) (below q)) more ∙ filter-append (λ l. end l == n) (below p) (p ∷ [])

pub listed-next : (links : List Link) (p : ℕ) (into : List (Vec ℕ)) (y d : Vec ℕ) → (link_at links p).to < length into → y.items ≡ (get_or into (link_at links p).to d).items ++ p ∷ [] → 512 ≤ vec_capacity y → AreListed links p into → AreListed links (p + 1) (set into (link_at links p).to y)
listed-next links p into y d low put room is = record {
  listed = λ n e low'. dite (ℕ_discrete n node)
      (λ same.
      ap (λ i. (get_or (set into node y) i e).items) same
      ∙ (ap (λ (v : Vec ℕ). v.items) (get_or-set_same into node y e low)
      ∙ (put
      ∙ (ap (λ l. l ++ p ∷ []) (is.listed node d low)
      ∙ (ap (λ b. filter (λ l. end l == node) (below p) ++ cond b (p ∷ []) []) (sym (eq-eqb node node refl))
      ∙ (sym (next_filter end node p) ∙ ap (λ i. filter (λ l. end l == i) (below (p + 1))) (sym same)))))))
      (λ other.
      let old : n < length into = omega (arith, low', length-set into node y) in
      ap (λ (v : Vec ℕ). v.items) (get_or-set_other into node n y e other)
      ∙ (is.listed n e old
      ∙ (sym (append-nil (filter (λ l. end l == n) (below p)))
      ∙ (ap (λ b. filter (λ l. end l == n) (below p) ++ cond b (p ∷ []) []) (sym (ne_eqb node n (λ e. other (sym e)))) ∙ sym (next_filter end n p)))));
  room = all_set (λ (which : Vec ℕ). 512 ≤ vec_capacity which) into node y is.room room;
}
  where
    end : ℕ → ℕ
    end l = (link_at links l).to

    node : ℕ
    node = (link_at links p).to

pub listed-short : (links : List Link) (p : ℕ) (into : List (Vec ℕ)) (n : ℕ) (d : Vec ℕ) → AreListed links p into → n < length into → length (get_or into n d).items ≤ p
listed-short links p into n d is low = omega (arith, ap length (is.listed n d low), length-filter (λ l. (link_at links l).to == n) (below p), count_by-le-length (λ l. (link_at links l).to == n) (below p), length-below p)

pub counted-none : (links : List Link) (counts : List ℕ) → ((n : ℕ) → n < length counts → get_or counts n 0 ≡ 0) → AreCounted links 0 counts
counted-none links counts none n low = none n low

next_count : (end : ℕ → ℕ) (n p : ℕ) → count_by (λ l. end l == n) (below (p + 1)) ≡ count_by (λ l. end l == n) (below p) + length (cond (end p == n) (p ∷ []) [])
next_count end n p =
    sym (length-filter (λ l. end l == n) (below (p + 1)))
    ∙ (ap length (next_filter end n p)
    ∙ (length-append (filter (λ l. end l == n) (below p)) (cond (end p == n) (p ∷ []) []) ∙ ap (λ k. k + length (cond (end p == n) (p ∷ []) [])) (length-filter (λ l. end l == n) (below p))))

pub counted-next : (links : List Link) (p : ℕ) (counts : List ℕ) (count : ℕ) → (link_at links p).from < length counts → count ≡ get_or counts (link_at links p).from 0 + 1 → AreCounted links p counts → AreCounted links (p + 1) (set counts (link_at links p).from count)
counted-next links p counts count low more is n low' = dite (ℕ_discrete n node)
    (λ same.
    ap (λ i. get_or (set counts node count) i 0) same
    ∙ (get_or-set_same counts node count 0 low
    ∙ (more
    ∙ (ap (λ k. k + 1) (is node low)
    ∙ (ap (λ b. count_by (λ l. end l == node) (below p) + length (cond b (p ∷ []) [])) (sym (eq-eqb node node refl))
    ∙ (sym (next_count end node p) ∙ ap (λ i. count_by (λ l. end l == i) (below (p + 1))) (sym same)))))))
    (λ other.
    let old : n < length counts = omega (arith, low', length-set counts node count) in
    let none : count_by (λ l. end l == n) (below p) ≡ count_by (λ l. end l == n) (below p) + 0 = omega arith in
    get_or-set_other counts node n count 0 other
    ∙ (is n old
    ∙ (none
    ∙ (ap (λ b. count_by (λ l. end l == n) (below p) + length (cond b (p ∷ []) [])) (sym (ne_eqb node n (λ e. other (sym e)))) ∙ sym (next_count end n p)))))
  where
    end : ℕ → ℕ
    end l = (link_at links l).from

    node : ℕ
    node = (link_at links p).from

map-snoc : {A C : Type 0} (f : A → C) (xs : List A) (x : A) → map f (xs ++ x ∷ []) ≡ map f xs ++ f x ∷ []
map-snoc f [] x = refl
map-snoc f (y ∷ ys) x = ap (λ l. f y ∷ l) (map-snoc f ys x)

pub places-next : (links : List Link) (p : ℕ) → map (place_among links) (below p) ++ place_among links p ∷ [] ≡ map (place_among links) (below (p + 1))
places-next links p = let next : suc p ≡ p + 1 = omega arith in sym (map-snoc (place_among links) (below p) p) ∙ ap (λ n. map (place_among links) (below n)) next

pub place-at : (links : List Link) (places : List ℕ) (count l d : ℕ) → places ≡ map (place_among links) (below count) → l < count → (l < length places) × (get_or places l d ≡ place_among links l)
place-at links places count l d are low = (omega (arith, low, ap length are, length-map_below (place_among links) count), ap (λ ps. get_or ps l d) are ∙ get_or-map_below (place_among links) count l d low)
