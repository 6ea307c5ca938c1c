-- A node has fewer outgoing links than there are nodes.
use Rattle.std.proofs.Common.{◌≡◌, ◌≢◌, ℕ, ◌<◌, ◌≤◌, true, false, ◌==◌, List, length, map, get_or, sym, ◌∙◌, ap, arith, eqb-true, ne_eqb}
use Rattle.std.specs.List.{list_any}
use Rattle.std.proofs.Math.Dec.{eqb}
use Rattle.std.proofs.lemmas.List.{length-map}
use Rattle.std.proofs.lemmas.List.Folds.{Any-from_list_any}
use Rattle.std.proofs.lemmas.Map.Keys.{IsDistinct-from_apart}
use Rattle.std.proofs.lemmas.Map.Steps.{length-le_from_distinct_below}
use Rattle.session_laws.specs.jack_types.specs.declared.ports.Link.{Link}
use Rattle.session_laws.specs.session_model.specs.Activation.{AreLinks, no_link, link_at, outgoing, place_among}
use Rattle.session_laws.specs.session_model.specs.Samples.{below}
use Rattle.session_laws.proofs.ListLemmas.{Ordered-filter}
use Rattle.session_laws.proofs.SequentialLemmas.{outgoing_at}
use Rattle.activation.proofs.Listed.{each_at, get_or-map, ordered-below, ordered-at, outgoing-facts}

few_out : (nodes : ℕ) (links : List Link) (n : ℕ) → AreLinks nodes links → length (outgoing links n) ≤ nodes
few_out nodes links n are =
    let ks : List ℕ = outgoing links n in
    let to : ℕ → ℕ = λ k. (link_at links k).to in
    let fact : (i : ℕ) → i < length ks → (get_or ks i 0 < length links) × ((link_at links (get_or ks i 0)).from ≡ n) = λ i low. each_at (λ l. (l < length links) × ((link_at links l).from ≡ n)) ks (outgoing-facts links n) i 0 low in
    let rises = ordered-at ks (Ordered-filter (λ a b. a < b) (λ l. (link_at links l).from == n) (below (length links)) (ordered-below (length links))) in
    let apart : (i j : ℕ) (d : ℕ) → i < j → j < length (map to ks) → eqb (get_or (map to ks) i d) (get_or (map to ks) j d) ≡ false = λ i j d lt low.
    let low' : j < length ks = omega (arith, low, length-map ks to) in
    let low'' : i < length ks = omega (arith, lt, low') in
    let a = fact i low'' in
    let b = fact j low' in
    let ne : to (get_or ks i 0) ≢ to (get_or ks j 0) = λ e. are.distinct (get_or ks i 0) (get_or ks j 0) no_link (rises i j lt low') b.0 (λ z. record { from = (a.1 ∙ sym b.1) z; to = e z }) in
    ap (λ x. eqb x (get_or (map to ks) j d)) (get_or-map to ks i 0 d low'') ∙ (ap (eqb (to (get_or ks i 0))) (get_or-map to ks j 0 d low') ∙ ne_eqb (to (get_or ks i 0)) (to (get_or ks j 0)) ne) in
    let within : (q : ℕ) → list_any (eqb q) (map to ks) ≡ true → q < nodes = λ q h.
    let any = Any-from_list_any (eqb q) (map to ks) h in
    let low : any.0 < length ks = omega (arith, any.2, length-map ks to) in
    let is : q ≡ to (get_or ks any.0 0) = eqb-true q any.1 any.4 ∙ (sym any.3 ∙ get_or-map to ks any.0 0 any.1 low) in
    let top : to (get_or ks any.0 0) < nodes = are.within (get_or ks any.0 0) no_link (fact any.0 low).0 in
    omega (arith, is, top) in
    omega (arith, length-le_from_distinct_below (map to ks) nodes (IsDistinct-from_apart eqb (map to ks) apart) within, length-map ks to)

pub low_place : (nodes : ℕ) (links : List Link) (l : ℕ) → AreLinks nodes links → l < length links → place_among links l < nodes
low_place nodes links l are low = omega (arith, few_out nodes links (link_at links l).from are, (outgoing_at links l 0 low).0)
