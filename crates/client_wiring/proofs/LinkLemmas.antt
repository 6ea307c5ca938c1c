-- Where a link stands among those into its node.
--     link_place-counted      behind those before it that come into the node
use Rattle.std.proofs.Common.{◌≡◌, ℕ, suc, ◌+◌, Bool, true, false, cond, not, ◌&&◌, ◌==◌, List, [], ◌∷◌, length, filter, take, count_by, refl, sym, ◌∙◌, ap, ap₂, arith, eq-eqb, eqb-true}
use Rattle.std.specs.List.{position_or_len}
use Rattle.jack_types.specs.declared.ports.Link.{Link}
use Rattle.session_model.specs.Activation.{incoming, link_at, no_link}
use Rattle.session_model.specs.Benches.{link_place}
use Rattle.session_model.specs.Samples.{below}
use Rattle.cycle_plan.specs.session_laws.proofs.FilterLemmas.{count-cons, map-filter_after}
use Rattle.cycle_plan.specs.Layouts.{same_link}
use Rattle.cycle_plan.proofs.NetworkLemmas.{bool-same}
use Rattle.client_wiring.specs.Tables.{is_into, link_numbered}
use Rattle.client_wiring.proofs.ListLemmas.{from_places, place-map}

eqb-turned : (a b : ℕ) → (a == b) ≡ (b == a)
eqb-turned a b = bool-same (a == b) (b == a) (λ t. eq-eqb b a (sym (eqb-true a b t))) (λ t. eq-eqb a b (sym (eqb-true b a t)))

pub link_place-counted : (links : List Link) (from to : ℕ) → link_place links from to ≡ count_by (is_into to) (take (position_or_len (same_link (link_numbered from to)) links) links)
link_place-counted links from to = by_links ∙ counted links
  where
    comes_from : Link → Bool
    comes_from link = link.from == from

    goes_to : Link → Bool
    goes_to link = link.to == to

    place : List Link → ℕ
    place ls = position_or_len (same_link (link_numbered from to)) ls

    by_links : link_place links from to ≡ position_or_len comes_from (filter goes_to links)
    by_links =
        sym (place-map comes_from (link_at links) (incoming links to))
        ∙ ap (position_or_len comes_from) (map-filter_after (link_at links) goes_to (below (length links)) ∙ ap (filter goes_to) (from_places links no_link))

    counted : (ls : List Link) → position_or_len comes_from (filter goes_to ls) ≡ count_by (is_into to) (take (place ls) ls)
    counted [] = refl
    counted (l ∷ ls) =
        go (l.to == to) (l.from == from) refl refl (counted ls)
        ∙ ap₂ (λ a b. count_by (is_into to) (take (cond (not (a && b)) (1 + place ls) 0) (l ∷ ls))) (eqb-turned l.from from) (eqb-turned l.to to)
      where
        next : 1 + place ls ≡ suc (place ls)
        next = omega arith

        none : count_by (is_into to) (take (place ls) ls) ≡ 0 + count_by (is_into to) (take (place ls) ls)
        none = omega arith

        behind : (b : Bool) → (l.to == to) ≡ b → count_by (is_into to) (take (1 + place ls) (l ∷ ls)) ≡ cond b 1 0 + count_by (is_into to) (take (place ls) ls)
        behind b e =
            ap (λ n. count_by (is_into to) (take n (l ∷ ls))) next
            ∙ count-cons (is_into to) l (take (place ls) ls)
            ∙ ap (λ c. cond c 1 0 + count_by (is_into to) (take (place ls) ls)) e

        go : (a b : Bool) → (l.to == to) ≡ a → (l.from == from) ≡ b → position_or_len comes_from (filter goes_to ls) ≡ count_by (is_into to) (take (place ls) ls)
            → position_or_len comes_from (cond a (l ∷ filter goes_to ls) (filter goes_to ls)) ≡ count_by (is_into to) (take (cond (not (b && a)) (1 + place ls) 0) (l ∷ ls))
        go true true e f rest = ap (λ c. cond (not c) (1 + position_or_len comes_from (filter goes_to ls)) 0) f
        go true false e f rest = ap (λ c. cond (not c) (1 + position_or_len comes_from (filter goes_to ls)) 0) f ∙ ap (λ n. 1 + n) rest ∙ sym (behind true e)
        go false true e f rest = rest ∙ none ∙ sym (behind false e)
        go false false e f rest = rest ∙ none ∙ sym (behind false e)
