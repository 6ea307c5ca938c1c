use Rattle.std.proofs.Common.{◌≡◌, ℕ, ◌<◌, ◌≤◌, ◌∙◌, Option, None, Some, not, ap, get_or, set, subst, sym, arith, length}
use Rattle.std.specs.Option.{is_some}
use Rattle.std.proofs.lemmas.List.{get_or-replicate, length-replicate, length-set}
use Rattle.graph_word.specs.jack_types.specs.declared.ports.Client.{Client}
use Rattle.cycle_plan.specs.Searching.{client_number}
use Rattle.cycle_plan.proofs.NodeLemmas.{place_new, place_kept}
use Rattle.cycle_plan.proofs.links.node_places.Goals as goal
use Rattle.cycle_plan.proofs.links.node_places.Goals.{then-is_none, else-is_none}

pub loop-place-init : goal.loop-place-init
loop-place-init c = record { size = length-replicate {A = Option ℕ} 67 None; held = λ n h. get_or-replicate 67 n None None h }

pub loop-place-preserved : goal.loop-place-preserved
loop-place-preserved c =
    let least : (c.index-nodes-place.result).id.0 ≤ 64 =
    subst (λ (x : Client). x.id.0 ≤ 64) (sym c.index-nodes-place.is) (c.requires.ids c.loop-place.place c.index-nodes-place.result c.loop-place-test.true) in
    let low : client_number c.index-nodes-place.result < 67 = omega (arith, least) in
    let found : is_some (get_or c.loop-place.places (client_number c.index-nodes-place.result) None) ≡ not c.is_none.result =
    subst (λ n. is_some (get_or c.loop-place.places n None) ≡ not c.is_none.result) c.number_of_client-number.ensures c.is_none.ensures in
    elim c.if-is_none.branch [
      | then-is_none w ↦ record {
        size = ap length w.places-is ∙ length-set c.loop-place.places c.number_of_client-number.result (Some c.loop-place.place) ∙ c.loop-place.invariant.size;
        held = λ n h.
            ap (λ places. get_or places n None) w.places-is
            ∙ ap (λ k. get_or (set c.loop-place.places k (Some c.loop-place.place)) n None) c.number_of_client-number.ensures
            ∙ place_new c.args.nodes.now c.loop-place.place c.index-nodes-place.result c.loop-place.places c.loop-place-test.true c.index-nodes-place.is c.loop-place.invariant.size low c.loop-place.invariant.held (found ∙ ap not w.if-is_none.true) n h;
      }
      | else-is_none w ↦ record {
        size = ap length w.places-is ∙ c.loop-place.invariant.size;
        held = λ n h.
            ap (λ places. get_or places n None) w.places-is
            ∙ place_kept c.args.nodes.now c.loop-place.place c.index-nodes-place.result c.loop-place.places c.loop-place-test.true c.index-nodes-place.is c.loop-place.invariant.size low c.loop-place.invariant.held (found ∙ ap not w.if-is_none.false) n h;
      }
    ]
