use Rattle.std.proofs.Common.{◌≡◌, ◌+◌, ◌≤◌, ◌∙◌, All, Global, Vec, true, false, ap, subst, sym, arith, length}
use Rattle.std.specs.Vec.{vec_capacity}
use Rattle.graph_word.specs.jack_types.specs.declared.ports.Client.{Client}
use Rattle.cycle_plan.specs.Layouts.{with_node}
use Rattle.cycle_plan.specs.Searching.{numbers_lead}
use Rattle.cycle_plan.proofs.NodeLemmas.{ordered_more, All-with_node, length-with_node}
use Rattle.cycle_plan.proofs.nodes.order_nodes.Goals as goal
use Rattle.cycle_plan.proofs.nodes.order_nodes.Goals.{then-plays, else-plays}

pub loop-client-preserved : goal.loop-client-preserved
loop-client-preserved c =
    let least : (c.client-item.result).id.0 ≤ 64 =
    subst (λ (x : Client). x.id.0 ≤ 64) (sym c.client-item.is) (c.requires.ids c.loop-client.client-index c.client-item.result c.loop-client-test.true) in
    elim c.if-plays.branch [
      | then-plays w ↦
          let made : c.if-plays.nodes.items ≡ with_node (numbers_lead c.args.table.now c.args.edges.now) c.client-item.result c.loop-client.nodes.items =
          ap (λ (v : Vec Client Global). v.items) w.nodes-is ∙ w.place_client.ensures.nodes in
          let more : length c.if-plays.nodes.items ≡ length c.loop-client.nodes.items + 1 =
          ap length made ∙ length-with_node (numbers_lead c.args.table.now c.args.edges.now) c.client-item.result c.loop-client.nodes.items in
          let kept : vec_capacity c.if-plays.nodes ≡ vec_capacity w.place_client.new.nodes = ap (λ (v : Vec Client Global). vec_capacity v) w.nodes-is in
          record {
            nodes = made
                ∙ ap (with_node (numbers_lead c.args.table.now c.args.edges.now) c.client-item.result) c.loop-client.invariant.nodes
                ∙ sym (ordered_more (numbers_lead c.args.table.now c.args.edges.now) c.args.clients.now c.loop-client.client-index c.client-item.result true c.loop-client-test.true c.client-item.is (sym c.plays.ensures ∙ w.if-plays.true));
            ids = subst (All (λ (x : Client). x.id.0 ≤ 64)) (sym made)
                (All-with_node (λ (x : Client). x.id.0 ≤ 64) (numbers_lead c.args.table.now c.args.edges.now) c.client-item.result c.loop-client.nodes.items least c.loop-client.invariant.ids);
            few = omega (arith, more, c.loop-client.invariant.few);
            room = omega (arith, kept, w.place_client.ensures.room, c.loop-client.invariant.room);
          }
      | else-plays w ↦
          let same : c.if-plays.nodes.items ≡ c.loop-client.nodes.items = ap (λ (v : Vec Client Global). v.items) w.nodes-is in
          let size : length c.if-plays.nodes.items ≡ length c.loop-client.nodes.items = ap length same in
          let kept : vec_capacity c.if-plays.nodes ≡ vec_capacity c.loop-client.nodes = ap (λ (v : Vec Client Global). vec_capacity v) w.nodes-is in
          record {
            nodes = same
                ∙ c.loop-client.invariant.nodes
                ∙ sym (ordered_more (numbers_lead c.args.table.now c.args.edges.now) c.args.clients.now c.loop-client.client-index c.client-item.result false c.loop-client-test.true c.client-item.is (sym c.plays.ensures ∙ w.if-plays.false));
            ids = subst (All (λ (x : Client). x.id.0 ≤ 64)) (sym same) c.loop-client.invariant.ids;
            few = omega (arith, size, c.loop-client.invariant.few);
            room = omega (arith, kept, c.loop-client.invariant.room);
          }
    ]
