use Rattle.std.proofs.Common.{◌≡◌, None, Some, ap, arith, get_or, length, position, sym, take_at, ◌∙◌}
use Rattle.cycle_plan.specs.port_registry.specs.Registered.{is_named}
use Rattle.graph_replies.proofs.GraphLemmas.{told-at, told-none}
use Rattle.graph_replies.proofs.latencies.Latencies.of_port.Goals as goal

pub returns-in-None : goal.returns-in-None
returns-in-None c =
    let at : position (is_named c.args.name.now) c.args.graph.now.held.ports ≡ None =
    ap (position (is_named c.args.name.now)) (sym (c.as_slice.ensures ∙ c.ports-list.ensures.value)) ∙ sym c.place_of.ensures ∙ c.in-None.is in
    sym (told-none c.args.graph.now c.args.mode c.args.name.now at)

pub returns-in-Some : goal.returns-in-Some
returns-in-Some c =
    let at : position (is_named c.args.name.now) c.args.graph.now.held.ports ≡ Some c.in-Some.place =
    ap (position (is_named c.args.name.now)) (sym (c.as_slice.ensures ∙ c.ports-list.ensures.value)) ∙ sym c.place_of.ensures ∙ c.in-Some.is in
    let size : length c.set_ranges.new.table ≡ c.self.inside.table.len = omega (arith, c.set_ranges.ensures.room, c.self.invariant.0, c.self.inside.table.ok.0) in
    let read : c.index.result.now ≡ get_or c.set_ranges.new.table c.in-Some.place c.index.result.now =
    c.index.ensures ∙ ap (λ ranges. get_or ranges c.in-Some.place c.index.result.now) (take_at c.set_ranges.new.table _ c.self.inside.table.len size) in
    ap Some read ∙ told-at c.args.graph.now c.args.mode c.args.name.now c.in-Some.place c.set_ranges.new.table c.index.result.now at c.set_ranges.ensures.ranges
