use Rattle.std.proofs.Common.{◌≡◌, subst, sym}
use Rattle.client_wiring.specs.Wirings.{SetsPlayback, SetsTasks, Wired, wired_of}
use Rattle.client_wiring.proofs.EndLemmas.{ids-low, nodes-low}
use Rattle.client_wiring.proofs.PlaybackLemmas.{SetsPlayback-wired}
use Rattle.client_wiring.proofs.TaskLemmas.{SetsTasks-wired}
use Rattle.client_wiring.proofs.wiring.Wiring.fill.Goals as goal

pub count_ports-requires : goal.count_ports-requires
count_ports-requires c = record { nodes = nodes-low c.args.plan.now c.ports-ports.ensures.planned c.ports-ports.result.now c.ports-ports.ensures.value }

pub tables_of-tables-requires-clause-ids : goal.tables_of-tables-requires-clause-ids
tables_of-tables-requires-clause-ids c = ids-low c.args.plan.now c.ports-ports.ensures.planned c.ports-ports.result.now c.ports-ports.ensures.value

pub tables_of-tables-requires-clause-nodes : goal.tables_of-tables-requires-clause-nodes
tables_of-tables-requires-clause-nodes c = nodes-low c.args.plan.now c.ports-ports.ensures.planned c.ports-ports.result.now c.ports-ports.ensures.value

pub returns-clause-tasks : goal.returns-clause-tasks
returns-clause-tasks c =
    let same : (let made : Wired = record { widths = c.count_widths.new.widths.items; joints = c.join_edges.new.joints.items; carried = c.join_edges.new.carried.items; given = c.give_outputs.new.given.items; heard = c.join_edges.new.heard.items } in made) ≡ wired_of c.args.plan.now =
    λ i. record { widths = c.count_widths.ensures.widths i; joints = c.join_edges.ensures.joints i; carried = c.join_edges.ensures.carried i; given = c.give_outputs.ensures.given i; heard = c.join_edges.ensures.heard i } in
    subst (SetsTasks c.args.plan.now) (sym same) (SetsTasks-wired c.args.plan.now c.ports-ports.ensures.planned)

pub returns-clause-playback : goal.returns-clause-playback
returns-clause-playback c =
    let same : (let made : Wired = record { widths = c.count_widths.new.widths.items; joints = c.join_edges.new.joints.items; carried = c.join_edges.new.carried.items; given = c.give_outputs.new.given.items; heard = c.join_edges.new.heard.items } in made) ≡ wired_of c.args.plan.now =
    λ i. record { widths = c.count_widths.ensures.widths i; joints = c.join_edges.ensures.joints i; carried = c.join_edges.ensures.carried i; given = c.give_outputs.ensures.given i; heard = c.join_edges.ensures.heard i } in
    subst (SetsPlayback c.args.plan.now) (sym same) (SetsPlayback-wired c.args.plan.now c.ports-ports.ensures.planned)
