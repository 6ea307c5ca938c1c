use Rattle.std.proofs.Common.{rules}
use Rattle.activation.proofs.Played.{value_from}
use Rattle.activation.proofs.crews.Crew.lift_value.Goals as goal

pub returns-clause-value : goal.returns-clause-value
returns-clause-value g c =
    value_from g.B.Work.memory g.B.Work.has_room g.B.Work.value_at g.B.Work.after g.B.Work.gives c.args.seat.now.me.0.duty.links c.args.self.now.links.items c.args.seat.now.me.0.duty.before c.args.self.now.nodes c.args.link c.in-Some-Value.value c.lift.result
    c.requires.seat.same_links c.requires.seat.same_nodes (search rules) (search rules)
