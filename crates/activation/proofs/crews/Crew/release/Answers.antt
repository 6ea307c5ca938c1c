use Rattle.std.proofs.Common.{refl}
use Rattle.activation.proofs.Slots.{handed_value, handed}
use Rattle.activation.proofs.crews.Crew.release.Goals as goal

pub pass_on-requires-clause-value : goal.pass_on-requires-clause-value
pass_on-requires-clause-value g c κs within =
    handed_value g.B.Work.memory g.B.Work.has_room g.B.Work.value_at g.B.Work.after g.B.Work.gives c.args.seat.now.token.me.0.duty c.args.taken.now.node c.args.taken.now.tray c.args.self.now.links.items c.args.link c.place.result c.hand-value.result
    c.requires.seat.at.same_links c.requires.taken c.requires.link.0 c.requires.link.1 c.requires.link.2 c.requires.room c.place.ensures c.hand-value.ensures.value

pub returns-clause-taken : goal.returns-clause-taken
returns-clause-taken g c =
    let d = c.pass_on.ensures.duty in (
      refl,
      handed g.B.Work.memory g.B.Work.has_room g.B.Work.value_at g.B.Work.after g.B.Work.gives c.args.seat.now.token.me.0.duty c.pass_on.new.seat.token.me.0.duty c.args.taken.now.node c.args.taken.now.tray c.args.self.now.links.items c.args.link c.place.result c.hand-value.new.self
          d.0 d.1 d.2 d.3 c.requires.seat.at.same_links c.requires.taken c.requires.link.0 c.requires.link.1 c.requires.link.2 c.requires.room c.place.ensures c.hand-value.ensures.memory c.hand-value.ensures.taken c.hand-value.ensures.others,
    )
