use Rattle.std.proofs.Common.{arith, ◌+◌}
use Rattle.activation.specs.Contents.{IsFull, IsDone}
use Rattle.activation.proofs.Acting.{take_from}
use Rattle.activation.proofs.Slots.{owns_room}
use Rattle.activation.proofs.crews.Crew.offer.Goals as goal

pub load-requires : goal.load-requires
load-requires g c =
    let at = c.requires.seat in
    let link = c.requires.link in (
      at.table,
      omega (arith, link.0, c.args.self.now.shape.words, c.args.self.now.shape.few_links),
      take_from (IsFull g.B.Work.memory g.B.Work.has_room g.B.Work.after g.B.Work.gives) (IsDone g.B.Work.memory g.B.Work.has_room g.B.Work.after g.B.Work.gives) _ _ c.args.seat.now.me (c.args.self.now.nodes + c.args.link) at.idle
          (owns_room c.args.seat.now.me.0 c.args.self.now.links.items c.args.self.now.nodes at.same_links at.same_nodes c.args.link link.1 link.0 link.2),
    )
