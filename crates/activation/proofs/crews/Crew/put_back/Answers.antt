use Rattle.std.proofs.Common.{rules, ◌∷◌, Some, ◌∙◌}
use Rattle.atomic_table.specs.Table.{rest}
use Rattle.activation.specs.Contents.{IsFull, IsDone}
use Rattle.activation.proofs.Acting.{take_from, refill_from}
use Rattle.activation.proofs.crews.Crew.put_back.Goals as goal

pub load-requires : goal.load-requires
load-requires g c = (
  c.requires.seat.0,
  c.requires.slot,
  take_from (IsFull g.B.Work.memory g.B.Work.has_room g.B.Work.after g.B.Work.gives) (IsDone g.B.Work.memory g.B.Work.has_room g.B.Work.after g.B.Work.gives) _ _ c.args.seat.now.me c.args.slot c.requires.seat.1 c.requires.seat.2,
)

pub load-requires-2 : goal.load-requires-2
load-requires-2 g c =
    let took = c.load.ensures.2 in (
      search rules,
      c.requires.slot,
      refill_from (IsFull g.B.Work.memory g.B.Work.has_room g.B.Work.after g.B.Work.gives) (IsDone g.B.Work.memory g.B.Work.has_room g.B.Work.after g.B.Work.gives) _ _ c.exchange.new.seat.me c.args.seat.now.me.0 c.args.slot (Some c.args.item)
          (c.exchange.ensures.3 ∙ (λ i. (took.0 i, (c.args.slot, Some c.args.item) ∷ rest (took.1.1 i)))) c.requires.seat.1.live c.requires.seat.1.off c.requires.seat.2 c.requires.item,
    )
