use Rattle.std.proofs.Common.{rules, [], ◌∷◌, None, sym, ◌∙◌, subst}
use Rattle.atomic_table.specs.Table.{rest}
use Rattle.activation.specs.Contents.{IsFull, IsDone}
use Rattle.activation.proofs.Acting.{take_from, open_from, same_front}
use Rattle.activation.proofs.crews.Crew.lift.Goals as goal

pub load-requires : goal.load-requires
load-requires g c = (
  c.requires.seat.0,
  c.requires.slot,
  take_from (IsFull g.B.Work.memory g.B.Work.has_room g.B.Work.after g.B.Work.gives) (IsDone g.B.Work.memory g.B.Work.has_room g.B.Work.after g.B.Work.gives) _ _ c.args.seat.now.me c.args.slot c.requires.seat.1 c.requires.seat.2,
)

pub load-requires-2 : goal.load-requires-2
load-requires-2 g c =
    let took = c.load.ensures.2 in (
      search rules,
      c.requires.slot,
      open_from (IsFull g.B.Work.memory g.B.Work.has_room g.B.Work.after g.B.Work.gives) (IsDone g.B.Work.memory g.B.Work.has_room g.B.Work.after g.B.Work.gives) _ _ c.exchange-item.new.seat.me c.args.seat.now.me.0 c.args.slot None
          (c.exchange-item.ensures.3 ∙ (λ i. (took.0 i, (c.args.slot, None) ∷ rest (took.1.1 i)))) c.requires.seat.1.live c.requires.seat.1.off c.requires.seat.2 c.requires.seat.3,
    )

pub returns-clause-item : goal.returns-clause-item
returns-clause-item g c n held of node =
    let took = c.load.ensures.2 in
    subst (λ x. IsFull g.B.Work.memory g.B.Work.has_room g.B.Work.after g.B.Work.gives c.args.seat.now.me.0.duty.links c.args.seat.now.me.0.duty.before c.args.slot x)
    (same_front c.args.slot c.args.slot took.1.0 c.exchange-item.result [] _ (sym took.1.1 ∙ c.exchange-item.ensures.2)) (took.1.2 n held of node c.requires.seat.3)
