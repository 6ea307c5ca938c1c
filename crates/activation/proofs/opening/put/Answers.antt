use Rattle.std.proofs.Common.{rules, [], ◌∷◌, sym, ap, ◌∙◌}
use mathlib.Core.Option.{some}
use Rattle.atomic_table.specs.Table.{rest}
use Rattle.activation.specs.Contents.{IsFull, IsDone}
use Rattle.activation.proofs.Acting.{same_front}
use Rattle.activation.proofs.Alone.{lift_alone, lay_alone}
use Rattle.activation.proofs.opening.put.Goals as goal

pub load-requires : goal.load-requires
load-requires g c = (
  c.requires.seat.0,
  c.requires.slot.0,
  lift_alone (IsFull g.B.Work.memory g.B.Work.has_room g.B.Work.after g.B.Work.gives) (IsDone g.B.Work.memory g.B.Work.has_room g.B.Work.after g.B.Work.gives) _ _ c.args.seat.now.me c.args.slot c.requires.seat.1 c.requires.slot.1,
)

pub load-requires-2 : goal.load-requires-2
load-requires-2 g c =
    let told = c.load.ensures.2 in (
      search rules,
      c.requires.slot.0,
      lay_alone (IsFull g.B.Work.memory g.B.Work.has_room g.B.Work.after g.B.Work.gives) (IsDone g.B.Work.memory g.B.Work.has_room g.B.Work.after g.B.Work.gives) _ _ c.exchange-old.new.seat.me c.args.seat.now.me.0 c.args.slot c.args.item (c.exchange-old.ensures.3 ∙ (λ i. ((told.2 i).0, (c.args.slot, c.args.item) ∷ rest (told.2 i).1))) c.requires.seat.1.live c.requires.seat.1.on,
    )

pub returns-clause-item : goal.returns-clause-item
returns-clause-item g c =
    let told = c.load.ensures.2 in
    told.1 ∙ ap some (same_front c.args.slot c.args.slot told.0 c.exchange-old.result [] _ (sym (ap (λ m. m.1) told.2) ∙ c.exchange-old.ensures.2))
