use Rattle.std.proofs.Common.{arith, ◌<◌, ◌+◌, [], ◌∷◌, length, Some, sym, ap, ◌∙◌, subst}
use Rattle.session_laws.specs.session_model.specs.Activation.{link_at, no_link}
use Rattle.activation.specs.declared.views.Item.TheVariants.{Value}
use Rattle.activation.specs.Rule.{has}
use Rattle.activation.specs.Plays.{out_after}
use Rattle.activation.specs.Contents.{IsFull, IsDone}
use Rattle.activation.proofs.Acting.{release_from}
use Rattle.activation.proofs.Slots.{full_value}
use Rattle.activation.proofs.crews.Crew.pass_on.Goals as goal

pub fetch_sub-counter-requires : goal.fetch_sub-counter-requires
fetch_sub-counter-requires g c =
    let sits = c.requires.seat in
    let link = c.requires.link in
    let v = c.args.seat.now.token.me.0 in
    let shape = c.args.self.now.shape in
    let near : c.args.to < c.args.self.now.nodes = subst (λ n. n < c.args.self.now.nodes) link.1 (shape.are.within c.args.link no_link link.0) in (
      c.offer.ensures.seat.0 ∙ sits.at.table,
      omega (arith, near, shape.words),
      release_from (IsFull g.B.Work.memory g.B.Work.has_room g.B.Work.after g.B.Work.gives) (IsDone g.B.Work.memory g.B.Work.has_room g.B.Work.after g.B.Work.gives) _ _ c.offer.new.seat.me v c.args.to c.args.seat.now.number c.args.link c.args.self.now.seats (Some (Value c.args.value))
          (c.offer.ensures.seat.1 ∙ (λ i. (out_after v (sym sits.at.same_nodes i + c.args.link), (sym sits.at.same_nodes i + c.args.link, Some (Value c.args.value)) ∷ [])))
          sits.at.idle.live sits.at.idle.off sits.shares sits.few sits.same_seats (subst (λ ls. c.args.link < length ls) (sym sits.at.same_links) link.0)
          (ap (λ ls. (link_at ls c.args.link).to) sits.at.same_links ∙ link.1) (ap (λ ls. has v.duty.held (link_at ls c.args.link).from) sits.at.same_links ∙ link.2) link.3
          (full_value g.B.Work.memory g.B.Work.has_room g.B.Work.value_at g.B.Work.after g.B.Work.gives v.duty.links c.args.self.now.links.items v.duty.before c.args.link c.args.value sits.at.same_links c.requires.value),
    )
