use Rattle.std.proofs.Common.{rules, arith, ◌<◌, ◌+◌, ℕ, [], length, Some, refl, sym, ap, ◌∙◌, subst}
use mathlib.Core.Option.{none}
use Rattle.atomic_table.specs.Table.{Allows, step}
use Rattle.session_laws.specs.session_model.specs.Activation.{link_at}
use Rattle.activation.specs.declared.views.Item.TheVariants.{Bench}
use Rattle.activation.specs.Rule.{has, Rule}
use Rattle.activation.specs.Plays.{refill_after, left_node}
use Rattle.activation.specs.Contents.{IsFull, IsDone}
use Rattle.activation.proofs.Acting.{leave_from}
use Rattle.activation.proofs.Slots.{owns_bench, full_bench}
use Rattle.activation.proofs.Waiting.{unplayed_low}
use Rattle.activation.proofs.crews.Crew.leave.Goals as goal
use Rattle.activation.proofs.Testing.{has_there}

pub put_back_values-requires-clause-node : goal.put_back_values-requires-clause-node
put_back_values-requires-clause-node g c κs within =
    let low = unplayed_low g.B.Work.memory g.B.Work.has_room g.B.Work.value_at g.B.Work.after g.B.Work.gives c.args.seat.now.token.me.0.duty c.args.taken.node c.args.taken.tray c.requires.taken in
    (c.requires.taken.held, omega (arith, low, c.requires.seat.at.same_nodes))

pub put_back-requires-clause-seat : goal.put_back-requires-clause-seat
put_back-requires-clause-seat g c κs within =
    let at = c.put_back_values.ensures.seat.0 in
    let low = unplayed_low g.B.Work.memory g.B.Work.has_room g.B.Work.value_at g.B.Work.after g.B.Work.gives c.args.seat.now.token.me.0.duty c.args.taken.node c.args.taken.tray c.requires.taken in (
      at.table,
      at.idle,
      owns_bench c.put_back_values.new.seat.me.0 c.args.self.now.links.items c.args.self.now.nodes at.same_links at.same_nodes c.args.taken.node (ap (λ d. has d.held c.args.taken.node) c.put_back_values.ensures.seat.1 ∙ c.requires.taken.held)
          (omega (arith, low, c.requires.seat.at.same_nodes)),
    )

pub put_back-requires-clause-slot : goal.put_back-requires-clause-slot
put_back-requires-clause-slot g c κs within =
    let low = unplayed_low g.B.Work.memory g.B.Work.has_room g.B.Work.value_at g.B.Work.after g.B.Work.gives c.args.seat.now.token.me.0.duty c.args.taken.node c.args.taken.tray c.requires.taken in
    omega (arith, low, c.requires.seat.at.same_nodes, c.args.self.now.shape.words)

pub put_back-requires-clause-item : goal.put_back-requires-clause-item
put_back-requires-clause-item g c κs within =
    let duty = c.args.seat.now.token.me.0.duty in
    let low = unplayed_low g.B.Work.memory g.B.Work.has_room g.B.Work.value_at g.B.Work.after g.B.Work.gives duty c.args.taken.node c.args.taken.tray c.requires.taken in
    subst (λ d. IsFull g.B.Work.memory g.B.Work.has_room g.B.Work.after g.B.Work.gives d.links d.before c.args.taken.node (Some (Bench record { bench = c.args.taken.tray.bench; given = c.clear.new.self }))) (sym c.put_back_values.ensures.seat.1)
    (full_bench g.B.Work.memory g.B.Work.has_room g.B.Work.value_at g.B.Work.after g.B.Work.gives duty.links duty.before c.args.taken.node record { bench = c.args.taken.tray.bench; given = c.clear.new.self } low c.requires.taken.bench (search rules, search rules))

pub left_word-word-requires-clause-node : goal.left_word-word-requires-clause-node
left_word-word-requires-clause-node g c κs within =
    let low = unplayed_low g.B.Work.memory g.B.Work.has_room g.B.Work.value_at g.B.Work.after g.B.Work.gives c.args.seat.now.token.me.0.duty c.args.taken.node c.args.taken.tray c.requires.taken in
    omega (arith, low, c.requires.seat.at.same_nodes)

pub store-requires : goal.store-requires
store-requires g c =
    let at = c.put_back_values.ensures.seat.0 in
    let duty = c.put_back_values.ensures.seat.1 in
    let v = c.put_back_values.new.seat.me.0 in
    let t : ℕ = c.args.taken.node in
    let n : ℕ = c.args.self.now.board.shared.table_id.slots in
    let i : ℕ = c.left_word-word.result in (
      search rules,
      c.left_word-word.ensures.1,
      subst (λ m. Allows (Rule (IsFull g.B.Work.memory g.B.Work.has_room g.B.Work.after g.B.Work.gives) (IsDone g.B.Work.memory g.B.Work.has_room g.B.Work.after g.B.Work.gives)) n c.put_back.new.seat.id m i (λ _. 1) (λ _. left_node (step n i 1 0 none) m 1)) (sym c.put_back.ensures.seat.1)
          (leave_from (IsFull g.B.Work.memory g.B.Work.has_room g.B.Work.after g.B.Work.gives) (IsDone g.B.Work.memory g.B.Work.has_room g.B.Work.after g.B.Work.gives) n c.put_back.new.seat.id (refill_after v t, []) i t c.args.seat.now.number v.hand.back
          record { live = at.idle.live; off = at.idle.off; none_out = refl; clear = refl } (ap (λ d. d.shares) duty ∙ c.requires.seat.shares) refl (ap (λ d. has d.held t) duty ∙ c.requires.taken.held) (omega (arith, c.left_word-word.ensures.0, at.same_nodes))
          (λ l low to. has_there t v.hand.back (length v.duty.before + l) (ap (λ k. has v.hand.back (k + l)) at.same_nodes ∙ c.put_back_values.ensures.back l (subst (λ ls. l < length ls) at.same_links low) (ap (λ ls. (link_at ls l).to) (sym at.same_links) ∙ to)))
          (λ l low from. ap (λ d. has d.released l) duty ∙ c.requires.taken.none_released l (subst (λ d. l < length d.links) duty low) (ap (λ d. (link_at d.links l).from) (sym duty) ∙ from))),
    )
