use Rattle.std.proofs.Common.{rules, arith, ◌<◌, ◌+◌, ◌-◌, ◌%◌, ◌^◌, ℕ, [], length, Some, refl, sym, ap, ◌∙◌, subst}
use mathlib.Core.Option.{none}
use Rattle.atomic_table.specs.Table.{Allows, step}
use Rattle.table_lemmas.proofs.Readings.{inside}
use Rattle.session_laws.specs.session_model.specs.Activation.{link_at}
use Rattle.activation.specs.declared.views.Item.TheVariants.{Bench}
use Rattle.activation.specs.Rule.{has, Rule}
use Rattle.activation.specs.Plays.{fill_after, came_home}
use Rattle.activation.specs.Contents.{IsFull, IsDone}
use Rattle.activation.proofs.Acting.{home_from}
use Rattle.activation.proofs.Slots.{owns_bench, done_bench, all_out}
use Rattle.activation.proofs.crews.Crew.home.Goals as goal
use Rattle.activation.proofs.Testing.{has_there}

pub lay_values-requires-clause-node : goal.lay_values-requires-clause-node
lay_values-requires-clause-node g c κs within =
    let low = inside c.args.seat.now.token.me.0.duty.before c.args.taken.node c.requires.taken.old c.requires.taken.old_is in
    (c.requires.taken.held, omega (arith, low, c.requires.seat.at.same_nodes))

pub lay-requires-clause-seat : goal.lay-requires-clause-seat
lay-requires-clause-seat g c κs within =
    let at = c.lay_values.ensures.seat.0 in
    let low = inside c.args.seat.now.token.me.0.duty.before c.args.taken.node c.requires.taken.old c.requires.taken.old_is in (
      at.table,
      at.idle,
      owns_bench c.lay_values.new.seat.me.0 c.args.self.now.links.items c.args.self.now.nodes at.same_links at.same_nodes c.args.taken.node (ap (λ d. has d.held c.args.taken.node) c.lay_values.ensures.seat.1 ∙ c.requires.taken.held)
          (omega (arith, low, c.requires.seat.at.same_nodes)),
    )

pub lay-requires-clause-slot : goal.lay-requires-clause-slot
lay-requires-clause-slot g c κs within =
    let low = inside c.args.seat.now.token.me.0.duty.before c.args.taken.node c.requires.taken.old c.requires.taken.old_is in
    omega (arith, low, c.requires.seat.at.same_nodes, c.args.self.now.shape.words)

pub lay-requires-clause-item : goal.lay-requires-clause-item
lay-requires-clause-item g c κs within =
    let low = inside c.args.seat.now.token.me.0.duty.before c.args.taken.node c.requires.taken.old c.requires.taken.old_is in
    subst (λ d. IsDone g.B.Work.memory g.B.Work.has_room g.B.Work.after g.B.Work.gives d.links d.before c.args.taken.node (Some (Bench record { bench = c.args.taken.tray.bench; given = c.clear.new.self }))) (sym c.lay_values.ensures.seat.1)
    (done_bench g.B.Work.memory g.B.Work.has_room g.B.Work.value_at g.B.Work.after g.B.Work.gives c.args.seat.now.token.me.0.duty c.args.self.now.links.items c.args.self.now.nodes c.args.taken.node c.args.taken.tray record { bench = c.args.taken.tray.bench; given = c.clear.new.self } c.requires.seat.at.same_links c.requires.seat.at.same_nodes (omega (arith, low, c.requires.seat.at.same_nodes))
    c.requires.taken c.requires.released refl (search rules, search rules))

pub fetch_sub-requires : goal.fetch_sub-requires
fetch_sub-requires g c =
    let at = c.lay_values.ensures.seat.0 in
    let duty = c.lay_values.ensures.seat.1 in
    let v = c.lay_values.new.seat.me.0 in
    let t : ℕ = c.args.taken.node in
    let n : ℕ = c.args.self.now.board.shared.table_id.slots in
    let i : ℕ = c.args.self.now.nodes + 512 in (
      search rules,
      omega (arith, c.args.self.now.shape.words),
      subst (λ m. Allows (Rule (IsFull g.B.Work.memory g.B.Work.has_room g.B.Work.after g.B.Work.gives) (IsDone g.B.Work.memory g.B.Work.has_room g.B.Work.after g.B.Work.gives)) n c.lay.new.seat.id m i (λ x. (x + (2 ^ 64 - 1)) % 2 ^ 64) (came_home (step n i 1 0 none) m)) (sym c.lay.ensures.seat.1)
          (home_from (IsFull g.B.Work.memory g.B.Work.has_room g.B.Work.after g.B.Work.gives) (IsDone g.B.Work.memory g.B.Work.has_room g.B.Work.after g.B.Work.gives) n c.lay.new.seat.id (fill_after v t, []) i t c.args.seat.now.number v.hand.ready
          record { live = at.idle.live; off = at.idle.off; none_out = refl; clear = refl } (ap (λ d. d.shares) duty ∙ c.requires.seat.shares) refl (ap (λ d. has d.held t) duty ∙ c.requires.taken.held) (omega (arith, at.same_nodes)) (omega (arith, at.same_nodes))
          (λ l low to. has_there t v.hand.ready (length v.duty.before + l) (ap (λ k. has v.hand.ready (k + l)) at.same_nodes ∙ c.lay_values.ensures.ready l (subst (λ ls. l < length ls) at.same_links low) (ap (λ ls. (link_at ls l).to) (sym at.same_links) ∙ to)))
          (all_out v.duty.links t v.duty.released (λ l low from. ap (λ d. has d.released l) duty ∙ c.requires.released l (subst (λ ls. l < length ls) at.same_links low) (ap (λ ls. (link_at ls l).from) (sym at.same_links) ∙ from)))),
    )
