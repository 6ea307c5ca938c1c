use Rattle.std.proofs.Common.{arith, ◌≡◌, ◌<◌, ⊎_elim, ℕ, List, length, Some, sym, ap, ◌∙◌, subst}
use mathlib.Core.Option.{some, some-injective}
use lib.ListN.{get_elem?}
use Rattle.session_laws.specs.jack_types.specs.declared.ports.Link.{Link}
use Rattle.session_laws.specs.session_model.specs.Activation.{no_link}
use Rattle.activation.specs.declared.views.Tray.{Tray}
use Rattle.activation.specs.declared.views.Item.TheVariants.{Bench}
use Rattle.activation.specs.Contents.{IsFull, IsDone}
use Rattle.activation.specs.Plays.{AreClear}
use Rattle.activation.specs.Returns.{AreSpent}
use Rattle.activation.specs.Rounds.{HavePlayed, AreUnused, IsReturned}
use Rattle.activation.proofs.Alone.{enter_alone}
use Rattle.activation.proofs.Entered.{clear_is, tray_unused, tray_played, spent_below, above_unused, spent_played, returned}
use Rattle.activation.proofs.Turning.{same_tray}
use Rattle.activation.proofs.crews.Crew.recover.Goals as goal

pub load-counter-requires : goal.load-counter-requires
load-counter-requires g c =
    let got = c.gather-token.ensures in (
      got.token.table,
      omega (arith, c.args.self.now.shape.words),
      enter_alone (IsFull g.B.Work.memory g.B.Work.has_room g.B.Work.after g.B.Work.gives) (IsDone g.B.Work.memory g.B.Work.has_room g.B.Work.after g.B.Work.gives) _ _ c.gather-token.result.me 0 c.args.self.now.seats got.token.idle got.duty.0 got.duty.1 got.duty.2 got.duty.3,
    )

pub returns-then-counter-ne0-clause-benches : goal.returns-then-counter-ne0-clause-benches
returns-then-counter-ne0-clause-benches g c n low =
    let got = c.gather-token.ensures in
    let inside : n < length c.gather-token.result.me.0.duty.before = omega (arith, low, got.token.same_nodes) in
    ⊎_elim
    (λ (h : HavePlayed c.args.self.now.nodes c.args.self.now.seats c.args.seats.now). absurd (c.if-counter-ne0.true (spent_below g.B.Work.memory g.B.Work.has_room g.B.Work.after g.B.Work.gives c.args.self.now.board.shared.table_id.slots 0 c.load-counter.result c.gather-token.result.me c.load-counter.new.seat.me c.load-counter.ensures.2 (λ k l. got.played h k (omega (arith, l, got.token.same_nodes))) (omega (arith, inside)))))
    (λ (h : AreUnused c.args.seats.now). let it = tray_unused g.B.Work.memory g.B.Work.has_room g.B.Work.after g.B.Work.gives c.args.self.now.board.shared.table_id.slots 0 c.load-counter.result c.gather-token.result.me c.load-counter.new.seat.me c.load-counter.ensures.2 (got.unused h) n inside in (it.0, it.1, it.3))
    c.requires.over

pub returns-then-counter-ne0-clause-clear : goal.returns-then-counter-ne0-clause-clear
returns-then-counter-ne0-clause-clear g c = clear_is g.B.Work.memory g.B.Work.has_room g.B.Work.after g.B.Work.gives c.args.self.now.board.shared.table_id.slots 0 c.load-counter.result c.gather-token.result.me c.load-counter.new.seat.me c.load-counter.ensures.2 c.args.self.now.nodes c.gather-token.ensures.token.same_nodes

pub returns-clause-clear : goal.returns-clause-clear
returns-clause-clear g c =
    let clear = clear_is g.B.Work.memory g.B.Work.has_room g.B.Work.after g.B.Work.gives c.args.self.now.board.shared.table_id.slots 0 c.load-counter.result c.gather-token.result.me c.load-counter.new.seat.me c.load-counter.ensures.2 c.args.self.now.nodes c.gather-token.ensures.token.same_nodes in
    subst (AreClear c.args.self.now.nodes) (sym (ap (λ m. m.0.shelf.words) c.give_back.ensures.seat.1)) clear

pub returns-then-counter-ne0-clause-unused : goal.returns-then-counter-ne0-clause-unused
returns-then-counter-ne0-clause-unused g c before know h n tray low at =
    let got = c.gather-token.ensures in
    let it = tray_unused g.B.Work.memory g.B.Work.has_room g.B.Work.after g.B.Work.gives c.args.self.now.board.shared.table_id.slots 0 c.load-counter.result c.gather-token.result.me c.load-counter.new.seat.me c.load-counter.ensures.2 (got.unused h) n (omega (arith, low, got.token.same_nodes)) in
    ap (λ l. get_elem? l n) (sym (got.before before know)) ∙ (it.2 ∙ ap (λ (d : Tray g.row.B.Denot g.row.B-Value.Denot). some d.bench) (same_tray it.0 tray (some-injective (Some (Bench it.0)) (Some (Bench tray)) (sym it.1 ∙ at))))

pub give_back-requires-clause-spent : goal.give_back-requires-clause-spent
give_back-requires-clause-spent g c κs within =
    let got = c.gather-token.ensures in
    let self = c.args.self.now in
    subst (λ ls. AreSpent g.B.Work.has_room ls self.nodes c.load-counter.new.seat.me.0.shelf.items) (sym c.as_slice.ensures.value) (⊎_elim
    (λ (h : HavePlayed c.args.self.now.nodes c.args.self.now.seats c.args.seats.now). spent_played g.B.Work.memory g.B.Work.has_room g.B.Work.after g.B.Work.gives c.args.self.now.board.shared.table_id.slots 0 c.load-counter.result c.gather-token.result.me c.load-counter.new.seat.me c.load-counter.ensures.2 (λ k l. got.played h k (omega (arith, l, got.token.same_nodes))) self.links.items self.nodes got.token.same_links got.token.same_nodes self.shape.are)
    (λ (h : AreUnused c.args.seats.now).
    let zero : c.load-counter.result ≡ 0 = c.if-counter-ne0.false in
    let empty : (n : ℕ) → n < self.nodes → ⊥ = λ n low. let more = above_unused g.B.Work.memory g.B.Work.has_room g.B.Work.after g.B.Work.gives c.args.self.now.board.shared.table_id.slots 0 c.load-counter.result c.gather-token.result.me c.load-counter.new.seat.me c.load-counter.ensures.2 (got.unused h) (omega (arith, low, got.token.same_nodes)) in omega (arith, more, zero) in
    record {
      benches = λ n low. absurd (empty n low);
      rooms = λ l tray low at. absurd (empty 0 (let top = self.shape.are.within l no_link low in omega (arith, top)));
      values = λ l low. absurd (empty 0 (let top = self.shape.are.within l no_link low in omega (arith, top)));
    })
    c.requires.over)

pub returns-clause-benches : goal.returns-clause-benches
returns-clause-benches g c n low =
    let got = c.gather-token.ensures in
    let inside : n < length c.gather-token.result.me.0.duty.before = omega (arith, low, got.token.same_nodes) in
    ⊎_elim
    (λ (h : HavePlayed c.args.self.now.nodes c.args.self.now.seats c.args.seats.now).
    let it = tray_played g.B.Work.memory g.B.Work.has_room g.B.Work.after g.B.Work.gives c.args.self.now.board.shared.table_id.slots 0 c.load-counter.result c.gather-token.result.me c.load-counter.new.seat.me c.load-counter.ensures.2 (λ k l. got.played h k (omega (arith, l, got.token.same_nodes))) n inside in
    let back = c.give_back.ensures.back n it.0 low it.1 in
    (back.0, back.1, (returned g.B.Work.memory g.B.Work.has_room g.B.Work.after g.B.Work.gives c.args.self.now.board.shared.table_id.slots 0 c.load-counter.result c.gather-token.result.me c.load-counter.new.seat.me c.load-counter.ensures.2 (λ k l. got.played h k (omega (arith, l, got.token.same_nodes))) c.as_slice.result.now c.args.self.now.nodes (got.token.same_links ∙ sym c.as_slice.ensures.value) n it.0 back.0 inside it.1 back.2).1))
    (λ (h : AreUnused c.args.seats.now).
    let zero : c.load-counter.result ≡ 0 = c.if-counter-ne0.false in
    let more = above_unused g.B.Work.memory g.B.Work.has_room g.B.Work.after g.B.Work.gives c.args.self.now.board.shared.table_id.slots 0 c.load-counter.result c.gather-token.result.me c.load-counter.new.seat.me c.load-counter.ensures.2 (got.unused h) (omega (arith, inside)) in absurd (omega (arith, more, zero)))
    c.requires.over

pub returns-clause-played : goal.returns-clause-played
returns-clause-played g c before know h n tray low at =
    let got = c.gather-token.ensures in
    let inside : n < length c.gather-token.result.me.0.duty.before = omega (arith, low, got.token.same_nodes) in
    let it = tray_played g.B.Work.memory g.B.Work.has_room g.B.Work.after g.B.Work.gives c.args.self.now.board.shared.table_id.slots 0 c.load-counter.result c.gather-token.result.me c.load-counter.new.seat.me c.load-counter.ensures.2 (λ k l. got.played h k (omega (arith, l, got.token.same_nodes))) n inside in
    let back = c.give_back.ensures.back n it.0 low it.1 in
    let is : back.0 ≡ tray = same_tray back.0 tray (some-injective (Some (Bench back.0)) (Some (Bench tray)) (sym back.1 ∙ at)) in
    subst (λ (z : List Link × List g.row.B.Denot × Tray g.row.B.Denot g.row.B-Value.Denot). IsReturned g.B.Work.memory g.B.Work.has_room g.B.Work.after g.B.Work.gives z.0 z.1 n z.2.bench) (λ i. (c.as_slice.ensures.value i, got.before before know i, is i))
    (returned g.B.Work.memory g.B.Work.has_room g.B.Work.after g.B.Work.gives c.args.self.now.board.shared.table_id.slots 0 c.load-counter.result c.gather-token.result.me c.load-counter.new.seat.me c.load-counter.ensures.2 (λ k l. got.played h k (omega (arith, l, got.token.same_nodes))) c.as_slice.result.now c.args.self.now.nodes (got.token.same_links ∙ sym c.as_slice.ensures.value) n it.0 back.0 inside it.1 back.2).0
