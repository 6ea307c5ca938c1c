use Rattle.std.proofs.Common.{arith, ◌≡◌, ◌<◌, ⊎_elim, true, List, length, sym, ap, ◌∙◌, subst}
use mathlib.Core.Option.{some, some-injective}
use lib.ListN.{get_elem?}
use Rattle.table_lemmas.proofs.Readings.{inside}
use Rattle.session_laws.specs.jack_types.specs.declared.ports.Link.{Link}
use Rattle.activation.specs.Contents.{IsFull, IsDone, Roomed, IsPlayedAt}
use Rattle.activation.specs.Rounds.{HavePlayed, AreUnused, Know}
use Rattle.activation.proofs.Alone.{enter_alone}
use Rattle.activation.proofs.Entered.{is_sole, tray_unused, tray_played}
use Rattle.activation.proofs.Turning.{same_items}
use Rattle.activation.proofs.crews.Crew.close.Goals as goal

pub load-requires : goal.load-requires
load-requires g c =
    let got = c.gather-token.ensures in (
      got.token.table,
      omega (arith, c.args.self.shape.words),
      enter_alone (IsFull g.B.Work.memory g.B.Work.has_room g.B.Work.after g.B.Work.gives) (IsDone g.B.Work.memory g.B.Work.has_room g.B.Work.after g.B.Work.gives) _ _ c.gather-token.result.me 0 c.args.self.seats got.token.idle got.duty.0 got.duty.1 got.duty.2 got.duty.3,
    )

pub take_benches-requires-clause-seat : goal.take_benches-requires-clause-seat
take_benches-requires-clause-seat g c κs within = (
  c.load.ensures.0 ∙ c.gather-token.ensures.token.table,
  is_sole g.B.Work.memory g.B.Work.has_room g.B.Work.after g.B.Work.gives c.args.self.board.shared.table_id.slots 0 c.load.result c.gather-token.result.me c.load.new.seat.me c.load.ensures.2 c.gather-token.ensures.token.idle,
  omega (arith, c.args.self.shape.words),
)

pub take_benches-requires-clause-benches : goal.take_benches-requires-clause-benches
take_benches-requires-clause-benches g c κs within n low =
    let got = c.gather-token.ensures in
    let me = c.gather-token.result.me in
    let inside' : n < length me.0.duty.before = omega (arith, low, got.token.same_nodes) in
    ⊎_elim
    (λ (h : HavePlayed c.args.self.nodes c.args.self.seats c.args.seats.items). let it = tray_played g.B.Work.memory g.B.Work.has_room g.B.Work.after g.B.Work.gives c.args.self.board.shared.table_id.slots 0 c.load.result me c.load.new.seat.me c.load.ensures.2 (λ k l. got.played (subst (HavePlayed c.args.self.nodes c.args.self.seats) (sym c.as_mut_slice.ensures.value) h) k (omega (arith, l, got.token.same_nodes))) n inside' in (it.0, it.1))
    (λ (h : AreUnused c.args.seats.items). let it = tray_unused g.B.Work.memory g.B.Work.has_room g.B.Work.after g.B.Work.gives c.args.self.board.shared.table_id.slots 0 c.load.result me c.load.new.seat.me c.load.ensures.2 (got.unused (subst AreUnused (sym c.as_mut_slice.ensures.value) h)) n inside' in (it.0, it.1))
    c.requires.over

pub returns-clause-played : goal.returns-clause-played
returns-clause-played g c before know all n bench e =
    let got = c.gather-token.ensures in
    let me = c.gather-token.result.me in
    let took = c.take_benches.ensures in
    let low = inside c.take_benches.new.benches.items n bench e in
    let it = tray_played g.B.Work.memory g.B.Work.has_room g.B.Work.after g.B.Work.gives c.args.self.board.shared.table_id.slots 0 c.load.result me c.load.new.seat.me c.load.ensures.2 (λ k l. got.played (subst (HavePlayed c.args.self.nodes c.args.self.seats) (sym c.as_mut_slice.ensures.value) all) k (omega (arith, l, got.token.same_nodes))) n (omega (arith, low, took.count, got.token.same_nodes)) in
    let is : it.0.bench ≡ bench = some-injective it.0.bench bench (sym (took.taken n it.0 (omega (arith, low, took.count)) it.1) ∙ e) in
    let links = got.token.same_links in
    let same : me.0.duty.before ≡ before = got.before before (subst (Know before) (sym c.as_mut_slice.ensures.value) know) in
    subst (λ (z : List Link × List g.row.B.Denot × g.row.B.Denot). IsPlayedAt g.B.Work.memory g.B.Work.has_room g.B.Work.after g.B.Work.gives z.0 z.1 n (g.B.Work.memory z.2) × ((old : g.row.B.Denot) → get_elem? z.1 n ≡ some old → Roomed g.B.Work.has_room z.0 n old z.2 (λ _. true))) (λ i. (links i, same i, is i)) (it.2.0, it.2.2)

pub returns-clause-unused : goal.returns-clause-unused
returns-clause-unused g c before know idle =
    let got = c.gather-token.ensures in
    let me = c.gather-token.result.me in
    let took = c.take_benches.ensures in
    let same : me.0.duty.before ≡ before = got.before before (subst (Know before) (sym c.as_mut_slice.ensures.value) know) in
    sym (same_items before c.take_benches.new.benches.items (ap length (sym same) ∙ (got.token.same_nodes ∙ sym took.count)) (λ n bench e.
    let low = inside before n bench e in
    let it = tray_unused g.B.Work.memory g.B.Work.has_room g.B.Work.after g.B.Work.gives c.args.self.board.shared.table_id.slots 0 c.load.result me c.load.new.seat.me c.load.ensures.2 (got.unused (subst AreUnused (sym c.as_mut_slice.ensures.value) idle)) n (omega (arith, low, ap length same)) in
    took.taken n it.0 (omega (arith, low, ap length same, got.token.same_nodes)) it.1 ∙ (sym it.2 ∙ (ap (λ l. get_elem? l n) same ∙ e))))
