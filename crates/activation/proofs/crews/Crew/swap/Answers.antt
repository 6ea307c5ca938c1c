use Rattle.std.proofs.Common.{arith, ◌≡◌, ◌++◌, ℕ, List, length, sym, ap, ◌∙◌, subst}
use lib.ListN.{get_elem?}
use Rattle.table_lemmas.proofs.Readings.{inside}
use Rattle.session_laws.specs.jack_types.specs.declared.ports.Link.{Link}
use Rattle.session_laws.specs.session_model.specs.Activation.{AreLinks, fresh}
use Rattle.activation.specs.Contents.{IsFull, IsDone, benches_of, from_to}
use Rattle.activation.specs.Plays.{AreClear}
use Rattle.activation.specs.Rounds.{AreSeats, AreFresh}
use Rattle.activation.proofs.Alone.{enter_alone}
use Rattle.activation.proofs.Begun.{laid_out, laid-of}
use Rattle.activation.proofs.Entered.{is_sole, same_duty, size_is, clear_is, tray_unused, words_unused}
use Rattle.activation.proofs.Gathered.{dealable, seats_dealt}
use Rattle.activation.proofs.Turning.{same_items}
use Rattle.activation.proofs.crews.Crew.swap.Goals as goal

pub load-requires : goal.load-requires
load-requires g c =
    let got = c.gather-token.ensures in (
      got.token.table,
      omega (arith, c.args.self.now.shape.words),
      enter_alone (IsFull g.B.Work.memory g.B.Work.has_room g.B.Work.after g.B.Work.gives) (IsDone g.B.Work.memory g.B.Work.has_room g.B.Work.after g.B.Work.gives) _ _ c.gather-token.result.me 0 c.args.self.now.seats got.token.idle got.duty.0 got.duty.1 got.duty.2 got.duty.3,
    )

pub swap_benches-requires-clause-seat : goal.swap_benches-requires-clause-seat
swap_benches-requires-clause-seat g c κs within = (
  c.load.ensures.0 ∙ c.gather-token.ensures.token.table,
  is_sole g.B.Work.memory g.B.Work.has_room g.B.Work.after g.B.Work.gives c.args.self.now.board.shared.table_id.slots 0 c.load.result c.gather-token.result.me c.load.new.seat.me c.load.ensures.2 c.gather-token.ensures.token.idle,
  omega (arith, c.args.self.now.shape.words, c.requires.count),
)

pub swap_benches-requires-clause-laid : goal.swap_benches-requires-clause-laid
swap_benches-requires-clause-laid g c κs within n low =
    let got = c.gather-token.ensures in
    let it = tray_unused g.B.Work.memory g.B.Work.has_room g.B.Work.after g.B.Work.gives c.args.self.now.board.shared.table_id.slots 0 c.load.result c.gather-token.result.me c.load.new.seat.me c.load.ensures.2 (got.unused c.requires.unused) n (omega (arith, low, c.requires.count, got.token.same_nodes)) in
    (it.0, it.1, it.3)

pub open_cycle-requires-clause-laid : goal.open_cycle-requires-clause-laid
open_cycle-requires-clause-laid g c κs within =
    let self = c.args.self.now in
    let got = c.gather-token.ensures in
    let me = c.gather-token.result.me in
    let new = c.load.new.seat.me in
    let told = c.load.ensures.2 in
    let swapped = c.swap_benches.ensures in
    let v = c.swap_benches.new.seat.me.0 in
    let bs = c.args.benches.now in
    let is = swapped.seat.1 in
    let duty = same_duty g.B.Work.memory g.B.Work.has_room g.B.Work.after g.B.Work.gives c.args.self.now.board.shared.table_id.slots 0 c.load.result me new told in
    let links : v.duty.links ≡ self.links.items = ap (λ m. m.0.duty.links) is ∙ (ap (λ d. d.links) duty ∙ got.token.same_links) in
    let seats : v.duty.seats ≡ self.seats = ap (λ m. m.0.duty.seats) is ∙ (ap (λ d. d.seats) duty ∙ got.duty.0) in
    let shares : v.duty.shares ≡ from_to 0 self.seats = ap (λ m. m.0.duty.shares) is ∙ (ap (λ d. d.shares) duty ∙ got.duty.1) in
    let many : length me.0.duty.before ≡ length bs = got.token.same_nodes ∙ sym c.requires.count in
    let words = words_unused g.B.Work.memory g.B.Work.has_room g.B.Work.after g.B.Work.gives c.args.self.now.board.shared.table_id.slots 0 c.load.result me new told (got.unused c.requires.unused) in
    let clear : AreClear (length bs) v.shelf.words = subst (AreClear (length bs)) (sym (ap (λ m. m.0.shelf.words) is)) (clear_is g.B.Work.memory g.B.Work.has_room g.B.Work.after g.B.Work.gives c.args.self.now.board.shared.table_id.slots 0 c.load.result me new told (length bs) many) in
    let size = size_is g.B.Work.memory g.B.Work.has_room g.B.Work.after g.B.Work.gives c.args.self.now.board.shared.table_id.slots 0 c.load.result me new told in
    laid_out bs self.board.shared.table_id.slots v (omega (arith, self.shape.slots, c.requires.count)) swapped.laid.0 (subst (λ (z : ℕ × List Link). AreLinks z.0 z.1) (λ i. (sym c.requires.count i, sym links i)) self.shape.are) clear
    (words.0, ap (λ m. m.0.shelf.words) is ∙ (words.1 ∙ (λ i. (fresh (many i) ((got.token.same_links ∙ sym links) i)).counters ++ words.0)))
    (omega (arith, ap length links, self.shape.few_links, swapped.laid.1, size, self.shape.slots, c.requires.count)) (omega (arith, seats, self.roomy.some_seat)) (shares ∙ ap (from_to 0) (sym seats))

pub deal-requires-clause-token : goal.deal-requires-clause-token
deal-requires-clause-token g c κs within =
    let self = c.args.self.now in
    let v = c.swap_benches.new.seat.me.0 in
    let duty = same_duty g.B.Work.memory g.B.Work.has_room g.B.Work.after g.B.Work.gives c.args.self.now.board.shared.table_id.slots 0 c.load.result c.gather-token.result.me c.load.new.seat.me c.load.ensures.2 in
    let seats : v.duty.seats ≡ self.seats = ap (λ m. m.0.duty.seats) c.swap_benches.ensures.seat.1 ∙ (ap (λ d. d.seats) duty ∙ c.gather-token.ensures.duty.0) in (
      c.open_cycle.ensures.seat.0 ∙ (c.swap_benches.ensures.seat.0 ∙ (c.load.ensures.0 ∙ c.gather-token.ensures.token.table)),
      c.open_cycle.ensures.seat.1,
      dealable c.open_cycle.new.seat.me.0.duty v.duty.links (benches_of self.board.shared.table_id.slots v.shelf.items) v.duty.seats self.seats c.open_cycle.ensures.duty seats,
    )

pub returns-clause-seats : goal.returns-clause-seats
returns-clause-seats g c =
    let self = c.args.self.now in
    let v = c.swap_benches.new.seat.me.0 in
    let left = c.open_cycle.ensures.duty in
    let duty = same_duty g.B.Work.memory g.B.Work.has_room g.B.Work.after g.B.Work.gives c.args.self.now.board.shared.table_id.slots 0 c.load.result c.gather-token.result.me c.load.new.seat.me c.load.ensures.2 in
    let links : c.open_cycle.new.seat.me.0.duty.links ≡ self.links.items = ap (λ d. d.links) left ∙ (ap (λ m. m.0.duty.links) c.swap_benches.ensures.seat.1 ∙ (ap (λ d. d.links) duty ∙ c.gather-token.ensures.token.same_links)) in
    let before : c.open_cycle.new.seat.me.0.duty.before ≡ c.args.benches.now = ap (λ d. d.before) left ∙ laid-of c.args.benches.now v.shelf.items self.board.shared.table_id.slots (omega (arith, self.shape.slots, c.requires.count)) c.swap_benches.ensures.laid.0 in
    subst (λ ls. AreSeats self.board.shared.table_id ls self.nodes self.seats c.deal.new.seats) links
    (seats_dealt self.board.shared.table_id c.open_cycle.new.seat.me.0.duty.links c.open_cycle.new.seat.me.0.duty.before self.nodes self.seats c.deal.new.seats c.deal.ensures.numbers (ap length before ∙ c.requires.count) c.deal.ensures.each).0

pub returns-clause-fresh : goal.returns-clause-fresh
returns-clause-fresh g c =
    let self = c.args.self.now in
    let v = c.swap_benches.new.seat.me.0 in
    let left = c.open_cycle.ensures.duty in
    let duty = same_duty g.B.Work.memory g.B.Work.has_room g.B.Work.after g.B.Work.gives c.args.self.now.board.shared.table_id.slots 0 c.load.result c.gather-token.result.me c.load.new.seat.me c.load.ensures.2 in
    let links : c.open_cycle.new.seat.me.0.duty.links ≡ self.links.items = ap (λ d. d.links) left ∙ (ap (λ m. m.0.duty.links) c.swap_benches.ensures.seat.1 ∙ (ap (λ d. d.links) duty ∙ c.gather-token.ensures.token.same_links)) in
    let before : c.open_cycle.new.seat.me.0.duty.before ≡ c.args.benches.now = ap (λ d. d.before) left ∙ laid-of c.args.benches.now v.shelf.items self.board.shared.table_id.slots (omega (arith, self.shape.slots, c.requires.count)) c.swap_benches.ensures.laid.0 in
    subst (λ (z : List Link × List g.row.B.Denot). AreFresh z.0 z.1 self.seats c.deal.new.seats) (λ i. (links i, before i))
    (seats_dealt self.board.shared.table_id c.open_cycle.new.seat.me.0.duty.links c.open_cycle.new.seat.me.0.duty.before self.nodes self.seats c.deal.new.seats c.deal.ensures.numbers (ap length before ∙ c.requires.count) c.deal.ensures.each).1

pub returns-clause-benches : goal.returns-clause-benches
returns-clause-benches g c before know =
    let got = c.gather-token.ensures in
    let first : c.gather-token.result.me.0.duty.before ≡ before = got.before before know in
    let many : length before ≡ length c.args.benches.now = ap length (sym first) ∙ (got.token.same_nodes ∙ sym c.requires.count) in
    sym (same_items before c.swap_benches.new.benches (many ∙ sym c.swap_benches.ensures.count) (λ n bench e.
    let low = inside before n bench e in
    let it = tray_unused g.B.Work.memory g.B.Work.has_room g.B.Work.after g.B.Work.gives c.args.self.now.board.shared.table_id.slots 0 c.load.result c.gather-token.result.me c.load.new.seat.me c.load.ensures.2 (got.unused c.requires.unused) n (omega (arith, low, ap length first)) in
    c.swap_benches.ensures.taken n it.0 (omega (arith, low, many)) it.1 ∙ (sym it.2 ∙ (ap (λ l. get_elem? l n) first ∙ e))))
