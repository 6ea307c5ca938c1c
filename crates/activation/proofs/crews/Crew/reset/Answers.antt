use Rattle.std.proofs.Common.{arith, ◌≡◌, ◌<◌, List, length, map, sym, ap, ◌∙◌, subst, refl}
use mathlib.Core.Option.{some}
use Rattle.table_lemmas.proofs.Readings.{inside}
use Rattle.session_laws.specs.jack_types.specs.declared.ports.Link.{Link}
use Rattle.session_laws.specs.session_model.specs.Activation.{AreLinks, incoming, outgoing, place_among}
use Rattle.session_laws.specs.session_model.specs.Samples.{below}
use Rattle.activation.specs.declared.takens.Seat.{Seat}
use Rattle.activation.specs.Contents.{benches_in}
use Rattle.activation.specs.Rounds.{AreSeats, AreFresh, IsReturned}
use Rattle.activation.proofs.Entered.{laid_from}
use Rattle.activation.proofs.Gathered.{dealable, seats_dealt, long_as, sits}
use Rattle.activation.proofs.Played.{length-mapped}
use Rattle.activation.proofs.Turning.{same_items}
use Rattle.activation.proofs.crews.Crew.reset.Goals as goal

pub invariant_of-self : goal.invariant_of-self
invariant_of-self g c =
    let self = c.args.self.now in
    let same = c.refill.ensures.links in
    let room = c.refill.ensures.room in
    let many : length self.into.items ≡ self.nodes = length-mapped (λ into. into.items) self.into.items (incoming self.links.items) self.nodes self.shape.into_are in record {
      shape = record {
        slots = self.shape.slots;
        words = self.shape.words;
        are = subst (AreLinks self.nodes) (sym same) c.requires.links.0;
        few_nodes = self.shape.few_nodes;
        few_links = omega (arith, ap length same, c.requires.links.1);
        into_are = c.refill.ensures.into ∙ (λ i. map (incoming (sym same i)) (below (many i)));
        places_are = c.refill.ensures.places ∙ (λ i. map (place_among (sym same i)) (below (length (sym same i))));
      };
      outward = (c.refill.ensures.out ∙ (λ i. map (outgoing (sym same i)) (below (many i))), room.2);
      roomy = record { some_seat = self.roomy.some_seat; few_seats = self.roomy.few_seats; for_links = room.0; for_into = room.1; for_places = room.3 };
    }

pub refill-requires-clause-links : goal.refill-requires-clause-links
refill-requires-clause-links g c =
    let self = c.args.self.now in
    let many : length self.into.items ≡ self.nodes = length-mapped (λ into. into.items) self.into.items (incoming self.links.items) self.nodes self.shape.into_are in
    let many_out : length self.out.items ≡ self.nodes = length-mapped (λ out. out.items) self.out.items (outgoing self.links.items) self.nodes self.outward.0 in
    (subst (λ n. AreLinks n c.args.links.now) (sym many) c.requires.links.0, c.requires.links.1, many_out ∙ sym many)

pub deal-requires-clause-token : goal.deal-requires-clause-token
deal-requires-clause-token g c κs within = (
  c.restart.ensures.token.0 ∙ c.recover-token.ensures.token.0,
  c.restart.ensures.token.1,
  dealable c.restart.new.token.me.0.duty c.refill.new.kept.items (benches_in c.args.self.now.nodes c.recover-token.result.me.0.shelf.items) c.args.self.now.seats c.args.self.now.seats c.restart.ensures.duty refl,
)

pub returns-clause-seats : goal.returns-clause-seats
returns-clause-seats g c =
    let self = c.args.self.now in
    let from = laid_from self.nodes c.recover-token.result.me.0.shelf.items c.recover-token.ensures.benches in
    let duty = c.restart.ensures.duty in
    subst (λ ls. AreSeats self.board.shared.table_id ls self.nodes self.seats c.deal.new.seats) (ap (λ d. d.links) duty ∙ c.refill.ensures.links)
    (seats_dealt self.board.shared.table_id c.restart.new.token.me.0.duty.links c.restart.new.token.me.0.duty.before self.nodes self.seats c.deal.new.seats c.deal.ensures.numbers (ap (λ d. length d.before) duty ∙ from.0) c.deal.ensures.each).0

pub returns-clause-fresh : goal.returns-clause-fresh
returns-clause-fresh g c =
    let self = c.args.self.now in
    let items = c.recover-token.result.me.0.shelf.items in
    let benches = benches_in self.nodes items in
    let from = laid_from self.nodes items c.recover-token.ensures.benches in
    let duty = c.restart.ensures.duty in (
      benches,
      from.0,
      subst (λ (z : List Link × List g.row.B.Denot). AreFresh z.0 z.1 self.seats c.deal.new.seats) (λ i. ((ap (λ d. d.links) duty ∙ c.refill.ensures.links) i, ap (λ d. d.before) duty i))
          (seats_dealt self.board.shared.table_id c.restart.new.token.me.0.duty.links c.restart.new.token.me.0.duty.before self.nodes self.seats c.deal.new.seats c.deal.ensures.numbers (ap (λ d. length d.before) duty ∙ from.0) c.deal.ensures.each).1,
      (λ before know all n bench e.
          let it = from.1 n bench e in
          let low = inside benches n bench e in
          subst (λ b. IsReturned g.B.Work.memory g.B.Work.has_room g.B.Work.after g.B.Work.gives self.links.items before n b) it.2 (c.recover-token.ensures.played before know all n it.0 (omega (arith, low, from.0)) it.1)),
      (λ before know idle.
          let all = c.args.seats.now in
          let d : Seat g.row.B.Denot g.row.B-Value.Denot g.row.B-Memory.Denot = record { number = 0; token = c.recover-token.result } in
          let some_seat = self.roomy.some_seat in
          let low : 0 < length all = omega (arith, some_seat, long_as all self.seats c.requires.all.numbers) in
          let many : length before ≡ self.nodes = ap length (sym (know 0 d low)) ∙ (sits self.board.shared.table_id self.links.items self.nodes self.seats all c.requires.all 0 d some_seat).at.same_nodes in
          same_items benches before (from.0 ∙ sym many) (λ n bench e.
          let it = from.1 n bench e in
          let low = inside benches n bench e in
          c.recover-token.ensures.unused before know idle n it.0 (omega (arith, low, from.0)) it.1 ∙ ap some it.2)),
    )
