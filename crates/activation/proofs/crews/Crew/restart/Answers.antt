use Rattle.std.proofs.Common.{arith, ◌≡◌, ◌+◌, ◌-◌, ◌++◌, ℕ, List, length, map, sym, ap, ◌∙◌, subst, length-set}
use Rattle.session_laws.specs.jack_types.specs.declared.ports.Link.{Link}
use Rattle.session_laws.specs.session_model.specs.Activation.{AreLinks, incoming}
use Rattle.session_laws.specs.session_model.specs.Samples.{below}
use Rattle.activation.specs.Contents.{AreLaid, benches_in, from_to}
use lib.ListN.{get_elem?}
use Rattle.atomic_table.proofs.Lists.{set_else}
use Rattle.activation.specs.Plays.{AreClear}
use Rattle.activation.specs.Seats.{new_duty}
use Rattle.activation.proofs.Begun.{laid_out, map-map}
use Rattle.activation.proofs.Entered.{laid_from}
use Rattle.activation.proofs.Gathered.{are_more}
use Rattle.activation.proofs.Played.{length-mapped}
use Rattle.activation.proofs.crews.Crew.restart.Goals as goal

pub add_links-requires-clause-links : goal.add_links-requires-clause-links
add_links-requires-clause-links g c κs within =
    let shape = c.args.self.now.shape in
    subst (AreLinks c.args.self.now.board.shared.table_id.words) (sym c.as_slice.ensures.value) (are_more c.args.self.now.nodes c.args.self.now.board.shared.table_id.words c.args.self.now.links.items (omega (arith, shape.words)) shape.are)

pub set_counters-requires-clause-words : goal.set_counters-requires-clause-words
set_counters-requires-clause-words g c κs within =
    let self = c.args.self.now in
    let many : length self.into.items ≡ self.nodes = length-mapped (λ into. into.items) self.into.items (incoming self.links.items) self.nodes self.shape.into_are in
    let value = ap length c.as_slice-2.ensures.value in
    let first = c.args.token.now.me.0.shelf.words in
    let wrote : length c.write.new.seat.me.0.shelf.words ≡ length c.add_links.new.seat.me.0.shelf.words = ap (λ m. length m.0.shelf.words) c.write.ensures.1 ∙ length-set c.add_links.new.seat.me.0.shelf.words _ _ in
    (omega (arith, many, value, self.shape.words), omega (arith, many, value, wrote, c.add_links.ensures.words, c.requires.sizes.1))

pub open_cycle-requires-clause-laid : goal.open_cycle-requires-clause-laid
open_cycle-requires-clause-laid g c κs within =
    let self = c.args.self.now in
    let slots : ℕ = self.board.shared.table_id.slots in
    let n : ℕ = self.nodes in
    let first = c.args.token.now.me.0 in
    let items = first.shelf.items in
    let bs = benches_in n items in
    let from = laid_from n items c.requires.benches in
    let v = c.set_counters.new.seat.me.0 in
    let added = c.add_links.ensures.seat.1 in
    let wrote = c.write.ensures.1 in
    let set = c.set_counters.ensures.seat.1 in
    let linked : v.duty.links ≡ self.links.items = ap (λ m. m.0.duty.links) set ∙ (ap (λ m. m.0.duty.links) wrote ∙ (ap (λ m. m.0.duty.links) added ∙ c.as_slice.ensures.value)) in
    let same : v.shelf.items ≡ items = ap (λ m. m.0.shelf.items) set ∙ (ap (λ m. m.0.shelf.items) wrote ∙ ap (λ m. m.0.shelf.items) added) in
    let seats : v.duty.seats ≡ self.seats = ap (λ m. m.0.duty.seats) set ∙ (ap (λ m. m.0.duty.seats) wrote ∙ (ap (λ m. m.0.duty.seats) added ∙ c.requires.token.2)) in
    let shares : v.duty.shares ≡ from_to 0 self.seats = ap (λ m. m.0.duty.shares) set ∙ (ap (λ m. m.0.duty.shares) wrote ∙ (ap (λ m. m.0.duty.shares) added ∙ c.requires.token.3)) in
    let counters = c.set_counters.ensures.counters in
    let many : length c.as_slice-2.result.now ≡ n = ap length c.as_slice-2.ensures.value ∙ length-mapped (λ l. l.items) self.into.items (incoming self.links.items) n self.shape.into_are in
    let into : map (λ l. length l.items + 1) self.into.items ≡ map (λ k. length (incoming self.links.items k) + 1) (below n) =
    sym (map-map (λ l. length l + 1) (λ l. l.items) self.into.items) ∙ (ap (map (λ l. length l + 1)) self.shape.into_are ∙ map-map (λ l. length l + 1) (incoming self.links.items) (below n)) in
    let clear : AreClear n v.shelf.words = λ k low.
    c.set_counters.ensures.others (n + 513 + k) (omega (arith, many))
    ∙ (ap (λ m. get_elem? m.0.shelf.words (n + 513 + k)) wrote
    ∙ (set_else c.add_links.new.seat.me.0.shelf.words (n + 512) (n + 513 + k) n (λ e. absurd (omega (arith, e)))
    ∙ (c.add_links.ensures.others n (n + 513 + k) (subst (AreLinks n) (sym c.as_slice.ensures.value) self.shape.are) (omega arith) ∙ c.requires.clear k low))) in
    laid_out bs slots v (omega (arith, self.shape.slots, from.0)) (subst (AreLaid bs) (sym same) from.1) (subst (λ (z : ℕ × List Link). AreLinks z.0 z.1) (λ i. (sym from.0 i, sym linked i)) self.shape.are) (subst (λ k. AreClear k v.shelf.words) (sym from.0) clear) (
      counters.0,
      counters.1 ∙ (ap (λ l. map (λ links. length links.items + 1) l ++ counters.0) c.as_slice-2.ensures.value ∙ (ap (λ l. l ++ counters.0) into ∙ (λ i. map (λ k. length (incoming (sym linked i) k) + 1) (below (sym from.0 i)) ++ counters.0))),
    )
    (omega (arith, from.0, ap length linked, self.shape.few_links, ap length same, c.requires.sizes.0, self.shape.slots)) (omega (arith, seats, self.roomy.some_seat)) (shares ∙ ap (from_to 0) (sym seats))

pub returns-clause-duty : goal.returns-clause-duty
returns-clause-duty g c =
    let self = c.args.self.now in
    let items = c.args.token.now.me.0.shelf.items in
    let v = c.set_counters.new.seat.me.0 in
    let added = c.add_links.ensures.seat.1 in
    let wrote = c.write.ensures.1 in
    let set = c.set_counters.ensures.seat.1 in
    let linked : v.duty.links ≡ self.links.items = ap (λ m. m.0.duty.links) set ∙ (ap (λ m. m.0.duty.links) wrote ∙ (ap (λ m. m.0.duty.links) added ∙ c.as_slice.ensures.value)) in
    let same : v.shelf.items ≡ items = ap (λ m. m.0.shelf.items) set ∙ (ap (λ m. m.0.shelf.items) wrote ∙ ap (λ m. m.0.shelf.items) added) in
    let seats : v.duty.seats ≡ self.seats = ap (λ m. m.0.duty.seats) set ∙ (ap (λ m. m.0.duty.seats) wrote ∙ (ap (λ m. m.0.duty.seats) added ∙ c.requires.token.2)) in
    let n : self.board.shared.table_id.slots - 512 ≡ self.nodes = omega (arith, self.shape.slots) in
    c.open_cycle.ensures.duty ∙ (λ i. new_duty (linked i) (benches_in (n i) (same i)) (seats i) (from_to 0 (seats i)))
