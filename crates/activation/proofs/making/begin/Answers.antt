use Rattle.std.proofs.Common.{rules, arith, ◌≡◌, ◌+◌, ◌++◌, ℕ, [], length, map, None, sym, ap, ◌∙◌, subst, refl, length-set}
use Rattle.session_laws.specs.session_model.specs.Activation.{incoming}
use Rattle.session_laws.specs.session_model.specs.Samples.{below}
use Rattle.activation.specs.Contents.{first_view, benches_of, from_to}
use lib.ListN.{get_elem?}
use Rattle.atomic_table.proofs.Lists.{set_else}
use Rattle.activation.specs.Plays.{AreClear, with_items, with_words}
use Rattle.activation.specs.Seats.{new_duty}
use Rattle.activation.specs.Rounds.{IsLaidOut}
use Rattle.activation.proofs.Begun.{laid_out, laid-of, map-map, at_replicate, long_replicate}
use Rattle.activation.proofs.Played.{length-mapped}
use Rattle.activation.proofs.making.begin.Goals as goal

pub set_counters-requires-clause-words : goal.set_counters-requires-clause-words
set_counters-requires-clause-words g c κs within =
    let board = c.requires.board in
    let bs = c.args.benches.now.items in
    let many : length c.args.into.now ≡ length bs = length-mapped (λ into. into.items) c.args.into.now (incoming c.args.token.now.me.0.duty.links) (length bs) c.requires.index.2 in
    let words : length c.lay_benches.new.seat.me.0.shelf.words ≡ length bs + 512 + 65 =
    ap (λ m. length m.0.shelf.words) c.lay_benches.ensures.seat.1 ∙ (ap (λ m. length m.0.shelf.words) board.3 ∙ long_replicate (length bs + 512 + 65) 0) in
    let kept : length c.write.new.seat.me.0.shelf.words ≡ length c.lay_benches.new.seat.me.0.shelf.words = ap (λ m. length m.0.shelf.words) c.write.ensures.1 ∙ length-set c.lay_benches.new.seat.me.0.shelf.words _ _ in
    (omega (arith, many, board.0), omega (arith, many, words, kept))

pub write-requires-clause-word : goal.write-requires-clause-word
write-requires-clause-word g c κs within =
    let many : length c.args.into.now ≡ length c.args.benches.now.items = length-mapped (λ into. into.items) c.args.into.now (incoming c.args.token.now.me.0.duty.links) (length c.args.benches.now.items) c.requires.index.2 in
    omega (arith, many, c.requires.board.0)

pub open_cycle-requires-clause-laid : goal.open_cycle-requires-clause-laid
open_cycle-requires-clause-laid g c κs within =
    let board = c.requires.board in
    let bs = c.args.benches.now.items in
    let links = c.args.token.now.me.0.duty.links in
    let seats : ℕ = c.args.token.now.me.0.duty.seats in
    let slots : ℕ = length bs + 512 in
    let items = c.lay_benches.new.seat.me.0.shelf.items in
    let words = c.set_counters.new.seat.me.0.shelf.words in
    let laid : c.lay_benches.new.seat.me ≡ (with_items (first_view links slots seats) items, []) = c.lay_benches.ensures.seat.1 ∙ (λ i. (with_items (board.3 i).0 items, [])) in
    let mid : c.write.new.seat.me ≡ (with_words (with_items (first_view links slots seats) items) c.write.new.seat.me.0.shelf.words, []) = c.write.ensures.1 ∙ (λ i. (with_words (laid i).0 (sym (ap (λ m. m.0.shelf.words) c.write.ensures.1) i), [])) in
    let me : c.set_counters.new.seat.me ≡ (with_words (with_items (first_view links slots seats) items) words, []) = c.set_counters.ensures.seat.1 ∙ (λ i. (with_words (mid i).0 words, [])) in
    let size : length items ≡ slots = c.lay_benches.ensures.others.0 ∙ (ap (λ m. length m.0.shelf.items) board.3 ∙ long_replicate slots None) in
    let counters = c.set_counters.ensures.counters in
    let are : words ≡ map (λ k. length (incoming links k) + 1) (below (length bs)) ++ counters.0 =
    counters.1 ∙ ap (λ l. l ++ counters.0) (sym (map-map (λ l. length l + 1) (λ into. into.items) c.args.into.now) ∙ (ap (map (λ l. length l + 1)) c.requires.index.2 ∙ map-map (λ l. length l + 1) (incoming links) (below (length bs)))) in
    let many : length c.args.into.now ≡ length bs = length-mapped (λ into. into.items) c.args.into.now (incoming links) (length bs) c.requires.index.2 in
    let clear : AreClear (length bs) words = λ k low.
    let word : ℕ = length bs + 513 + k in
    c.set_counters.ensures.others word (omega (arith, many))
    ∙ (ap (λ m. get_elem? m.0.shelf.words word) c.write.ensures.1
    ∙ (set_else c.lay_benches.new.seat.me.0.shelf.words (length c.args.into.now + 512) word (length c.args.into.now) (λ e. absurd (omega (arith, e, many)))
    ∙ (ap (λ m. get_elem? m.0.shelf.words word) laid ∙ at_replicate (slots + 65) word 0 (omega (arith, low, c.requires.few))))) in
    subst (λ m. IsLaidOut c.args.board.now.shared.table_id.slots m.0) (sym me)
    (laid_out bs c.args.board.now.shared.table_id.slots (with_words (with_items (first_view links slots seats) items) words) board.1 c.lay_benches.ensures.laid c.requires.index.0 clear (counters.0, are) (omega (arith, size, c.requires.index.1)) c.requires.room.2 refl)

pub returns-clause-token : goal.returns-clause-token
returns-clause-token g c =
    let board = c.requires.board in
    let bs = c.args.benches.now.items in
    let links = c.args.token.now.me.0.duty.links in
    let seats : ℕ = c.args.token.now.me.0.duty.seats in
    let slots : ℕ = length bs + 512 in
    let items = c.lay_benches.new.seat.me.0.shelf.items in
    let words = c.set_counters.new.seat.me.0.shelf.words in
    let laid : c.lay_benches.new.seat.me ≡ (with_items (first_view links slots seats) items, []) = c.lay_benches.ensures.seat.1 ∙ (λ i. (with_items (board.3 i).0 items, [])) in
    let mid : c.write.new.seat.me ≡ (with_words (with_items (first_view links slots seats) items) c.write.new.seat.me.0.shelf.words, []) = c.write.ensures.1 ∙ (λ i. (with_words (laid i).0 (sym (ap (λ m. m.0.shelf.words) c.write.ensures.1) i), [])) in
    let me : c.set_counters.new.seat.me ≡ (with_words (with_items (first_view links slots seats) items) words, []) = c.set_counters.ensures.seat.1 ∙ (λ i. (with_words (mid i).0 words, [])) in (
      search rules,
      c.open_cycle.ensures.seat.1,
      c.open_cycle.ensures.duty
          ∙ ((λ i. new_duty (me i).0.duty.links (benches_of c.args.board.now.shared.table_id.slots (me i).0.shelf.items) (me i).0.duty.seats (from_to 0 (me i).0.duty.seats)) ∙ ap (λ l. new_duty links l seats (from_to 0 seats)) (laid-of bs items c.args.board.now.shared.table_id.slots board.1 c.lay_benches.ensures.laid)),
    )
