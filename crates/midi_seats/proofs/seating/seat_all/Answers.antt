use Rattle.std.proofs.Common.{◌≡◌, ◌+◌, ◌∙◌, arith, length, subst, sym}
use Rattle.std.proofs.lemmas.List.{get_or_default}
use Rattle.port_registry.specs.Registered.{system_entry}
use Rattle.midi_seats.specs.Seating.{SeatsAll}
use Rattle.midi_seats.proofs.SeatsLemmas.{seats-more, seats-none}
use Rattle.midi_seats.proofs.seating.seat_all.Goals as goal

pub loop-client-init : goal.loop-client-init
loop-client-init c = record {
  seated = subst (λ items. SeatsAll c.args.nodes.now 0 items c.args.benches.now c.args.benches.now) (sym c.clear.ensures.items) (seats-none c.args.nodes.now c.args.benches.now);
  room = c.clear.ensures.capacity;
}

pub loop-client-preserved : goal.loop-client-preserved
loop-client-preserved c = record {
  seated = subst (λ items. SeatsAll c.args.nodes.now (c.loop-client.client-index + 1) items c.args.benches.now c.seat_client.new.benches) (sym c.push_reserved.ensures.items)
      (seats-more c.args.nodes.now c.loop-client.client-index c.loop-client.seats.items c.args.benches.now c.loop-client.benches c.seat_client.new.benches c.client-item.result
      (c.client-item.is ∙ get_or_default c.args.nodes.now c.loop-client.client-index c.client-item.result system_entry c.loop-client-test.true) c.loop-client.invariant.seated c.in_ok-seat.seat c.in_ok-seat.ensures.ok);
  room = c.push_reserved.ensures.capacity ∙ c.loop-client.invariant.room;
}

pub returns-clause-ok : goal.returns-clause-ok
returns-clause-ok c =
    subst (λ k. SeatsAll c.args.nodes.now k c.loop-client.seats.items c.args.benches.now c.loop-client.benches)
    (let whole : c.loop-client.client-index ≡ length c.args.nodes.now = omega (arith, c.loop-client-test.false, c.loop-client.auto.client-index-end) in whole) c.loop-client.invariant.seated
