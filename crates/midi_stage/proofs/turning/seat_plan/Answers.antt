use Rattle.std.proofs.Common.{List, refl, subst, sym, ◌∙◌}
use Rattle.std.specs.Vec.{with_items}
use Rattle.std.proofs.lemmas.List.{with_items_is}
use Rattle.jack_types.specs.declared.ports.Client.{Client}
use Rattle.midi_seats.specs.declared.seating.Owned.{Owned}
use Rattle.midi_seats.specs.Seating.{SeatsSome}
use Rattle.midi_stage.proofs.turning.seat_plan.Goals as goal

pub returns-in-Err-clause-some : goal.returns-in-Err-clause-some
returns-in-Err-clause-some c e =
    let some : SeatsSome c.nodes-nodes.result.now c.seat_all.new.seats.items c.as_mut_slice.result.now c.seat_all.new.benches = c.in-Err.ensures.refused refl in (
      c.seat_all.new.seats.items,
      subst (λ (nodes : List Client). SeatsSome nodes c.seat_all.new.seats.items c.args.owners.now.items (with_items c.args.owners.now c.seat_all.new.benches).items) c.nodes-nodes.ensures.value
          (subst (λ (owners : List Owned). SeatsSome c.nodes-nodes.result.now c.seat_all.new.seats.items owners (with_items c.args.owners.now c.seat_all.new.benches).items) c.as_mut_slice.ensures.value
          (subst (λ (owners : List Owned). SeatsSome c.nodes-nodes.result.now c.seat_all.new.seats.items c.as_mut_slice.result.now owners)
          (sym (with_items_is c.args.owners.now c.seat_all.new.benches (some.seated.benches ∙ c.as_mut_slice.ensures.len))) some)),
    )
