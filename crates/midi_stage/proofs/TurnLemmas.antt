-- How the parts turn to a plan.
--     TurnsTo-turn      to another one
--     TurnsTo-same      to one of the last one's number
use Rattle.std.proofs.Common.{◌≡◌, ℕ, inl, Bool, true, false, List, [], length, take, Option, Some, refl, sym, ◌∙◌, ap, ap₂, subst}
use Rattle.std.specs.Vec.{vec_capacity}
use Rattle.std.proofs.Math.Seq.{take-length}
use Rattle.session_model.specs.Commands.{replay}
use Rattle.session_model.specs.State.{OpenClient}
use Rattle.port_registry.specs.Registered.{open_clients}
use Rattle.midi_wiring.specs.cycle_plan.specs.Plans.{IsPlanned, Planned, nodes_of, opening_of, state_of_plan}
use Rattle.midi_wiring.specs.Wirings.{midi_wired, midi_wired_of}
use Rattle.midi_seats.specs.Owning.{AreKnown, HaveSeats, IsShort}
use Rattle.midi_seats.specs.Seating.{SeatsAll, SeatsSome, owner_of}
use Rattle.midi_stage.specs.Insides.{GoesOnFrom, IsTurned, Stands, TurnsTo, kinds_in}
use Rattle.midi_stage.specs.declared.parts.Parts.{Parts}

untrue : (b : Bool) → b ≡ true → b ≡ false → ⊥
untrue b e f = cc

module _ (plan : Planned) (planned : IsPlanned plan) (old new : Parts) (number : new.number ≡ Some (length plan.changes)) (wired : new.wiring ≡ midi_wired_of plan)
    (all : new.is_staffed ≡ true → SeatsAll plan.nodes (length plan.nodes) new.sounds.seats.items old.owners.items new.owners.items)
    (some : new.is_staffed ≡ false → (seated : List (Option ℕ)) × SeatsSome plan.nodes seated old.owners.items new.owners.items)
    (none : new.is_staffed ≡ false → new.sounds.seats.items ≡ []) (room : vec_capacity new.sounds.seats ≡ vec_capacity old.sounds.seats)
    (same : new ≡ record old { owners = new.owners; sounds = record old.sounds { seats = new.sounds.seats }; wiring = new.wiring; number = new.number; is_staffed = new.is_staffed })
    (known_all : (seats : List (Option ℕ)) → SeatsAll plan.nodes (length plan.nodes) seats old.owners.items new.owners.items → AreKnown plan.changes (kinds_in old) new.owners.items)
    (known_some : (seats : List (Option ℕ)) → SeatsSome plan.nodes seats old.owners.items new.owners.items → AreKnown plan.changes (kinds_in old) new.owners.items)
    (have : (seats : List (Option ℕ)) → SeatsAll plan.nodes (length plan.nodes) seats old.owners.items new.owners.items → HaveSeats (open_clients plan.nodes) seats new.owners.items)
    (short : (seats : List (Option ℕ)) → SeatsSome plan.nodes seats old.owners.items new.owners.items → IsShort (open_clients plan.nodes) new.owners.items) where
  known-new : (b : Bool) → new.is_staffed ≡ b → AreKnown plan.changes (kinds_in old) new.owners.items
  known-new true e = known_all new.sounds.seats.items (all e)
  known-new false e = known_some (some e).0 (some e).1

  owned-new : (b : Bool) → new.is_staffed ≡ b → (bench birth : ℕ) → owner_of old.owners.items bench ≡ Some birth → owner_of new.owners.items bench ≡ Some birth
  owned-new true e = (all e).owned
  owned-new false e = ((some e).1).seated.owned

  pub TurnsTo-turn : TurnsTo plan old new
  TurnsTo-turn = record {
    known = known-new new.is_staffed refl;
    turned = record {
      planned = planned;
      wired = wired;
      seats = λ e. have new.sounds.seats.items (all e);
      short = λ e. short (some e).0 (some e).1;
      unseated = none;
    };
    number = number;
    owned = owned-new new.is_staffed refl;
    seated = λ e. (all e).seated;
    seats_room = room;
    same = same;
  }

module _ (last plan : Planned) (planned : IsPlanned plan) (goes : GoesOnFrom last plan) (parts : Parts) where
  module _ (turned : IsTurned last parts) (many : length plan.changes ≡ length last.changes) where
    changes-same : plan.changes ≡ last.changes
    changes-same = sym (take-length plan.changes) ∙ ap (λ n. take n plan.changes) many ∙ sym goes.front

    state-same : state_of_plan plan ≡ state_of_plan last
    state-same = ap₂ (λ base changes. replay (opening_of base) changes) goes.base changes-same

    nodes-same : open_clients plan.nodes ≡ open_clients last.nodes
    nodes-same = planned.nodes ∙ ap nodes_of state-same ∙ sym turned.planned.nodes

    wired-same : midi_wired_of plan ≡ midi_wired_of last
    wired-same = ap₂ midi_wired state-same nodes-same

    pub IsTurned-same : IsTurned plan parts
    IsTurned-same = record {
      planned = planned;
      wired = turned.wired ∙ sym wired-same;
      seats = λ e. subst (λ (nodes : List OpenClient). HaveSeats nodes parts.sounds.seats.items parts.owners.items) (sym nodes-same) (turned.seats e);
      short = λ e. subst (λ (nodes : List OpenClient). IsShort nodes parts.owners.items) (sym nodes-same) (turned.short e);
      unseated = turned.unseated;
    }

  pub TurnsTo-same : Stands last parts → AreKnown plan.changes (kinds_in parts) parts.owners.items → parts.number ≡ Some (length plan.changes) → TurnsTo plan parts parts
  TurnsTo-same stands known number =
      let turned = stands.turned (length plan.changes) number in
      record {
        known = known;
        turned = IsTurned-same turned.1 turned.0;
        number = number;
        owned = λ b birth e. e;
        seated = λ e b birth f. inl f;
        seats_room = refl;
        same = refl;
      }
