use Rattle.std.proofs.Common.{◌≡◌, ◌++◌, [], List, ℤ, Option, Some, None, sym, ◌∙◌, ap, ap₂, length, take, drop, option_map}
use Rattle.std.specs.Prelude.{slice_index_or, nat_lt, if◌then◌else◌}
use Rattle.activation.specs.session_model.specs.Benches.{Signal}
use Rattle.activation.specs.session_model.specs.Kinds.{play}
use Rattle.activation.specs.Values.{values_of}
use Rattle.client_kinds.specs.Buffers.{buffers_of}
use Rattle.client_benches.specs.declared.values.Route.{Route}
use Rattle.client_benches.specs.declared.wires.Wire.{Wire}
use Rattle.client_benches.specs.Routes.{carried_by}
use Rattle.client_benches.specs.Seen.{Remembered, Seen, kept_after, kept_gives, own_sounds, room_at}
use Rattle.client_benches.specs.Wires.{inputs_of}
use Rattle.client_benches.proofs.SliceLemmas.{front}
use Rattle.client_benches.proofs.InsideLemmas.{reached-filled, room-stays, shape-played, sound-played}
use Rattle.client_benches.proofs.KeptLemmas.{kept-played, gives-carried}
use Rattle.client_benches.proofs.benches.ClientBench.play_turn.Goals as goal

pub invariant_of-self : goal.invariant_of-self
invariant_of-self g c =
    let holds = rw (← c.deref_mut-parts.ensures.value) at c.self.invariant in (
      room-stays c.deref_mut-parts.result.now.bench c.play_front.new.bench _ c.deref_mut-parts.result.now.mixer c.mix_inputs.new.mixer c.deref_mut-parts.result.now.padded.items _ c.deref_mut-parts.result.now.input.items _ c.deref_mut-parts.result.now.output.items _ c.deref_mut-parts.result.now.wires c.deref_mut-parts.result.now.routes c.deref_mut-parts.result.now.rooms.items _
          c.play_front.ensures.bench c.mix_inputs.ensures.room
          (ap length (front c.deref_mut-parts.result.now.padded.len c.mix_inputs.new.padded _ (padded ∙ sym c.deref_mut-parts.result.now.padded.ok.0)) ∙ padded)
          (ap length (front c.deref_mut-parts.result.now.input.len c.mix_inputs.new.inputs _ (input ∙ sym c.deref_mut-parts.result.now.input.ok.0)) ∙ input)
          (ap length (front c.deref_mut-parts.result.now.output.len c.play_front.new.output _ (output ∙ sym c.deref_mut-parts.result.now.output.ok.0)) ∙ output)
          (ap length (front c.deref_mut-parts.result.now.rooms.len c.fill_rooms.new.rooms _ (rooms ∙ sym c.deref_mut-parts.result.now.rooms.ok.0)) ∙ rooms)
          holds.0,
      shape-played c.deref_mut-parts.result.now.bench c.play_front.new.bench _ c.args.turn c.play_front.ensures.bench (holds.2.task c.args.turn busy),
      sound-played g.G.Guest.sound c.deref_mut-parts.result.now.bench c.play_front.new.bench c.deref_mut-parts.result.now.turn c.args.turn c.deref_mut-parts.result.now.routes.items _ busy c.play_front.ensures.bench holds.2,
      rw rooms_is (reached-filled c.deref_mut-parts.result.now.reached c.args.turn.links c.deref_mut-4.result.now c.fill_rooms.new.rooms _ c.fill_rooms.ensures.filled (rw c.deref_mut-4.ensures.value holds.3)),
    )
  where
    busy : c.deref_mut-parts.result.now.turn ≡ Some c.args.turn
    busy = ap (λ (seen : Seen). seen.kept.turn) (rw (← c.deref_mut-parts.ensures.value) at c.self.view_is) ∙ c.requires.turn

    padded : length c.mix_inputs.new.padded ≡ length c.deref_mut-parts.result.now.padded.items
    padded = c.mix_inputs.auto.padded ∙ ap length c.deref_mut.ensures.value

    input : length c.mix_inputs.new.inputs ≡ length c.deref_mut-parts.result.now.input.items
    input = c.mix_inputs.auto.inputs ∙ ap length c.deref_mut-2.ensures.value

    output : length c.play_front.new.output ≡ length c.deref_mut-parts.result.now.output.items
    output = c.play_front.auto.output ∙ ap length c.deref_mut-3.ensures.value

    rooms : length c.fill_rooms.new.rooms ≡ length c.deref_mut-parts.result.now.rooms.items
    rooms = c.fill_rooms.auto.rooms ∙ ap length c.deref_mut-4.ensures.value

    rooms_is : take c.deref_mut-parts.result.now.rooms.len (c.fill_rooms.new.rooms ++ drop (length c.fill_rooms.new.rooms) c.deref_mut-parts.result.now.rooms.items) ≡ c.fill_rooms.new.rooms
    rooms_is = front c.deref_mut-parts.result.now.rooms.len c.fill_rooms.new.rooms (drop (length c.fill_rooms.new.rooms) c.deref_mut-parts.result.now.rooms.items) (rooms ∙ sym c.deref_mut-parts.result.now.rooms.ok.0)

pub returns-clause-kept : goal.returns-clause-kept
returns-clause-kept g c =
    let holds = rw (← c.deref_mut-parts.ensures.value) at c.self.invariant in
    let seen = rw (← c.deref_mut-parts.ensures.value) at c.self.view_is in
    ap₂ (λ (heard sounded : List ℤ). record { standing = c.play_front.new.bench; turn = c.deref_mut-parts.result.now.turn; wires = c.deref_mut-parts.result.now.wires.items; routes = c.deref_mut-parts.result.now.routes.items; sounds = buffers_of c.args.turn.ports.inputs c.args.turn.ports.period heard; audio = buffers_of c.args.turn.ports.outputs c.args.turn.ports.period sounded })
    input_is output_is
    ∙ kept-played g.G.Guest.sound kept (values_of c.args.given.now) c.args.turn c.play_front.new.bench (buffers_of c.args.turn.ports.inputs c.args.turn.ports.period c.mix_inputs.new.inputs) (buffers_of c.args.turn.ports.outputs c.args.turn.ports.period c.play_front.new.output)
    (ap (λ (seen : Seen). seen.kept.turn) seen ∙ c.requires.turn) holds.2.log
    (c.mix_inputs.ensures.mixed ∙ ap (λ (wires : List Wire). inputs_of c.args.turn.ports.period wires (values_of c.args.given.now) c.args.turn.ports.inputs) c.as_slice.ensures.value)
    (c.play_front.ensures.bench ∙ ap (λ (heard : List ℤ). record c.deref_mut-parts.result.now.bench { memory = (play (own_sounds g.G.Guest.sound c.deref_mut-parts.result.now.bench) c.deref_mut-parts.result.now.bench.kind c.deref_mut-parts.result.now.bench.memory c.args.turn.ports.outputs c.args.turn.moment c.args.turn.ports.period (buffers_of c.args.turn.ports.inputs c.args.turn.ports.period heard)).memory }) (c.deref.ensures.value ∙ input_is))
    (c.play_front.ensures.output ∙ ap (λ (heard : List ℤ). (play (own_sounds g.G.Guest.sound c.deref_mut-parts.result.now.bench) c.deref_mut-parts.result.now.bench.kind c.deref_mut-parts.result.now.bench.memory c.args.turn.ports.outputs c.args.turn.moment c.args.turn.ports.period (buffers_of c.args.turn.ports.inputs c.args.turn.ports.period heard)).outputs) (c.deref.ensures.value ∙ input_is))
    ∙ ap (λ (seen : Seen). kept_after g.G.Guest.sound seen.kept (values_of c.args.given.now)) seen
  where
    kept : Remembered
    kept = record {
      standing = c.deref_mut-parts.result.now.bench;
      turn = c.deref_mut-parts.result.now.turn;
      wires = c.deref_mut-parts.result.now.wires.items;
      routes = c.deref_mut-parts.result.now.routes.items;
      sounds = buffers_of c.deref_mut-parts.result.now.played.inputs c.deref_mut-parts.result.now.played.period c.deref_mut-parts.result.now.input.items;
      audio = buffers_of c.deref_mut-parts.result.now.played.outputs c.deref_mut-parts.result.now.played.period c.deref_mut-parts.result.now.output.items;
    }

    input_is : take c.deref_mut-parts.result.now.input.len (c.mix_inputs.new.inputs ++ drop (length c.mix_inputs.new.inputs) c.deref_mut-parts.result.now.input.items) ≡ c.mix_inputs.new.inputs
    input_is = front c.deref_mut-parts.result.now.input.len c.mix_inputs.new.inputs (drop (length c.mix_inputs.new.inputs) c.deref_mut-parts.result.now.input.items) (c.mix_inputs.auto.inputs ∙ ap length c.deref_mut-2.ensures.value ∙ sym c.deref_mut-parts.result.now.input.ok.0)

    output_is : take c.deref_mut-parts.result.now.output.len (c.play_front.new.output ++ drop (length c.play_front.new.output) c.deref_mut-parts.result.now.output.items) ≡ c.play_front.new.output
    output_is = front c.deref_mut-parts.result.now.output.len c.play_front.new.output (drop (length c.play_front.new.output) c.deref_mut-parts.result.now.output.items) (c.play_front.auto.output ∙ ap length c.deref_mut-3.ensures.value ∙ sym c.deref_mut-parts.result.now.output.ok.0)

pub returns-clause-rooms : goal.returns-clause-rooms
returns-clause-rooms g c place =
    let seen = rw (← c.deref_mut-parts.ensures.value) at c.self.view_is in
    ap (λ (rooms : List (Option (List Signal))). slice_index_or rooms place None) rooms_is
    ∙ c.fill_rooms.ensures.filled place
    ∙ ap (λ (rooms : List (Option (List Signal))). filled c.deref-2.result.now c.as_slice-2.result.now rooms) c.deref_mut-4.ensures.value
    ∙ ap₂ (λ (sounded : List ℤ) (routes : List Route). filled sounded routes c.deref_mut-parts.result.now.rooms.items) (c.deref-2.ensures.value ∙ output_is) c.as_slice-2.ensures.value
    ∙ ap (λ (value : List Signal). option_map (λ _. value) (slice_index_or c.deref_mut-parts.result.now.rooms.items place None)) (gives-carried g.G.Guest.sound kept (values_of c.args.given.now) c.args.turn (buffers_of c.args.turn.ports.inputs c.args.turn.ports.period c.mix_inputs.new.inputs) (buffers_of c.args.turn.ports.outputs c.args.turn.ports.period c.play_front.new.output) place
    (ap (λ (seen : Seen). seen.kept.turn) seen ∙ c.requires.turn)
    (c.mix_inputs.ensures.mixed ∙ ap (λ (wires : List Wire). inputs_of c.args.turn.ports.period wires (values_of c.args.given.now) c.args.turn.ports.inputs) c.as_slice.ensures.value)
    (c.play_front.ensures.output ∙ ap (λ (heard : List ℤ). (play (own_sounds g.G.Guest.sound c.deref_mut-parts.result.now.bench) c.deref_mut-parts.result.now.bench.kind c.deref_mut-parts.result.now.bench.memory c.args.turn.ports.outputs c.args.turn.moment c.args.turn.ports.period (buffers_of c.args.turn.ports.inputs c.args.turn.ports.period heard)).outputs) (c.deref.ensures.value ∙ input_is)))
    ∙ ap (λ (seen : Seen). option_map (λ _. kept_gives g.G.Guest.sound seen.kept (values_of c.args.given.now) place) (room_at seen place)) seen
  where
    kept : Remembered
    kept = record {
      standing = c.deref_mut-parts.result.now.bench;
      turn = c.deref_mut-parts.result.now.turn;
      wires = c.deref_mut-parts.result.now.wires.items;
      routes = c.deref_mut-parts.result.now.routes.items;
      sounds = buffers_of c.deref_mut-parts.result.now.played.inputs c.deref_mut-parts.result.now.played.period c.deref_mut-parts.result.now.input.items;
      audio = buffers_of c.deref_mut-parts.result.now.played.outputs c.deref_mut-parts.result.now.played.period c.deref_mut-parts.result.now.output.items;
    }

    filled : List ℤ → List Route → List (Option (List Signal)) → Option (List Signal)
    filled sounded routes rooms = option_map (λ _. if nat_lt place c.args.turn.links then carried_by c.args.turn.ports.period (buffers_of c.args.turn.ports.outputs c.args.turn.ports.period sounded) place routes else []) (slice_index_or rooms place None)

    input_is : take c.deref_mut-parts.result.now.input.len (c.mix_inputs.new.inputs ++ drop (length c.mix_inputs.new.inputs) c.deref_mut-parts.result.now.input.items) ≡ c.mix_inputs.new.inputs
    input_is = front c.deref_mut-parts.result.now.input.len c.mix_inputs.new.inputs (drop (length c.mix_inputs.new.inputs) c.deref_mut-parts.result.now.input.items) (c.mix_inputs.auto.inputs ∙ ap length c.deref_mut-2.ensures.value ∙ sym c.deref_mut-parts.result.now.input.ok.0)

    output_is : take c.deref_mut-parts.result.now.output.len (c.play_front.new.output ++ drop (length c.play_front.new.output) c.deref_mut-parts.result.now.output.items) ≡ c.play_front.new.output
    output_is = front c.deref_mut-parts.result.now.output.len c.play_front.new.output (drop (length c.play_front.new.output) c.deref_mut-parts.result.now.output.items) (c.play_front.auto.output ∙ ap length c.deref_mut-3.ensures.value ∙ sym c.deref_mut-parts.result.now.output.ok.0)

    rooms_is : take c.deref_mut-parts.result.now.rooms.len (c.fill_rooms.new.rooms ++ drop (length c.fill_rooms.new.rooms) c.deref_mut-parts.result.now.rooms.items) ≡ c.fill_rooms.new.rooms
    rooms_is = front c.deref_mut-parts.result.now.rooms.len c.fill_rooms.new.rooms (drop (length c.fill_rooms.new.rooms) c.deref_mut-parts.result.now.rooms.items) (c.fill_rooms.auto.rooms ∙ ap length c.deref_mut-4.ensures.value ∙ sym c.deref_mut-parts.result.now.rooms.ok.0)
