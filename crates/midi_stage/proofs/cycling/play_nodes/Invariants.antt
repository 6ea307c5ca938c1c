use Rattle.std.proofs.Common.{◌≡◌, ◌<◌, ℕ, [], Some, get_or, length}
use Rattle.midi_stage.specs.Sounding.{HavePlayed, no_standing, seat_at, sounded}
use Rattle.midi_stage.proofs.cycling.play_nodes.Given as goal

abbrev pub invariant-loop-node : goal.invariant-loop-node
invariant-loop-node l = record {
  played : HavePlayed l.lists l.nodes l.wiring l.moment l.period l.node l.fn.benches l.benches (sounded l.sounds);
  rest : (b : ℕ) → ((n : ℕ) → n < l.node → seat_at (sounded l.fn.sounds) n ≡ Some b → ⊥) → get_or l.benches b no_standing ≡ get_or l.fn.benches b no_standing;
  kinds : (b : ℕ) → (get_or l.benches b no_standing).kind ≡ (get_or l.fn.benches b no_standing).kind;
  benches : length l.benches ≡ length l.fn.benches;
  gives : length l.sounds.gives.items ≡ length l.fn.sounds.gives.items;
  seats : l.sounds.seats ≡ l.fn.sounds.seats;
  gave : l.sounds.gave ≡ l.fn.sounds.gave;
  outputs : l.sounds.outputs ≡ l.fn.sounds.outputs;
  earlier : l.sounds.earlier ≡ l.fn.sounds.earlier;
  nothing : l.sounds.nothing ≡ [];
}
