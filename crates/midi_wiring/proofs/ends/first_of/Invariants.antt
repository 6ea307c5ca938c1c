use Rattle.std.proofs.Common.{◌≡◌, ℕ, ◌<◌, ◌==◌, false, get_or}
use Rattle.jack_types.specs.declared.ports.Client.{Client}
use Rattle.midi_wiring.proofs.ends.first_of.Given as goal

abbrev pub invariant-loop-place : goal.invariant-loop-place
invariant-loop-place l = (k : ℕ) (d : Client) → k < l.place → (l.id.0 == (get_or l.nodes k d).id.0) ≡ false
