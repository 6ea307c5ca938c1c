use Rattle.std.proofs.Common.{◌≡◌}
use Rattle.session_model.specs.Kinds.{outputs_by}
use Rattle.client_kinds.specs.Buffers.{buffers_of}
use Rattle.guest_example.specs.Tremolos.{played}
use Rattle.guest_example.proofs.tremolos.play_places.Given as goal

abbrev pub invariant-loop-place : goal.invariant-loop-place
invariant-loop-place l = buffers_of l.place l.ports.period l.output ≡ outputs_by l.place (played l.half l.start l.ports l.input)
