use Rattle.std.proofs.Common.{◌≡◌}
use Rattle.port_mixer.specs.session_model.specs.Kinds.{outputs_by}
use Rattle.client_kinds.specs.Buffers.{buffers_of}
use Rattle.client_kinds.specs.Sounds.{sound}
use Rattle.client_kinds.proofs.voices.Voice.fill_all.Given as goal

abbrev pub invariant-loop-place : goal.invariant-loop-place
invariant-loop-place l = buffers_of l.place l.ports.period l.output ≡ outputs_by l.place (sound l.self.kind l.self.memory l.moment l.ports.period (buffers_of l.ports.inputs l.ports.period l.input))
