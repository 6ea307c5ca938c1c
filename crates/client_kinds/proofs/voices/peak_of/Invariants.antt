use Rattle.std.proofs.Common.{◌≡◌, fold}
use Rattle.port_mixer.specs.session_model.specs.Kinds.{peak_with}
use Rattle.client_kinds.specs.Buffers.{buffers_of}
use Rattle.client_kinds.proofs.voices.peak_of.Given as goal

abbrev pub invariant-loop-place : goal.invariant-loop-place
invariant-loop-place l = l.most ≡ fold peak_with l.peak (buffers_of l.place l.ports.period l.input)
